-- The numbers of a pair at step s: with A the degree of f_i, D that of g_i' and q t + i' = i + s, they are k = A + i + t - i'
-- and c = D - k, with their signs. The pairing i ↦ i' is a permutation; in a voted step k is not negative.
use mathlib.Core.Path.{◌≡◌, refl, sym, ap, ◌∙◌}
use mathlib.Core.Bool.{true, false, cond}
use Prim.Native.Nat.{ℕ, zero, suc, ◌+◌, ◌*◌, ◌-◌, ◌≤◌, ◌<◌}
use native.Mathlib.Omega.{arith}
use native.Mathlib.Decide.{dec_lt}
use lib.IntN.{ℤ, pos, negsuc, sub_ℕ, ◌-ℤ◌}
use borrow.Author.Tests.{lt-ltb, le-ltb}
use Rattle.algebra.specs.Symbols.{Symbols}
use Rattle.algebra.specs.Weights.{weight, nongap}
use Rattle.algebra.proofs.WeightLaws.{weight-rows}
use Rattle.algebra.proofs.Partners.{partner, partner_back, partner-partner_back, partner-inj, partner_back-below}
use Rattle.algebra.proofs.Partners.{Paired, paired, pair-remainder, pair-quotient, pair-nonnegative}
use Rattle.published.specs.Start.{Polynomials}
use Rattle.published.specs.Pairing.{Pairing, pairing, degree_f, degree_g, partner_of, k_of}
use Rattle.published.specs.Pairing.{is_voted, is_negative, positive_part, negative_part}
use Rattle.published.proofs.Tests.{decided}
use Rattle.published.proofs.VotedWeights.{voted-nongap}

-- a - b is not negative
pub sub-pos : (a b : ℕ) → b ≤ a → sub_ℕ a b ≡ pos (a - b)
sub-pos a b h = ap (λ t. cond t (negsuc (b - suc a)) (pos (a - b))) (le-ltb a b h)

-- a - b is negative
pub sub-neg : (a b : ℕ) → a < b → sub_ℕ a b ≡ negsuc (b - suc a)
sub-neg a b h = ap (λ t. cond t (negsuc (b - suc a)) (pos (a - b))) (lt-ltb a b h)

-- at most one of max(c, 0) and max(-c, 0) is not 0
pub one-part : (c : ℤ) → 0 < positive_part c → negative_part c ≡ 0
unfolding positive_part negative_part
one-part (pos n) h = refl
one-part (negsuc n) h = absurd (omega arith)

-- a - b is the difference of its two parts
sub_parts : (a b : ℕ) → positive_part (sub_ℕ a b) + b ≡ negative_part (sub_ℕ a b) + a
unfolding positive_part negative_part
sub_parts a b = elim (dec_lt a b) [
  | yes l ↦ rw (sub-neg a b l) (omega arith)
  | no l ↦ rw (sub-pos a b (omega arith)) (omega arith)
]

-- the same for two numbers that are not negative
minus-parts : (d m : ℕ) → positive_part (pos d -ℤ pos m) + m ≡ negative_part (pos d -ℤ pos m) + d
unfolding positive_part negative_part
minus-parts d zero = omega arith
minus-parts d (suc m) = sub_parts d (suc m)

-- and for d - (a - b), where a - b may be negative
parts-of : (d a b : ℕ) → positive_part (pos d -ℤ sub_ℕ a b) + a ≡ negative_part (pos d -ℤ sub_ℕ a b) + (d + b)
unfolding positive_part negative_part
parts-of d a b = elim (dec_lt a b) [
  | yes l ↦ rw (sub-neg a b l) (omega arith)
  | no l ↦ rw (sub-pos a b (omega arith)) (omega (arith, minus-parts d (a - b)))
]

module _ (𝓢 : Symbols) (q : ℕ) (u s : ℕ) (S : Polynomials 𝓢 q) where
  module _ (i : ℕ) (hi : i < q) where
    -- the numbers of pair i, and A
    abbrev P : Pairing 𝓢 q
    P = pairing 𝓢 q u s S i

    abbrev A : ℕ
    A = degree_f 𝓢 q S i

    -- i' depends on i and s alone
    pub pairing-partner : P.partner ≡ partner q s i
    unfolding pairing partner_of weight
    pairing-partner = pair-remainder q (paired q s i hi) A

    -- i' is the partner of i
    pub pairing-paired : Paired q s i P.partner
    pairing-paired = record {
      t = (paired q s i hi).t;
      small = hi;
      small' = rw pairing-partner (paired q s i hi).small';
      rows = (paired q s i hi).rows ∙ ap (λ n. q * (paired q s i hi).t + n) (sym pairing-partner);
    }

    -- k + i' = A + i + t
    pairing-k : P.k ≡ sub_ℕ (A + i + pairing-paired.t) P.partner
    unfolding pairing partner_of k_of weight
    pairing-k = ap (λ n. sub_ℕ n P.partner) (pair-quotient q pairing-paired A)

    -- c = D - k
    pairing-c : P.c ≡ pos (degree_g 𝓢 q S P.partner) -ℤ P.k
    unfolding pairing
    pairing-c = refl

    -- so c + A + i + t = D + i'
    pub pairing-even : positive_part P.c + (A + i + pairing-paired.t)
        ≡ negative_part P.c + (degree_g 𝓢 q S P.partner + P.partner)
    pairing-even =
        rw (pairing-c, pairing-k) (parts-of (degree_g 𝓢 q S P.partner) (A + i + pairing-paired.t) P.partner)

    -- max(c, 0) more for f_i and max(-c, 0) more for g_i' make the same weight
    pub pairing-weights : weight q i A + s + q * positive_part P.c
        ≡ weight q P.partner (degree_g 𝓢 q S P.partner) + q * negative_part P.c
    pairing-weights =
        let D = degree_g 𝓢 q S P.partner in
        omega (arith, pairing-paired.rows, weight-rows q i A, weight-rows q P.partner D, ap (λ n. q * n) pairing-even)

    -- k is negative
    pub k-negative : A + i + pairing-paired.t < P.partner → is_negative P.k ≡ true
    unfolding is_negative
    k-negative h = rw (pairing-k, sub-neg (A + i + pairing-paired.t) P.partner h)

    -- and max(k, 0) is then 0
    pub k-none : A + i + pairing-paired.t < P.partner → positive_part P.k ≡ 0
    unfolding positive_part
    k-none h = rw (pairing-k, sub-neg (A + i + pairing-paired.t) P.partner h)

    -- k is not negative
    pub k-whole : P.partner ≤ A + i + pairing-paired.t → P.k ≡ pos (A + i + pairing-paired.t - P.partner)
    k-whole h = pairing-k ∙ sub-pos (A + i + pairing-paired.t) P.partner h

    -- for a non-gap s, so in every voted step, k is not negative: the sum of two non-gaps is a non-gap
    pub voted-whole : nongap q s ≡ true → P.partner ≤ A + i + pairing-paired.t
    voted-whole n = pair-nonnegative q pairing-paired n A

    -- so a negative k says that the step is not voted
    pub negative-unvoted : A + i + pairing-paired.t < P.partner → is_voted q u s ≡ false
    negative-unvoted h =
        decided (is_voted q u s) (λ v. absurd (omega (arith, voted-whole (voted-nongap q u s v)))) (λ v. v)

  -- the pairing is a permutation: different i have different partners
  pub pairing-apart : (i i' : ℕ) → i < q → i' < q → (pairing 𝓢 q u s S i).partner ≡ (pairing 𝓢 q u s S i').partner → i ≡ i'
  pairing-apart i i' hi hi' e = partner-inj q s i i' hi hi' (sym (pairing-partner i hi) ∙ e ∙ pairing-partner i' hi')

  -- and every j is the partner of some i
  pub pairing-onto : (j : ℕ) → j < q → (pairing 𝓢 q u s S (partner_back q s j)).partner ≡ j
  pairing-onto j hj =
      pairing-partner (partner_back q s j) (partner_back-below q s j (omega arith)) ∙ partner-partner_back q s j hj
