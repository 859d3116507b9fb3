-- Were a negative k stopped at 0, nothing would be another: no vote and no polynomial, for any row, after any number of steps.
-- Where k is negative, f_i has no y^i' in its lower part, since that monomial weighs more than its leading one; so w_i would be 0
-- and μ_i would be 1, as the rule has them. c would be smaller by -k, but nothing asks for it: the step is not voted, so there is
-- no score, and its vote is 0 as w_i is, so there is no update. So no row tells from outside whether a negative k is stopped.
-- Assumes nothing.
use mathlib.Core.Path.{◌≡◌, refl, sym, ap, ap₂, ◌∙◌}
use mathlib.Core.List.{List}
use Prim.Native.Nat.{ℕ, zero, suc, ◌+◌, ◌-◌, ◌≤◌, ◌<◌}
use native.Mathlib.Nat as Nat
use native.Mathlib.Nat.{add-zero}
use native.Mathlib.Omega.{arith}
use native.Mathlib.Decide.{dec_lt}
use lib.IntN.{ℤ, pos, ◌-ℤ◌}
use lib.ListN.{set}
use Rattle.algebra.specs.Symbols.{Symbols, Laws}
use Rattle.algebra.proofs.Ring.{minus-zero, equal-same}
use Rattle.algebra.proofs.WeightLaws.{weight-rows}
use Rattle.lists.specs.Tables.{tab}
use Rattle.lists.proofs.Tables.{length-tab, get_or-tab, tab-is}
use Rattle.curve.proofs.Arranged.{Arranged}
use Rattle.published.specs.Start.{Polynomials, start_weight, step_count, lower, f, coefficient}
use Rattle.published.specs.Pairing.{Pairing, pairing, degree_f, degree_g, looked, in_unvoted_step}
use Rattle.published.specs.Pairing.{is_negative, positive_part, is_voted, vote}
use Rattle.published.specs.Steps.{State, no_pair, changed, updated, pairings, substituted, step, after}
use Rattle.published.proofs.Tests.{decided}
use Rattle.published.proofs.Widths.{weight-before}
use Rattle.published.proofs.Simultaneous.{changed-kept}
use Rattle.published.proofs.VotedWeights.{voted-nongap}
use Rattle.published.proofs.PairNumbers.{one-part, pairing-paired, pairing-even, k-negative, k-none, k-whole}
use Rattle.published.proofs.PairNumbers.{voted-whole, negative-unvoted}
use Rattle.published.proofs.PairSymbols.{named, unvoted, w-negative, μ-unvoted}
use Rattle.published.proofs.InPlace.{InPlace}
use Rattle.published.proofs.After.{reached}

module _ (𝓢 : Symbols) (q : ℕ) where
  open 𝓢 use {K}

  -- the numbers of i at step s, made with another k
  unfoldable pub with_k : ℕ → ℕ → Polynomials 𝓢 q → ℕ → ℤ → Pairing 𝓢 q
  with_k u s S i k =
      let P = pairing 𝓢 q u s S i in
      record {
        partner = P.partner;
        k = k;
        c = pos (degree_g 𝓢 q S P.partner) -ℤ k;
        w = (named 𝓢 q u s S i (is_voted q u s) k).w;
        μ = (named 𝓢 q u s S i (is_voted q u s) k).μ;
        ν = P.ν;
      }

  -- with the k of the rule they are those of the rule
  own-k : (u s : ℕ) (S : Polynomials 𝓢 q) (i : ℕ) → with_k u s S i (pairing 𝓢 q u s S i).k ≡ pairing 𝓢 q u s S i
  unfolding with_k pairing
  own-k u s S i = refl

  -- a negative k is stopped at 0
  unfoldable pub stopped : ℕ → ℕ → Polynomials 𝓢 q → ℕ → Pairing 𝓢 q
  stopped u s S i = with_k u s S i (pos (positive_part (pairing 𝓢 q u s S i).k))

  -- step s with such numbers
  unfoldable pub step_stopped : ℕ → ℕ → State 𝓢 q → State 𝓢 q
  step_stopped u s state =
      let Ps = tab q (stopped u s state.polys) in
      let w = vote 𝓢 q u s Ps in
      record { polys = updated 𝓢 q w Ps (substituted 𝓢 q s w state.polys) q; votes = set state.votes s w }

  -- and t steps
  unfoldable pub after_stopped : ℕ → List K → ℕ → State 𝓢 q
  after_stopped u row zero = after 𝓢 q u row 0
  after_stopped u row (suc t) = step_stopped u (start_weight q - t) (after_stopped u row t)

module _ (𝓢 : Symbols) (q : ℕ) (u s : ℕ) (S : Polynomials 𝓢 q) (led : InPlace 𝓢 q (suc s) S) (i : ℕ) (hi : i < q) where
  -- k + i' is the quotient of the step, so that k is negative where i' is larger
  pub stopped_none : degree_f 𝓢 q S i + i + (pairing-paired 𝓢 q u s S i hi).t < (pairing 𝓢 q u s S i).partner
      → coefficient 𝓢 q S (f q i) lower (pairing 𝓢 q u s S i).partner 0 ≡ 𝓢.𝟘
  stopped_none l =
      let paired = pairing-paired 𝓢 q u s S i hi in
      let j = (pairing 𝓢 q u s S i).partner in
      (led.lead_f i hi).low.off j 0 paired.small'
      (omega (arith, paired.rows, weight-rows q i (degree_f 𝓢 q S i), weight-rows q j 0, Nat.mul-le-mul_left q l))

module _ {𝓢 : Symbols} {q : ℕ} (𝓛 : Laws 𝓢 q) (u s : ℕ) (S : Polynomials 𝓢 q) (led : InPlace 𝓢 q (suc s) S) where
  open 𝓢 use {K, 𝟘, 𝟙, minus}

  -- the pairs and the vote of the step, and the pairs with each k stopped
  abbrev Ps : List (Pairing 𝓢 q)
  Ps = pairings 𝓢 q u s S

  abbrev w : K
  w = vote 𝓢 q u s Ps

  abbrev Qs : List (Pairing 𝓢 q)
  Qs = tab q (stopped 𝓢 q u s S)

  module _ (i : ℕ) (hi : i < q) where
    -- the numbers of pair i by the rule and with k stopped, and k + i'
    abbrev P : Pairing 𝓢 q
    P = pairing 𝓢 q u s S i

    abbrev Q : Pairing 𝓢 q
    Q = stopped 𝓢 q u s S i

    abbrev quotient : ℕ
    quotient = degree_f 𝓢 q S i + i + (pairing-paired 𝓢 q u s S i hi).t

    -- a k that is not negative is not stopped
    whole_same : P.partner ≤ quotient → Q ≡ P
    unfolding stopped positive_part
    whole_same l =
        let e = k-whole 𝓢 q u s S i hi l in
        ap (with_k 𝓢 q u s S i) (ap (λ (k : ℤ). pos (positive_part k)) e ∙ sym e) ∙ own-k 𝓢 q u s S i

    -- one that is makes w_i = 0
    negative-w : quotient < P.partner → Q.w ≡ 𝟘
    unfolding stopped with_k in_unvoted_step looked is_negative positive_part
    negative-w l =
        ap₂ (λ t n. (named 𝓢 q u s S i t (pos n)).w) (negative-unvoted 𝓢 q u s S i hi l) (k-none 𝓢 q u s S i hi l)
        ∙ ap minus (stopped_none 𝓢 q u s S led i hi l) ∙ minus-zero 𝓛

    -- and μ_i = 1
    negative-μ : quotient < P.partner → Q.μ ≡ 𝟙
    unfolding stopped with_k in_unvoted_step
    negative-μ l = ap (λ t. (named 𝓢 q u s S i t (pos (positive_part P.k))).μ) (negative-unvoted 𝓢 q u s S i hi l)

    -- as the rule has them
    rule-w : quotient < P.partner → P.w ≡ 𝟘
    rule-w l = w-negative 𝓢 q u s S i (negative-unvoted 𝓢 q u s S i hi l) (k-negative 𝓢 q u s S i hi l)

    -- so each pair names the same symbol with the same factor
    pub stopped-names : (Q.w ≡ P.w) × (Q.μ ≡ P.μ)
    stopped-names = elim (dec_lt quotient P.partner) [
      | yes l ↦ (
        negative-w l ∙ sym (rule-w l),
        negative-μ l ∙ sym (μ-unvoted 𝓢 q u s S i (negative-unvoted 𝓢 q u s S i hi l)),
      )
      | no l ↦
          let same : Q ≡ P = whole_same (omega arith) in
          (ap (λ (R : Pairing 𝓢 q). R.w) same, ap (λ (R : Pairing 𝓢 q). R.μ) same)
    ]

    -- only c is another where k is negative: D, and by the rule D - k
    pub stopped-c : quotient < P.partner → let D = degree_g 𝓢 q S P.partner in
        (positive_part Q.c ≡ D) × (positive_part P.c ≡ D + (P.partner - quotient))
    unfolding stopped with_k positive_part
    stopped-c l =
        let D = degree_g 𝓢 q S P.partner in
        let even = pairing-even 𝓢 q u s S i hi in (
          ap (λ n. positive_part (pos D -ℤ pos n)) (k-none 𝓢 q u s S i hi l) ∙ add-zero D,
          omega (arith, even, one-part P.c (omega (arith, even))),
        )

    -- and changes the same: nothing where k is negative
    changed-same : (T : Polynomials 𝓢 q) → changed 𝓢 q w i Q T ≡ changed 𝓢 q w i P T
    changed-same T = elim (dec_lt quotient P.partner) [
      | yes l ↦
          let none = unvoted 𝓢 q u s Ps (negative-unvoted 𝓢 q u s S i hi l) in
          changed-kept 𝓢 q w i Q T (equal-same 𝓛 _ _ (negative-w l ∙ sym none))
          ∙ sym (changed-kept 𝓢 q w i P T (equal-same 𝓛 _ _ (rule-w l ∙ sym none)))
      | no l ↦ ap (λ (R : Pairing 𝓢 q). changed 𝓢 q w i R T) (whole_same (omega arith))
    ]

  -- the vote is the same: in a voted step no k is negative
  vote-same : vote 𝓢 q u s Qs ≡ w
  unfolding pairings
  vote-same =
      decided (is_voted q u s)
      (λ v. ap (vote 𝓢 q u s) (tab-is (no_pair 𝓢 q) q (pairing 𝓢 q u s S) Qs (length-tab q (stopped 𝓢 q u s S)) (λ i hi.
      get_or-tab q (stopped 𝓢 q u s S) i (no_pair 𝓢 q) hi
      ∙ whole_same i hi (voted-whole 𝓢 q u s S i hi (voted-nongap q u s v)))))
      (λ v. unvoted 𝓢 q u s Qs v ∙ sym (unvoted 𝓢 q u s Ps v))

  -- the polynomials are the same
  updated-same : (T : Polynomials 𝓢 q) (n : ℕ) → n ≤ q → updated 𝓢 q w Qs T n ≡ updated 𝓢 q w Ps T n
  unfolding updated pairings
  updated-same T zero l = refl
  updated-same T (suc n) l =
      rw (get_or-tab q (stopped 𝓢 q u s S) n (no_pair 𝓢 q) l, get_or-tab q (pairing 𝓢 q u s S) n (no_pair 𝓢 q) l)
      (changed-same n l (updated 𝓢 q w Qs T n)
      ∙ ap (changed 𝓢 q w n (pairing 𝓢 q u s S n)) (updated-same T n (omega arith)))

  -- so the step is the same
  pub step-stopped : (state : State 𝓢 q) → state.polys ≡ S → step_stopped 𝓢 q u s state ≡ step 𝓢 q u s state
  unfolding step_stopped step
  step-stopped state e =
      rw (e, vote-same) (ap (λ (T : Polynomials 𝓢 q). record { polys = T; votes = set state.votes s w })
      (updated-same (substituted 𝓢 q s w S) q (omega arith)))

-- and so is what any number of steps leaves of any row
pub after-stopped : {𝓢 : Symbols} {q : ℕ} (𝓛 : Laws 𝓢 q) (𝓐 : Arranged 𝓢 q) (u : ℕ) (row : List 𝓢.K) (t : ℕ)
    → t ≤ step_count q → after_stopped 𝓢 q u row t ≡ after 𝓢 q u row t
unfolding after_stopped after
after-stopped 𝓛 𝓐 u row zero h = refl
after-stopped {𝓢} {q} 𝓛 𝓐 u row (suc t) h =
    ap (step_stopped 𝓢 q u (start_weight q - t)) (after-stopped 𝓛 𝓐 u row t (omega arith))
    ∙ step-stopped 𝓛 u (start_weight q - t) (after 𝓢 q u row t).polys
    (rw (weight-before q t h) at (reached 𝓛 𝓐 u row t (omega arith)).led) (after 𝓢 q u row t) refl
