-- A voted step whose vote is right. The locators are members, so no f_i has a larger degree than its locator. If the right
-- symbol were substituted, a pair that names a wrong one would raise f_i; so the pair's gain is part of its locator's degree.
-- So the right symbol outvotes all others together, as long as twice the errors are below the sum of max(q² - k, 0) over the
-- pairs of the start.
-- Assumes nothing.
use mathlib.Core.Path.{◌≡◌, sym, ap, ◌∙◌}
use mathlib.Core.Logic.{◌≢◌, inr}
use mathlib.Core.Bool.{Bool, true, false}
use Prim.Native.Nat.{ℕ, suc, ◌+◌, ◌*◌, ◌-◌, ◌/◌, ◌%◌, ◌≤◌, ◌<◌}
use native.Mathlib.Nat as Nat
use native.Mathlib.Omega.{arith}
use native.Mathlib.Decide.{dec_lt}
use Rattle.algebra.specs.Symbols.{Symbols, Laws, same}
use Rattle.algebra.specs.Weights.{weight, nongap}
use Rattle.algebra.specs.Functions.{Fn, times_monomial}
use Rattle.algebra.specs.Totals.{total}
use Rattle.algebra.proofs.Ring.{ring, linear, same_false}
use Rattle.algebra.proofs.Powers.{two-le-q}
use Rattle.algebra.proofs.NumberSums.{total-cong, total-add}
use Rattle.algebra.proofs.Partners.{Paired, total-partner, pair-weight, pair-quotient, pair-remainder}
use Rattle.algebra.proofs.Bounds.{plus}
use Rattle.algebra.proofs.Leads.{substituted-upper, substituted-at}
use Rattle.curve.specs.Codes.{point_count}
use Rattle.curve.proofs.Arranged.{Arranged}
use Rattle.published.specs.Start.{Polynomials, upper, lower, f, coefficient}
use Rattle.published.specs.Pairing.{Pairing, pairing, degree_f, degree_g, lead_f, is_voted, positive_part, score, vote}
use Rattle.published.specs.Steps.{pairings}
use Rattle.published.proofs.PairNumbers.{one-part, pairing-partner, pairing-paired, pairing-even, k-whole, voted-whole}
use Rattle.published.proofs.PairSymbols.{w-voted}
use Rattle.published.proofs.VotedWeights.{voted-nongap}
use Rattle.published.proofs.Best.{Greatest}
use Rattle.published.proofs.Scores.{no_tie, outvoting-is-voted}
use Rattle.published.proofs.InPlace.{InPlace}
use Rattle.withinreach.specs.Margin.{start_gain, start_gains, gain, gains_for, gains_against}
use Rattle.withinreach.proofs.Members.{member-substituted, lessened}
use Rattle.withinreach.proofs.Least.{Least, least-swap}
use Rattle.withinreach.proofs.LeastStep.{Members, LeastOf, least-substituted}
use Rattle.withinreach.proofs.Locators.{Locators, count}
use Rattle.withinreach.proofs.Images.{xs, ys, Left, image-lead, image-member}
use Rattle.withinreach.proofs.Counting.{outvoting}

module _ {𝓢 : Symbols} {q : ℕ} (𝓛 : Laws 𝓢 q) (𝓐 : Arranged 𝓢 q) (agrees : ℕ → Bool)
    (E : Locators 𝓛 (xs 𝓢 q) (ys 𝓢 q) agrees (point_count q)) where
  infixl 65 ◌⊕◌
  infixl 70 ◌⊗◌
  open 𝓢 use {K, 𝟘, ◌⊕◌, minus, ◌⊗◌, inverse}

  -- b + ω μ = 0 says that ω is -b/μ
  quotient-only : (b ω μ : K) → μ ≢ 𝟘 → b ⊕ ω ⊗ μ ≡ 𝟘 → ω ≡ minus b ⊗ inverse μ
  quotient-only b ω μ h e =
      linear 𝓛 (sym (ap (λ z. ω ⊗ z) (𝓛.mul-inverse μ h))) (linear 𝓛 (ap (λ z. z ⊗ inverse μ) e) (simp (ring, 𝓛)))

  -- a voted step at s, the right symbol ω, and what is left of the message before the step and after ω is taken away
  module _ (u s : ℕ) (S : Polynomials 𝓢 q) (led : InPlace 𝓢 q (suc s) S) {r : ℕ → K} (members : Members 𝓢 q r S)
      (least : LeastOf 𝓢 q r (suc s) S) (voted : is_voted q u s ≡ true) (ω : K) {rest rest' : Fn 𝓢 q}
      (left : Left 𝓢 q agrees r (suc s) rest) (left' : Left 𝓢 q agrees (lessened 𝓢 q s ω r) s rest') where
    -- the numbers of the pairs
    abbrev P : ℕ → Pairing 𝓢 q
    P = pairing 𝓢 q u s S

    abbrev A : ℕ → ℕ
    A i = degree_f 𝓢 q S i

    abbrev D : ℕ → ℕ
    D i = degree_g 𝓢 q S (P i).partner

    -- s has a monomial
    some : nongap q s ≡ true
    some = voted-nongap q u s voted

    -- no f_i has a larger degree than its locator
    degree-low : (i : ℕ) → i < q → A i ≤ E.e i
    degree-low i hi = (least.pair i i hi hi).up (E.e i) (image-member 𝓛 𝓐 agrees E left i hi) (image-lead 𝓛 𝓐 agrees E i hi left.cut)

    -- a pair that names a wrong symbol
    module _ (i : ℕ) (hi : i < q) (wrong : same 𝓢 (P i).w ω ≡ false) where
      abbrev j : ℕ
      j = (P i).partner

      abbrev pair : Paired q s i j
      pair = pairing-paired 𝓢 q u s S i hi

      abbrev k : ℕ
      k = A i + i + pair.t - j

      -- k is not negative
      whole : j ≤ A i + i + pair.t
      whole = voted-whole 𝓢 q u s S i hi some

      -- x^k y^i' has the weight of the lead of f_i
      heavy : weight q i (A i) + s ≡ weight q j k
      heavy = pair-weight q pair (A i) k (omega (arith, whole))

      -- f_i
      abbrev U : Fn 𝓢 q
      U = coefficient 𝓢 q S (f q i) upper

      abbrev L : Fn 𝓢 q
      L = coefficient 𝓢 q S (f q i) lower

      -- the symbol that the pair names
      named : (P i).w ≡ minus (L j k) ⊗ inverse (lead_f 𝓢 q S i)
      named = w-voted 𝓢 q u s S i voted k (k-whole 𝓢 q u s S i hi whole)

      -- with ω for z the lower part of f_i would have a coefficient at x^k y^i'
      there : plus 𝓢 q ω L (times_monomial 𝓢 q s U) j k ≢ 𝟘
      unfolding lead_f
      there z =
          let at = substituted-at 𝓛 some ω hi j k pair.small' heavy (led.lead_f i hi) in
          same_false 𝓛 (P i).w ω wrong
          (named ∙ sym (quotient-only (L j k) ω (lead_f 𝓢 q S i) (led.lead_f i hi).top (sym at ∙ z)))

      -- the degrees are the least of the members that are left if ω is taken away
      least-ω : Least 𝓢 q (lessened 𝓢 q s ω r) (suc s) i j (A i) (D i)
      least-ω = least-substituted 𝓛 𝓐 ω (inr some) hi pair.small' (least.pair i j hi pair.small')

      -- so the pair's gain is part of the locator's degree
      lost : gain 𝓢 q (P i) + A i ≤ E.e i
      unfolding gain
      lost = elim (dec_lt k (D i)) [
        | yes l ↦
            let swapped = least-swap 𝓛 pair least-ω (member-substituted 𝓛 (members.of (f q i) (omega arith)) 𝓐 s some ω)
            (substituted-upper 𝓛 some ω hi (led.lead_f i hi)) (D i - k) k (omega arith) heavy there in
            let raised = swapped.up (E.e i) (image-member 𝓛 𝓐 agrees E left' i hi) (image-lead 𝓛 𝓐 agrees E i hi left'.cut) in
            let even = pairing-even 𝓢 q u s S i hi in
            let positive : 0 < positive_part (P i).c = omega (arith, whole) in
            omega (arith, whole, one-part (P i).c positive)
        | no l ↦ elim (dec_lt 0 (positive_part (P i).c)) [
          | yes positive ↦
              absurd (omega (arith, whole, pairing-even 𝓢 q u s S i hi, one-part (P i).c positive))
          | no none ↦ omega (arith, degree-low i hi)
        ]
      ]

    -- all degrees add up to n
    degrees : total q (λ i. A i + D i) ≡ q * (q * q)
    degrees =
        let ordered = total-cong q (λ i hi. ap (degree_g 𝓢 q S) (pairing-partner 𝓢 q u s S i hi)) in
        let all = total-partner q s (degree_g 𝓢 q S) (omega (arith, two-le-q 𝓛)) in
        total-add q A D ∙ ap (λ n. total q A + n) (ordered ∙ all) ∙ led.sum ∙ Nat.mul_assoc q q q

    -- what a pair gains at least
    worth : (i : ℕ) → i < q → D i + (weight q i 0 + s) % q ≤ gain 𝓢 q (P i) + (A i + (weight q i 0 + s) / q)
    unfolding gain
    worth i hi =
        let pair = pairing-paired 𝓢 q u s S i hi in
        omega (arith, pairing-even 𝓢 q u s S i hi, pair-remainder q pair 0, pair-quotient q pair 0)

    -- twice the errors are below the gains of the start
    module _ (few : 2 * count 𝓛 (xs 𝓢 q) (ys 𝓢 q) agrees (point_count q) < start_gains q s) where
      -- the right symbol is given more than all others together
      pub outvoted : gains_against 𝓢 q P ω < gains_for 𝓢 q P ω
      unfolding start_gains start_gain gains_for gains_against
      outvoted =
          omega (
            arith,
            few,
            E.few,
            outvoting q (q * q) A D E.e (λ i. (weight q i 0 + s) / q) (λ i. (weight q i 0 + s) % q)
                (λ i. gain 𝓢 q (P i)) (λ i. same 𝓢 (P i).w ω) degrees degree-low
                (λ i hi. led.fit_g (P i).partner (pairing-paired 𝓢 q u s S i hi).small') worth lost,
          )

      -- so no tie is decided: whichever symbol of a greatest score is taken, it is the right one
      pub untied : (m : ℕ) → Greatest (score 𝓢 q (pairings 𝓢 q u s S)) (q * q - 1) m → m ≡ 𝓢.number ω
      unfolding pairings gains_for gains_against gain
      untied = no_tie 𝓛 u s P ω outvoted

      -- and it is the vote
      pub right-vote : vote 𝓢 q u s (pairings 𝓢 q u s S) ≡ ω
      unfolding pairings gains_for gains_against gain
      right-vote = outvoting-is-voted 𝓛 u s P ω voted outvoted
