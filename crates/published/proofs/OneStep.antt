-- One whole step. Every lead that stands in its place under a weight of z stands in its place under the weight that is one
-- less; A_i + D_i' does not change and D_i never rises, so that the sum of all degrees stays; what is zero at a point stays
-- zero there.
use mathlib.Core.Path.{◌≡◌, sym, ap, ap₂, ◌∙◌}
use mathlib.Core.List.{List}
use Prim.Native.Nat.{ℕ, suc, ◌+◌, ◌*◌, ◌≤◌, ◌<◌}
use native.Mathlib.Omega.{arith}
use lib.ListN.{get_or}
use Rattle.algebra.specs.Symbols.{Symbols, Laws}
use Rattle.algebra.specs.Weights.{weight}
use Rattle.algebra.specs.Functions.{monomial_at}
use Rattle.algebra.specs.Totals.{total}
use Rattle.algebra.proofs.Powers.{two-le-q}
use Rattle.algebra.proofs.WeightLaws.{weight-mono}
use Rattle.algebra.proofs.NumberSums.{total-cong, total-add}
use Rattle.algebra.proofs.Partners.{partner_back, partner_back-below, total-partner}
use Rattle.algebra.proofs.OnCurve.{OnCurve}
use Rattle.lists.proofs.Tables.{get_or-tab}
use Rattle.published.specs.Start.{Polynomials, width, f, g, coefficient}
use Rattle.published.specs.Pairing.{Pairing, pairing, degree_f, degree_g}
use Rattle.published.specs.Steps.{substituted, changed, no_pair, updated, pairings}
use Rattle.published.specs.Meaning.{vote_on}
use Rattle.published.proofs.Widths.{degree-fits}
use Rattle.published.proofs.Parts.{LeadsUpper, LeadsLower, ZeroAt}
use Rattle.published.proofs.Reading.{each-polynomial, coefficient-cong}
use Rattle.published.proofs.Simultaneous.{SamePair, updated-before, simultaneous}
use Rattle.published.proofs.Degrees.{degree_f-is, degree_g-is}
use Rattle.published.proofs.PairNumbers.{pairing-partner, pairing-paired, pairing-apart, pairing-onto}
use Rattle.published.proofs.PairStep.{pair-sum, pair-falls, pair_fits, pair-upper, pair-lower}
use Rattle.published.proofs.PairStep.{pair-zero-f, pair-zero-g}
use Rattle.published.proofs.InPlace.{InPlace}
use Rattle.published.proofs.Substitution.{substituted-f, substituted-g, substituted-zero}
use Rattle.published.proofs.PairGap.{vote-substitutable}
use Rattle.published.proofs.PairRule.{Outcome, pair-rule}

module _ {𝓢 : Symbols} {q : ℕ} (𝓛 : Laws 𝓢 q) (u s : ℕ) (S : Polynomials 𝓢 q) where
  infixl 65 ◌⊖◌
  infixl 70 ◌⊗◌
  open 𝓢 use {K, ◌⊖◌, ◌⊗◌}

  -- the numbers of all pairs, and the vote
  abbrev Ps : List (Pairing 𝓢 q)
  Ps = pairings 𝓢 q u s S

  abbrev w : K
  w = vote_on 𝓢 q u s S

  -- the polynomials between the substitution and the update
  abbrev S' : Polynomials 𝓢 q
  S' = substituted 𝓢 q s w S

  -- and after the step
  abbrev S'' : Polynomials 𝓢 q
  S'' = updated 𝓢 q w Ps S' q

  -- the partner of i
  abbrev J : ℕ → ℕ
  J i = (pairing 𝓢 q u s S i).partner

  -- which is a row
  J-below : (i : ℕ) → i < q → J i < q
  J-below i hi = (pairing-paired 𝓢 q u s S i hi).small'

  -- the numbers of pair i
  pairing-at : (i : ℕ) → i < q → get_or Ps i (no_pair 𝓢 q) ≡ pairing 𝓢 q u s S i
  unfolding pairings
  pairing-at i hi = get_or-tab q (pairing 𝓢 q u s S) i (no_pair 𝓢 q) hi

  -- every partner in the list is a row
  below : (i : ℕ) → i < q → (get_or Ps i (no_pair 𝓢 q)).partner < q
  below i hi = rw (pairing-at i hi) (J-below i hi)

  -- no two pairs have a polynomial in common
  apart : (i i' : ℕ) → i < q → i' < q → (get_or Ps i (no_pair 𝓢 q)).partner ≡ (get_or Ps i' (no_pair 𝓢 q)).partner → i ≡ i'
  apart i i' hi hi' e = pairing-apart 𝓢 q u s S i i' hi hi' (rw (pairing-at i hi, pairing-at i' hi') at e)

  -- before its turn a pair is as the substitution left it
  pub pair-before : (i : ℕ) → i < q → SamePair 𝓢 q i (J i) (updated 𝓢 q w Ps S' i) S'
  pair-before i hi = rw (pairing-at i hi) at (updated-before 𝓢 q w Ps S' below apart i i (omega arith) hi)

  -- after the step it is what it becomes by itself
  pair-after : (i : ℕ) → i < q → SamePair 𝓢 q i (J i) S'' (changed 𝓢 q w i (pairing 𝓢 q u s S i) S')
  pair-after i hi = rw (pairing-at i hi) at (simultaneous 𝓢 q w Ps S' below apart i hi)

  -- every g_j is the partner of some f_i
  pub each-partner : (Q : ℕ → Type 0) → ((i : ℕ) → i < q → Q (J i)) → (j : ℕ) → j < q → Q j
  each-partner Q h j hj =
      rw (pairing-onto 𝓢 q u s S j hj) at (h (partner_back q s j) (partner_back-below q s j (omega arith)))

  module _ (led : InPlace 𝓢 q (suc s) S) where
    -- what the step makes of pair i
    pub step_of : (i : ℕ) → i < q → Outcome 𝓢 q s i (J i) (degree_f 𝓢 q S i) (degree_g 𝓢 q S (J i))
        (coefficient 𝓢 q S' (f q i)) (coefficient 𝓢 q S' (g q (J i)))
        (coefficient 𝓢 q S'' (f q i)) (coefficient 𝓢 q S'' (g q (J i)))
    step_of i hi =
        let T = changed 𝓢 q w i (pairing 𝓢 q u s S i) S' in
        let F= = coefficient-cong 𝓢 q S'' T (f q i) (f q i) (pair-after i hi).of-f in
        let G= = coefficient-cong 𝓢 q S'' T (g q (J i)) (g q (J i)) (pair-after i hi).of-g in
        rw (F=, G=) (pair-rule 𝓛 u s S led i hi)

    module _ (i : ℕ) (hi : i < q) where
      -- the pair of i, before and after the step
      abbrev j : ℕ
      j = J i

      -- the lead of g_i' fits
      fit-g : weight q j (degree_g 𝓢 q S j) + 1 < q * width q
      fit-g = degree-fits q (two-le-q 𝓛) j (degree_g 𝓢 q S j) (J-below i hi) (led.fit_g j (J-below i hi))

      -- the leads after the substitution
      before-f : LeadsUpper 𝓢 q (suc s) i (degree_f 𝓢 q S i) (coefficient 𝓢 q S' (f q i))
      before-f = substituted-f 𝓛 s w S (vote-substitutable 𝓛 u s S) led i hi

      -- that of g_i'
      before-g : LeadsLower 𝓢 q (suc s) j (degree_g 𝓢 q S j) (coefficient 𝓢 q S' (g q j))
      before-g = substituted-g 𝓛 s w S (vote-substitutable 𝓛 u s S) led j (J-below i hi)

      -- and after the step
      after-f : LeadsUpper 𝓢 q s i (step_of i hi).A' (coefficient 𝓢 q S'' (f q i))
      after-f = pair-upper 𝓛 hi (J-below i hi) before-f before-g (step_of i hi).made

      -- that of the new g_i'
      after-g : LeadsLower 𝓢 q s j (step_of i hi).D' (coefficient 𝓢 q S'' (g q j))
      after-g = pair-lower 𝓛 hi (J-below i hi) before-f before-g (step_of i hi).made

      -- the lead of the new f_i fits
      fits_after : weight q i (step_of i hi).A' + s < q * width q
      fits_after = pair_fits 𝓢 q (q * width q) (led.fit_f i hi) (omega (arith, fit-g)) (step_of i hi).made

      -- the degrees that the next step will read
      pub is-A : degree_f 𝓢 q S'' i ≡ (step_of i hi).A'
      is-A = degree_f-is 𝓛 S'' i hi after-f (omega (arith, fits_after))

      -- and D_i'
      pub is-D : degree_g 𝓢 q S'' j ≡ (step_of i hi).D'
      is-D =
          let D' = (step_of i hi).D' in
          let lighter = weight-mono q j {i = D'} {i' = degree_g 𝓢 q S j} (pair-falls 𝓢 q (step_of i hi).made) in
          degree_g-is 𝓛 S'' j (J-below i hi) after-g (omega (arith, fit-g, lighter))

      -- A_i + D_i' does not change
      pub degrees-of-pair : degree_f 𝓢 q S'' i + degree_g 𝓢 q S'' j ≡ degree_f 𝓢 q S i + degree_g 𝓢 q S j
      degrees-of-pair = ap₂ ◌+◌ is-A is-D ∙ pair-sum 𝓢 q (step_of i hi).made

    -- D_j never rises
    pub degree_g-falls : (j : ℕ) → j < q → degree_g 𝓢 q S'' j ≤ degree_g 𝓢 q S j
    degree_g-falls =
        each-partner (λ j. degree_g 𝓢 q S'' j ≤ degree_g 𝓢 q S j) (λ i hi. rw (is-D i hi) (pair-falls 𝓢 q (step_of i hi).made))

    -- the sum of all degrees does not change
    degrees-of-all : total q (degree_f 𝓢 q S'') + total q (degree_g 𝓢 q S'')
        ≡ total q (degree_f 𝓢 q S) + total q (degree_g 𝓢 q S)
    degrees-of-all = sym (by-pairs S'') ∙ total-cong q (λ i hi. degrees-of-pair i hi) ∙ by-pairs S
      where
        by-pairs : (T : Polynomials 𝓢 q)
            → total q (λ i. degree_f 𝓢 q T i + degree_g 𝓢 q T (J i)) ≡ total q (degree_f 𝓢 q T) + total q (degree_g 𝓢 q T)
        by-pairs T =
            let ordered = total-cong q (λ i hi. ap (degree_g 𝓢 q T) (pairing-partner 𝓢 q u s S i hi)) in
            let all = total-partner q s (degree_g 𝓢 q T) (omega (arith, two-le-q 𝓛)) in
            total-add q (degree_f 𝓢 q T) (λ i. degree_g 𝓢 q T (J i)) ∙ ap (λ n. total q (degree_f 𝓢 q T) + n) (ordered ∙ all)

    -- every lead stands in its place under the weight that is one less
    pub step-in-place : InPlace 𝓢 q s S''
    step-in-place = record {
      lead_f = λ i hi. rw (is-A i hi) (after-f i hi);
      lead_g = each-partner (λ j. LeadsLower 𝓢 q s j (degree_g 𝓢 q S'' j) (coefficient 𝓢 q S'' (g q j)))
          (λ i hi. rw (is-D i hi) (after-g i hi));
      fit_f = λ i hi. rw (is-A i hi) (fits_after i hi);
      fit_g = λ j hj. omega (arith, degree_g-falls j hj, led.fit_g j hj);
      sum = degrees-of-all ∙ led.sum;
    }

    -- what was zero at z = r is zero at r less w times the monomial's value
    pub step-zero : (x y r : K) → OnCurve 𝓢 q x y → ((p : ℕ) → p < 2 * q → ZeroAt 𝓢 q x y r (coefficient 𝓢 q S p))
        → (p : ℕ) → p < 2 * q → ZeroAt 𝓢 q x y (r ⊖ w ⊗ monomial_at 𝓢 q s x y) (coefficient 𝓢 q S'' p)
    step-zero x y r curve v =
        each-polynomial q (λ p. ZeroAt 𝓢 q x y r' (coefficient 𝓢 q S'' p))
        (each-partner (λ j. ZeroAt 𝓢 q x y r' (coefficient 𝓢 q S'' (g q j))) of-g) of-f
      where
        r' : K
        r' = r ⊖ w ⊗ monomial_at 𝓢 q s x y

        between : (p : ℕ) → p < 2 * q → ZeroAt 𝓢 q x y r' (coefficient 𝓢 q S' p)
        between p hp = substituted-zero 𝓛 s w S (vote-substitutable 𝓛 u s S) led x y r p curve hp (v p hp)

        zero-f : (i : ℕ) → i < q → ZeroAt 𝓢 q x y r' (coefficient 𝓢 q S' (f q i))
        zero-f i hi = between (f q i) (omega arith)

        zero-g : (i : ℕ) → i < q → ZeroAt 𝓢 q x y r' (coefficient 𝓢 q S' (g q (J i)))
        zero-g i hi = between (g q (J i)) (omega (arith, J-below i hi))

        of-f : (i : ℕ) → i < q → ZeroAt 𝓢 q x y r' (coefficient 𝓢 q S'' (f q i))
        of-f i hi =
            pair-zero-f 𝓛 (coefficient 𝓢 q S' (f q i)) (coefficient 𝓢 q S' (g q (J i)))
            (zero-f i hi) (zero-g i hi) (step_of i hi).made

        of-g : (i : ℕ) → i < q → ZeroAt 𝓢 q x y r' (coefficient 𝓢 q S'' (g q (J i)))
        of-g i hi =
            pair-zero-g 𝓛 (coefficient 𝓢 q S' (f q i)) (coefficient 𝓢 q S' (g q (J i)))
            (zero-f i hi) (zero-g i hi) (step_of i hi).made
