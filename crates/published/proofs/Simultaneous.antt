-- The update of all pairs at once. Each pair (f_i, g_i') is changed by itself alone, and no two pairs have a polynomial in
-- common, so that doing one after the other is doing all at the same time.
use mathlib.Core.Path.{◌≡◌, refl, sym, ap, ap₂, ◌∙◌}
use mathlib.Core.Logic.{◌≢◌}
use mathlib.Core.Bool.{true, false}
use mathlib.Core.List.{List, []}
use Prim.Native.Nat.{ℕ, zero, suc, ◌*◌, ◌≤◌, ◌<◌}
use native.Mathlib.Omega.{arith}
use native.Mathlib.Decide.{ℕ_discrete}
use lib.Dec.{ltb}
use lib.ListN.{get_or}
use Rattle.algebra.specs.Symbols.{Symbols, same}
use Rattle.algebra.specs.Functions.{times_x}
use Rattle.published.specs.Start.{Polynomial, Polynomials, f, g, polynomial}
use Rattle.published.specs.Pairing.{Pairing, positive_part, negative_part}
use Rattle.published.specs.Steps.{raised_part, reduced_part, replaced, exchanged, ratio, changed, no_pair, updated}
use Rattle.published.proofs.Tests.{decided}
use Rattle.published.proofs.Parts.{Parts}
use Rattle.published.proofs.Reading.{coefficient-cong, replaced-here, replaced-other}
use Rattle.published.proofs.Reading.{exchanged-f, exchanged-g, exchanged-other}

module _ (𝓢 : Symbols) (q : ℕ) where
  infixl 65 ◌⊖◌
  infixl 70 ◌⊗◌
  open 𝓢 use {K, ◌⊖◌, ◌⊗◌}

  -- the two polynomials of the pair (f_i, g_j) are the same in S and T
  pub record SamePair (i j : ℕ) (S T : Polynomials 𝓢 q) : Type 0 where
    pub of-f : get_or S (f q i) [] ≡ get_or T (f q i) []
    pub of-g : get_or S (g q j) [] ≡ get_or T (g q j) []

  -- what is the same as a third is the same
  same-pair-trans : {i j : ℕ} {S T R : Polynomials 𝓢 q} → SamePair i j S T → SamePair i j T R → SamePair i j S R
  same-pair-trans a b = record { of-f = a.of-f ∙ b.of-f; of-g = a.of-g ∙ b.of-g }

  -- the raised f_i depends on the two polynomials of the pair alone
  pub raised_part-cong : (i j c : ℕ) (r : K) {S T : Polynomials 𝓢 q} → SamePair i j S T
      → raised_part 𝓢 q S i j c r ≡ raised_part 𝓢 q T i j c r
  unfolding raised_part
  raised_part-cong i j c r {S} {T} e =
      ap₂ {C = Parts 𝓢 q} (λ (F G : Parts 𝓢 q). λ part b n. times_x 𝓢 q c (F part) b n ⊖ r ⊗ G part b n)
      (coefficient-cong 𝓢 q S T (f q i) (f q i) e.of-f) (coefficient-cong 𝓢 q S T (g q j) (g q j) e.of-g)

  -- and so does the reduced one
  pub reduced_part-cong : (i j c : ℕ) (r : K) {S T : Polynomials 𝓢 q} → SamePair i j S T
      → reduced_part 𝓢 q S i j c r ≡ reduced_part 𝓢 q T i j c r
  unfolding reduced_part
  reduced_part-cong i j c r {S} {T} e =
      ap₂ {C = Parts 𝓢 q} (λ (F G : Parts 𝓢 q). λ part b n. F part b n ⊖ r ⊗ times_x 𝓢 q c (G part) b n)
      (coefficient-cong 𝓢 q S T (f q i) (f q i) e.of-f) (coefficient-cong 𝓢 q S T (g q j) (g q j) e.of-g)

  -- the three cases of pair i
  module _ (w : K) (i : ℕ) (P : Pairing 𝓢 q) where
    -- the new f_i where c > 0, and where c ≤ 0
    unfoldable pub raised_f : Polynomials 𝓢 q → Polynomial 𝓢 q
    raised_f S = polynomial 𝓢 q (raised_part 𝓢 q S i P.partner (positive_part P.c) (ratio 𝓢 q w P))

    unfoldable pub reduced_f : Polynomials 𝓢 q → Polynomial 𝓢 q
    reduced_f S = polynomial 𝓢 q (reduced_part 𝓢 q S i P.partner (negative_part P.c) (ratio 𝓢 q w P))

    -- w_i = w: all stay
    pub changed-kept : (S : Polynomials 𝓢 q) → same 𝓢 P.w w ≡ true → changed 𝓢 q w i P S ≡ S
    unfolding changed
    changed-kept S e = rw (e, changed)

    -- w_i ≠ w, c > 0: an exchange
    pub changed-raised : (S : Polynomials 𝓢 q) → same 𝓢 P.w w ≡ false → ltb 0 (positive_part P.c) ≡ true
        → changed 𝓢 q w i P S ≡ exchanged 𝓢 q i P.partner (raised_f S) S
    unfolding changed raised_f
    changed-raised S e l = rw (e, l, changed)

    -- w_i ≠ w, c ≤ 0: f_i alone
    pub changed-reduced : (S : Polynomials 𝓢 q) → same 𝓢 P.w w ≡ false → ltb 0 (positive_part P.c) ≡ false
        → changed 𝓢 q w i P S ≡ replaced 𝓢 q i (reduced_f S) S
    unfolding changed reduced_f
    changed-reduced S e l = rw (e, l, changed)

    -- the polynomials of other pairs stay
    changed-other : (S : Polynomials 𝓢 q) (p : ℕ) → p < 2 * q → p ≢ f q i → p ≢ g q P.partner
        → get_or (changed 𝓢 q w i P S) p [] ≡ get_or S p []
    changed-other S p hp nf ng =
        decided (same 𝓢 P.w w) (λ t. rw (changed-kept S t)) λ m. decided (ltb 0 (positive_part P.c))
        (λ l. rw (changed-raised S m l) (exchanged-other 𝓢 q i P.partner (raised_f S) S p hp nf ng))
        (λ l. rw (changed-reduced S m l) (replaced-other 𝓢 q i (reduced_f S) S p hp nf))

    -- what the pair becomes depends on its two polynomials alone
    changed-cong : {S T : Polynomials 𝓢 q} → i < q → P.partner < q → SamePair i P.partner S T
        → SamePair i P.partner (changed 𝓢 q w i P S) (changed 𝓢 q w i P T)
    unfolding raised_f reduced_f
    changed-cong {S} {T} hi hj e =
        decided (same 𝓢 P.w w) kept λ m. decided (ltb 0 (positive_part P.c)) (raised m) (reduced m)
      where
        j : ℕ
        j = P.partner

        kept : same 𝓢 P.w w ≡ true → SamePair i P.partner (changed 𝓢 q w i P S) (changed 𝓢 q w i P T)
        kept t = rw (changed-kept S t, changed-kept T t) e

        raised : same 𝓢 P.w w ≡ false → ltb 0 (positive_part P.c) ≡ true
            → SamePair i P.partner (changed 𝓢 q w i P S) (changed 𝓢 q w i P T)
        raised m l = rw (changed-raised S m l, changed-raised T m l) (record {
          of-f = exchanged-f 𝓢 q i j (raised_f S) S hi ∙ new ∙ sym (exchanged-f 𝓢 q i j (raised_f T) T hi);
          of-g = exchanged-g 𝓢 q i j (raised_f S) S hj ∙ e.of-f ∙ sym (exchanged-g 𝓢 q i j (raised_f T) T hj);
        })
          where
            new : raised_f S ≡ raised_f T
            new = ap (polynomial 𝓢 q) (raised_part-cong i P.partner (positive_part P.c) (ratio 𝓢 q w P) e)

        reduced : same 𝓢 P.w w ≡ false → ltb 0 (positive_part P.c) ≡ false
            → SamePair i P.partner (changed 𝓢 q w i P S) (changed 𝓢 q w i P T)
        reduced m l = rw (changed-reduced S m l, changed-reduced T m l) (record {
          of-f = replaced-here 𝓢 q i (reduced_f S) S hi ∙ new ∙ sym (replaced-here 𝓢 q i (reduced_f T) T hi);
          of-g = other (reduced_f S) S ∙ e.of-g ∙ sym (other (reduced_f T) T);
        })
          where
            new : reduced_f S ≡ reduced_f T
            new = ap (polynomial 𝓢 q) (reduced_part-cong i P.partner (negative_part P.c) (ratio 𝓢 q w P) e)

            other : (F : Polynomial 𝓢 q) (R : Polynomials 𝓢 q) → get_or (replaced 𝓢 q i F R) (g q j) [] ≡ get_or R (g q j) []
            other F R = replaced-other 𝓢 q i F R (g q P.partner) (omega arith) (λ h. absurd (omega arith))

  -- the pairs one after the other, if different i have different partners
  module _ (w : K) (Ps : List (Pairing 𝓢 q)) (S : Polynomials 𝓢 q)
      (below : (i : ℕ) → i < q → (get_or Ps i (no_pair 𝓢 q)).partner < q)
      (apart : (i i' : ℕ) → i < q → i' < q → (get_or Ps i (no_pair 𝓢 q)).partner ≡ (get_or Ps i' (no_pair 𝓢 q)).partner → i ≡ i')
    where
      -- the numbers of pair i
      abbrev P : ℕ → Pairing 𝓢 q
      P i = get_or Ps i (no_pair 𝓢 q)

      -- the turn of pair n leaves the pair of another i as it is
      not-its-turn : (n i : ℕ) → n < q → i < q → i ≢ n
          → SamePair i (P i).partner (updated 𝓢 q w Ps S (suc n)) (updated 𝓢 q w Ps S n)
      unfolding updated
      not-its-turn n i hn hi ne =
          let hj = below i hi in
          let hm = below n hn in
          let stays = changed-other w n (P n) (updated 𝓢 q w Ps S n) in
          record {
            of-f = stays (f q i) (omega arith) (λ e. ne (omega arith)) (λ e. absurd (omega arith));
            of-g = stays (g q (P i).partner) (omega arith) (λ e. absurd (omega arith)) (λ e. ne (apart i n hi hn e));
          }

      -- before its turn a pair is as it was
      pub updated-before : (n i : ℕ) → n ≤ i → i < q → SamePair i (P i).partner (updated 𝓢 q w Ps S n) S
      unfolding updated
      updated-before zero i h hi = record { of-f = refl; of-g = refl }
      updated-before (suc n) i h hi =
          let before = updated-before n i (omega arith) hi in
          same-pair-trans (not-its-turn n i (omega arith) hi (λ e. absurd (omega arith))) before

      -- after it, it is what it becomes by itself
      updated-after : (n i : ℕ) → i < n → n ≤ q → SamePair i (P i).partner (updated 𝓢 q w Ps S n) (changed 𝓢 q w i (P i) S)
      unfolding updated
      updated-after zero i h hn = absurd (omega arith)
      updated-after (suc n) i h hn = elim (ℕ_discrete i n) [
        | yes e ↦
            let before = updated-before n n (omega arith) (omega arith) in
            rw e (changed-cong w n (P n) (omega arith) (below n (omega arith)) before)
        | no ne ↦
            let after = updated-after n i (omega arith) (omega arith) in
            same-pair-trans (not-its-turn n i (omega arith) (omega arith) ne) after
      ]

      -- the whole update is the simultaneous one
      pub simultaneous : (i : ℕ) → i < q → SamePair i (P i).partner (updated 𝓢 q w Ps S q) (changed 𝓢 q w i (P i) S)
      simultaneous i hi = updated-after q i hi (omega arith)
