-- The polynomials before the first step: g_i leads at x^(q²) y^i in its lower part, f_i at y^i in its upper part, since no
-- monomial of h weighs more than the start weight.
use mathlib.Core.Path.{◌≡◌, refl, sym, ap, ap₂, ◌∙◌}
use mathlib.Core.List.{List, []}
use Prim.Native.Nat.{ℕ, ◌+◌, ◌*◌, ◌-◌, ◌≤◌, ◌<◌}
use native.Mathlib.Nat as Nat
use native.Mathlib.Omega.{arith}
use native.Mathlib.Decide.{dec_lt}
use lib.ListN.{get_or, get_or-eq_default}
use borrow.Author.Tests.{lt-ltb, le-ltb}
use Rattle.algebra.specs.Symbols.{Symbols, Laws, sum}
use Rattle.algebra.specs.Weights.{weight}
use Rattle.algebra.specs.Functions.{times_ys}
use Rattle.algebra.proofs.Ring.{ring, units, minus-zero}
use Rattle.algebra.proofs.Powers.{two-le-q}
use Rattle.algebra.proofs.NumberSums.{total-cong, total-const}
use Rattle.algebra.proofs.WeightLaws.{weight-origin, weight-mono}
use Rattle.algebra.proofs.Bounds.{Cut, plus-minus, cut-le, cut-cong, cut-degree, cut-plus}
use Rattle.algebra.proofs.Monomials.{monomial, monomial-one, monomial-place, monomial-cut}
use Rattle.algebra.proofs.Leads.{LeadUpper, LeadLower, lead_upper-ys, lead_lower-ys}
use Rattle.lists.specs.Tables.{tab}
use Rattle.lists.proofs.Tables.{length-tab, get_or-tab}
use Rattle.curve.specs.Codes.{point_count}
use Rattle.published.specs.Start.{Polynomials, width, start_weight, step_count, upper, lower, f, g, coefficient, term, h}
use Rattle.published.specs.Start.{table, of_table, vanishing, one, nothing, negated, start_part, start}
use Rattle.published.specs.Pairing.{degree_f, degree_g}
use Rattle.published.proofs.Widths.{degree-fits, start-weight, start_fits}
use Rattle.published.proofs.Parts.{SameParts, Narrow, LeadsUpper, LeadsLower}
use Rattle.published.proofs.Parts.{same-upper, same-lower, upper-narrow, lower-narrow}
use Rattle.published.proofs.Reading.{each-polynomial, coefficient-made, made_all}
use Rattle.published.proofs.Degrees.{degree_f-is, degree_g-is}
use Rattle.published.proofs.InPlace.{InPlace}

module _ (𝓢 : Symbols) (q : ℕ) where
  infixl 65 ◌⊖◌
  open 𝓢 use {K, 𝟘, ◌⊖◌}

  -- h has no coefficient from x^(q²) on
  pub h-past : (row : List K) (j i : ℕ) → q * q ≤ i → h 𝓢 q row j i ≡ 𝟘
  unfolding h
  h-past row j i hi = rw (le-ltb i (q * q) hi, h)

  -- below it is the sum over the points
  pub h-within : (row : List K) (j i : ℕ) → i < q * q → h 𝓢 q row j i ≡ sum 𝓢 (point_count q) (term 𝓢 q row j i)
  unfolding h
  h-within row j i hi = rw (lt-ltb i (q * q) hi, h)

  -- the table of h holds all its coefficients
  pub table-whole : (row : List K) (j i : ℕ) → j < q → of_table 𝓢 q (table 𝓢 q (h 𝓢 q row)) j i ≡ h 𝓢 q row j i
  unfolding of_table table
  table-whole row j i hj =
      ap (λ (l : List K). get_or l i 𝟘) (get_or-tab q (λ j. tab (q * q) (h 𝓢 q row j)) j [] hj) ∙ elim (dec_lt i (q * q)) [
        | yes l ↦ get_or-tab (q * q) (h 𝓢 q row j) i 𝟘 l
        | no l ↦
            let none = get_or-eq_default (tab (q * q) (h 𝓢 q row j)) 𝟘 {n = i} (rw length-tab (omega arith)) in
            none ∙ sym (h-past row j i (omega arith))
      ]

  -- x^(q²) - x by monomials
  pub vanishing-is : (j i : ℕ) → vanishing 𝓢 q j i ≡ monomial 𝓢 q 0 (q * q) j i ⊖ monomial 𝓢 q 0 1 j i
  unfolding vanishing monomial
  vanishing-is j i = refl

  -- and 1
  pub one-is : (j i : ℕ) → one 𝓢 q j i ≡ monomial 𝓢 q 0 0 j i
  unfolding one monomial
  one-is j i = refl

  module _ (rows : List (List K)) where
    -- the upper part of g_j
    pub start_g-upper : (j : ℕ) → j < q → start_part 𝓢 q rows (g q j) upper ≡ nothing 𝓢 q
    unfolding start_part
    start_g-upper j hj = rw (lt-ltb j q hj, start_part)

    -- its lower part
    pub start_g-lower : (j : ℕ) → j < q → start_part 𝓢 q rows (g q j) lower ≡ times_ys 𝓢 q j (vanishing 𝓢 q)
    unfolding start_part
    start_g-lower j hj = rw (lt-ltb j q hj, start_part)

    -- the upper part of f_i
    pub start_f-upper : (i : ℕ) → start_part 𝓢 q rows (f q i) upper ≡ times_ys 𝓢 q i (one 𝓢 q)
    unfolding start_part
    start_f-upper i = let e : f q i - q ≡ i = omega arith in rw (le-ltb (f q i) q (omega arith), start_part, e)

    -- its lower part
    pub start_f-lower : (i : ℕ) → start_part 𝓢 q rows (f q i) lower ≡ times_ys 𝓢 q i (negated 𝓢 q (of_table 𝓢 q rows))
    unfolding start_part
    start_f-lower i = let e : f q i - q ≡ i = omega arith in rw (le-ltb (f q i) q (omega arith), start_part, e)

module _ {𝓢 : Symbols} {q : ℕ} (𝓛 : Laws 𝓢 q) where
  infixl 65 ◌⊖◌
  open 𝓢 use {K, 𝟘, 𝟙, ◌⊖◌, minus}

  -- q² is above 1
  big : 1 < q * q
  big = omega (arith, Nat.mul-le-mul_left q (two-le-q 𝓛), two-le-q 𝓛)

  -- the weight of 1
  pub one-cut : Cut 𝓢 q 0 0 (one 𝓢 q)
  one-cut = cut-cong 𝓢 q (λ j i hj. sym (one-is 𝓢 q j i)) (rw (weight-origin q) at (monomial-cut 𝓢 q 0 0))

  -- the weights of x^(q²) - x
  pub vanishing-cut : Cut 𝓢 q (weight q 0 (q * q)) 0 (vanishing 𝓢 q)
  vanishing-cut =
      let lighter = weight-mono q 0 {i = 1} {i' = q * q} (omega (arith, big)) in
      cut-cong 𝓢 q (λ j i hj.
      plus-minus 𝓛 𝟙 (monomial 𝓢 q 0 (q * q)) (monomial 𝓢 q 0 1) j i ∙ (simp (units, 𝓛)) ∙ sym (vanishing-is 𝓢 q j i))
      (cut-plus 𝓛 (minus 𝟙) (monomial-cut 𝓢 q 0 (q * q)) (cut-le 𝓢 q (omega arith) (monomial-cut 𝓢 q 0 1)))

  -- the lead of g_0
  first-g : LeadLower 𝓢 q (step_count q) 0 (q * q) (nothing 𝓢 q) (vanishing 𝓢 q)
  unfolding nothing
  first-g = record {
    top = λ z. 𝓛.one-ne-zero (sym top-is ∙ z);
    low = vanishing-cut;
    up = record { off = λ j i hj l. refl };
  }
    where
      top-is : vanishing 𝓢 q 0 (q * q) ≡ 𝟙
      top-is =
          let off = monomial-place 𝓢 q 0 1 0 (q * q) (λ e. absurd (omega (arith, big))) in
          vanishing-is 𝓢 q 0 (q * q) ∙ ap₂ ◌⊖◌ (monomial-one 𝓢 q 0 (q * q)) off ∙ simp (ring, 𝓛)

  module _ (row : List K) where
    -- the table of h, and the polynomials at the start
    abbrev rows : List (List K)
    rows = table 𝓢 q (h 𝓢 q row)

    abbrev S : Polynomials 𝓢 q
    S = start 𝓢 q row

    -- no monomial of h weighs more than the start weight
    pub h-cut : Cut 𝓢 q (start_weight q) 0 (negated 𝓢 q (of_table 𝓢 q rows))
    unfolding negated
    h-cut =
        rw (start-weight q (two-le-q 𝓛))
        at (cut-degree 𝓢 q (q * q) (λ j i hj hi.
        ap minus (table-whole 𝓢 q row j i hj ∙ h-past 𝓢 q row j i hi) ∙ minus-zero 𝓛))

    -- the lead of f_0
    first-f : LeadUpper 𝓢 q (step_count q) 0 0 (one 𝓢 q) (negated 𝓢 q (of_table 𝓢 q rows))
    unfolding step_count
    first-f = record {
      top = λ z. 𝓛.one-ne-zero (sym (one-is 𝓢 q 0 0 ∙ monomial-one 𝓢 q 0 0) ∙ z);
      up = cut-le 𝓢 q (omega arith) one-cut;
      low = cut-le 𝓢 q (omega arith) h-cut;
    }

    -- the leads of the others: y^i more
    rule-f : (i : ℕ) → i < q → LeadsUpper 𝓢 q (step_count q) i 0 (start_part 𝓢 q rows (f q i))
    rule-f i hi = rw (start_f-upper 𝓢 q rows i, start_f-lower 𝓢 q rows i) (lead_upper-ys 𝓛 i hi first-f)

    -- and of the lower leads
    rule-g : (j : ℕ) → j < q → LeadsLower 𝓢 q (step_count q) j (q * q) (start_part 𝓢 q rows (g q j))
    unfolding nothing
    rule-g j hj =
        let l = lead_lower-ys 𝓛 j hj first-g in
        rw (start_g-upper 𝓢 q rows j hj, start_g-lower 𝓢 q rows j hj)
        (record { top = l.top; low = l.low; up = record { off = λ b k hb h. refl } })

    -- the leads of all g_j fit
    fit-g : (j : ℕ) → j < q → weight q j (q * q) + 1 < q * width q
    fit-g j hj = degree-fits q (two-le-q 𝓛) j (q * q) hj (omega arith)

    -- the start gives nothing past the width
    pub start-narrow : (p : ℕ) → p < 2 * q → Narrow 𝓢 q (start_part 𝓢 q rows p)
    start-narrow =
        each-polynomial q (λ p. Narrow 𝓢 q (start_part 𝓢 q rows p))
        (λ j hj. lower-narrow 𝓢 q (start_part 𝓢 q rows (g q j)) (rule-g j hj) (fit-g j hj))
        (λ i hi. upper-narrow 𝓢 q (start_part 𝓢 q rows (f q i)) (rule-f i hi) (start_fits q (two-le-q 𝓛) i hi))

    -- so it is held whole
    pub start-held : (p : ℕ) → p < 2 * q → SameParts 𝓢 q (start_part 𝓢 q rows p) (coefficient 𝓢 q S p)
    unfolding start
    start-held p hp =
        let made = made_all 𝓢 q (start_part 𝓢 q rows) p hp in
        let held = coefficient-made 𝓢 q S p (start_part 𝓢 q rows p) made (start-narrow p hp) in
        record { at = λ part j k ht hj. sym (held part j k ht hj) }

    -- the leads of the polynomials that are held
    start-f : (i : ℕ) → i < q → LeadsUpper 𝓢 q (step_count q) i 0 (coefficient 𝓢 q S (f q i))
    start-f i hi = same-upper 𝓢 q hi (start-held (f q i) (omega arith)) (rule-f i hi)

    -- and of the g_j
    start-g : (j : ℕ) → j < q → LeadsLower 𝓢 q (step_count q) j (q * q) (coefficient 𝓢 q S (g q j))
    start-g j hj = same-lower 𝓢 q hj (start-held (g q j) (omega arith)) (rule-g j hj)

    -- the degrees before the first step: 0 and q²
    pub is-A : (i : ℕ) → i < q → degree_f 𝓢 q S i ≡ 0
    is-A i hi = degree_f-is 𝓛 S i hi (start-f i hi) (omega (arith, start_fits q (two-le-q 𝓛) i hi))

    -- and of the g_j
    pub is-D : (j : ℕ) → j < q → degree_g 𝓢 q S j ≡ q * q
    is-D j hj = degree_g-is 𝓛 S j hj (start-g j hj) (omega (arith, fit-g j hj))

    -- every lead stands in its place before the first step
    pub start-in-place : InPlace 𝓢 q (step_count q) S
    start-in-place = record {
      lead_f = λ i hi. rw (is-A i hi) (start-f i hi);
      lead_g = λ j hj. rw (is-D j hj) (start-g j hj);
      fit_f = λ i hi. rw (is-A i hi) (start_fits q (two-le-q 𝓛) i hi);
      fit_g = λ j hj. rw (is-D j hj) (omega arith);
      sum = ap₂ ◌+◌ (total-cong q is-A ∙ total-const q 0) (total-cong q is-D ∙ total-const q (q * q)) ∙ omega arith;
    }
