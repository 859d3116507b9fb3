-- Before the first step the degrees are the least: a function on the curve that is zero at all q³ points leads with a power of
-- x of at least q², by root counting in y and then in x.
-- Assumes nothing.
use mathlib.Core.Path.{◌≡◌, sym, ap, ◌∙◌}
use mathlib.Core.Logic.{◌≢◌}
use mathlib.Core.List.{List}
use Prim.Native.Nat.{ℕ, suc, ◌+◌, ◌*◌, ◌≤◌, ◌<◌}
use native.Mathlib.Nat as Nat
use native.Mathlib.Omega.{arith}
use native.Mathlib.Decide.{dec_le}
use lib.ListN.{get_or}
use Rattle.algebra.specs.Symbols.{Symbols, Laws, power}
use Rattle.algebra.specs.Weights.{weight}
use Rattle.algebra.specs.Functions.{Fn, value_in, value_at}
use Rattle.algebra.proofs.Ring.{ring, linear, mul_comm}
use Rattle.algebra.proofs.Powers.{two-le-q}
use Rattle.algebra.proofs.Sums.{sum-cong}
use Rattle.algebra.proofs.Polynomials.{value_in-def, value_in-widen}
use Rattle.algebra.proofs.Roots.{roots}
use Rattle.algebra.proofs.WeightLaws.{weight-strict, weight-fits}
use Rattle.algebra.proofs.Bounds.{Cut, plus, plus-left, cut-le, cut-plus, cut-degree}
use Rattle.algebra.proofs.OnCurve.{value_at-def, value_at-plus}
use Rattle.algebra.proofs.Leads.{LeadLower}
use Rattle.algebra.proofs.Vanishing.{vanishes-at}
use Rattle.algebra.proofs.Interpolation.{Columns}
use Rattle.curve.specs.Points.{point_at}
use Rattle.curve.specs.Codes.{point_count}
use Rattle.curve.proofs.Arranged.{Arranged, columns}
use Rattle.published.specs.Start.{start_weight, step_count, h, start}
use Rattle.published.proofs.Widths.{start-weight}
use Rattle.published.proofs.StartLeads.{h-past, is-A, is-D}
use Rattle.published.proofs.StartZeros.{h-value}
use Rattle.withinreach.proofs.Products.{product, product-cut, product_value}
use Rattle.withinreach.proofs.Members.{Member}
use Rattle.withinreach.proofs.LeastStep.{LeastOf}

module _ {𝓢 : Symbols} {q : ℕ} (𝓛 : Laws 𝓢 q) {X : ℕ → 𝓢.K} {Y : ℕ → ℕ → 𝓢.K} (C : Columns 𝓢 q X Y) where
  open 𝓢 use {K, 𝟘}

  -- a function that is zero at all points has rows that are zero at the x of all columns
  rows-zero : (W : ℕ) (c : Fn 𝓢 q) → ((a b : ℕ) → a < q * q → b < q → value_at 𝓢 q W c (X a) (Y a b) ≡ 𝟘)
      → (a j : ℕ) → a < q * q → j < q → value_in 𝓢 q W (c j) (X a) ≡ 𝟘
  rows-zero W c z a j ha hj =
      roots 𝓛 q row (Y a) (λ b b' l hb' e. Nat.ne_of_lt l (C.rows_apart a b b' ha (omega arith) hb' e)) zeros j hj
    where
      row : ℕ → K
      row i = value_in 𝓢 q W (c i) (X a)

      zeros : (b : ℕ) → b < q → value_in 𝓢 q q row (Y a b) ≡ 𝟘
      zeros b hb =
          value_in-def 𝓢 q q row (Y a b) ∙ sum-cong 𝓢 q (λ i hi. mul_comm 𝓛 (row i) (power 𝓢 (Y a b) i))
          ∙ sym (value_at-def 𝓢 q W c (X a) (Y a b)) ∙ z a b ha hb

  -- so it leads with a power of x of at least q²
  pub zeros-lead : (W j d : ℕ) (c : Fn 𝓢 q) → j < q → Cut 𝓢 q (weight q j d) 0 c → c j d ≢ 𝟘 → weight q j d < q * W
      → ((a b : ℕ) → a < q * q → b < q → value_at 𝓢 q W c (X a) (Y a b) ≡ 𝟘) → q * q ≤ d
  zeros-lead W j d c hj cut nz fit z = elim (dec_le (q * q) d) [
    | yes l ↦ l
    | no l ↦ absurd (nz (roots 𝓛 (q * q) (c j) X (λ a a' l ha' e. Nat.ne_of_lt l (C.columns-apart a a' (omega arith) ha' e))
        (λ a ha.
        value_in-widen 𝓛 (suc d) (q * q) (c j) (X a) (omega arith) beyond
        ∙ sym (value_in-widen 𝓛 (suc d) W (c j) (X a) (weight-fits q j d W fit) beyond) ∙ rows-zero W c z a j ha hj)
        d (omega arith)))
  ]
    where
      beyond : (k : ℕ) → suc d ≤ k → c j k ≡ 𝟘
      beyond k hk = cut.off j k hj (omega (arith, weight-strict q j {i = d} {i' = k} (omega arith) hk))

module _ {𝓢 : Symbols} {q : ℕ} (𝓛 : Laws 𝓢 q) (𝓐 : Arranged 𝓢 q) (row : List 𝓢.K) where
  infixl 65 ◌⊕◌
  infixl 70 ◌⊗◌
  open 𝓢 use {K, 𝟘, 𝟙, ◌⊕◌, ◌⊗◌, symbol}

  -- the y of point b in column a, and the symbol received there
  abbrev Y : ℕ → ℕ → K
  Y a b = (point_at 𝓢 q (a * q + b)).y

  abbrev received : ℕ → K
  received m = get_or row m 𝟘

  -- no monomial of h weighs more than the start weight
  h-weights : Cut 𝓢 q (start_weight q) 0 (h 𝓢 q row)
  h-weights = rw (start-weight q (two-le-q 𝓛)) at (cut-degree 𝓢 q (q * q) (λ j i hj hi. h-past 𝓢 q row j i hi))

  -- nor has h a power of x from x^(q²) on
  h-wide : (W : ℕ) (x y : K) → q * q ≤ W → value_at 𝓢 q W (h 𝓢 q row) x y ≡ value_at 𝓢 q (q * q) (h 𝓢 q row) x y
  unfolding value_at
  h-wide W x y l =
      sum-cong 𝓢 q (λ j hj. ap (λ z. power 𝓢 y j ⊗ z) (value_in-widen 𝓛 (q * q) W (h 𝓢 q row j) x l (h-past 𝓢 q row j)))

  -- a member with a lower lead x^d y^j
  module _ (j d : ℕ) (hj : j < q) {U L : Fn 𝓢 q} (v : Member 𝓢 q received U L)
      (lead : LeadLower 𝓢 q (step_count q) j d U L) where
    -- a width that is enough
    abbrev W : ℕ
    W = suc (weight q j d + start_weight q + q * q)

    -- which it is
    wide : start_weight q + weight q j d < q * W
    wide = omega (arith, Nat.mul-le-mul_right (weight q j d + start_weight q + q * q) (two-le-q 𝓛), two-le-q 𝓛)

    -- L + U h
    c : Fn 𝓢 q
    c = plus 𝓢 q 𝟙 L (product 𝓢 q W U (h 𝓢 q row))

    -- U h is lighter than x^d y^j
    light : Cut 𝓢 q (start_weight q + weight q j d) (step_count q) (product 𝓢 q W U (h 𝓢 q row))
    light = product-cut 𝓛 W lead.up h-weights

    -- so x^d y^j is the lead of c too
    c-cut : Cut 𝓢 q (weight q j d) 0 c
    unfolding c step_count
    c-cut = cut-plus 𝓛 𝟙 lead.low (cut-le 𝓢 q (omega arith) light)

    -- its coefficient there is that of L
    c-top : c j d ≢ 𝟘
    unfolding c step_count
    c-top z =
        lead.top (sym (plus-left 𝓛 𝟙 L (product 𝓢 q W U (h 𝓢 q row)) j d (light.off j d hj (omega arith))) ∙ z)

    -- and c is zero at every point
    c-zero : (a b : ℕ) → a < q * q → b < q → value_at 𝓢 q W c (symbol a) (Y a b) ≡ 𝟘
    unfolding c point_count step_count
    c-zero a b ha hb =
        let m : ℕ = a * q + b in
        let hm : m < q * q * q = omega (arith, Nat.mul-le-mul_right q ha) in
        let curve = (columns 𝓛 𝓐).on-curve a b ha hb in
        let cut-U : Cut 𝓢 q (weight q j d) 0 U = cut-le 𝓢 q (omega arith) lead.up in
        let there = h-wide W (symbol a) (Y a b) (omega arith) ∙ h-value 𝓛 𝓐 row a b ha hb in
        let zero = rw (𝓐.abscissa a b ha hb)
        at (vanishes-at 𝓛 W (weight q j d) cut-U lead.low (omega (arith, wide)) (v.zero-at m hm)) in
        value_at-plus 𝓛 W 𝟙 L (product 𝓢 q W U (h 𝓢 q row)) (symbol a) (Y a b)
        ∙ ap (λ z. value_at 𝓢 q W L (symbol a) (Y a b) ⊕ 𝟙 ⊗ z)
        (product_value 𝓛 (symbol a) (Y a b) curve W (weight q j d) (start_weight q) cut-U h-weights wide
        ∙ ap (λ z. value_at 𝓢 q W U (symbol a) (Y a b) ⊗ z) there)
        ∙ linear 𝓛 zero (simp (ring, 𝓛))

    -- so d is at least q²
    pub start-lower : q * q ≤ d
    start-lower = zeros-lead 𝓛 (columns 𝓛 𝓐) W j d c hj c-cut c-top (omega (arith, wide)) c-zero

  -- the degrees before the first step are the least
  pub start-least : LeastOf 𝓢 q received (step_count q) (start 𝓢 q row)
  start-least = record {
    pair = λ i j hi hj. rw (is-A 𝓛 row i hi, is-D 𝓛 row j hj)
        (record { up = λ d v f. omega arith; low = λ d v g. start-lower j d hj v g });
  }
