-- The zeros before the first step: h takes the row's symbols at the points, so that y^i(z - h) is zero at every point paired
-- with the received symbol; x^(q²) - x is zero at every symbol.
use mathlib.Core.Path.{◌≡◌, refl, ap, ap₂, ◌∙◌}
use mathlib.Core.List.{List}
use Prim.Native.Nat.{ℕ, ◌+◌, ◌*◌, ◌/◌, ◌%◌, ◌≤◌, ◌<◌}
use native.Mathlib.Nat as Nat
use native.Mathlib.Omega.{arith}
use lib.ListN.{get_or}
use Rattle.algebra.specs.Symbols.{Symbols, Laws, power}
use Rattle.algebra.specs.Weights.{weight}
use Rattle.algebra.specs.Functions.{times_ys, value_at}
use Rattle.algebra.specs.Interpolation.{x_part, y_part}
use Rattle.algebra.proofs.Ring.{ring, units}
use Rattle.algebra.proofs.Powers.{two-le-q, power_zero, power-one}
use Rattle.algebra.proofs.Sums.{sum-cong, sum_rows}
use Rattle.algebra.proofs.Polynomials.{value_in-widen}
use Rattle.algebra.proofs.WeightLaws.{weight-ys}
use Rattle.algebra.proofs.Bounds.{cut-le, cut-ys}
use Rattle.algebra.proofs.OnCurve.{OnCurve, value_at-cong, value_at-none, value_at-sub, value_at-scale, value_at-ys}
use Rattle.algebra.proofs.Monomials.{monomial, monomial-value}
use Rattle.algebra.proofs.Vanishing.{Vanishes, vanishes-from, vanishes-ys}
use Rattle.algebra.proofs.Interpolation.{interpolant, interpolates}
use Rattle.lists.proofs.Numbers.{factor-positive}
use Rattle.curve.specs.Points.{point_at}
use Rattle.curve.specs.Codes.{point_count}
use Rattle.curve.proofs.Arranged.{Arranged, columns}
use Rattle.published.specs.Start.{width, start_weight, f, g, coefficient, term, h, table, of_table}
use Rattle.published.specs.Start.{vanishing, one, nothing, negated, start}
use Rattle.published.proofs.Widths.{width-wide, degree-fits, start-weight-fits}
use Rattle.published.proofs.Parts.{ZeroAt, same-zero}
use Rattle.published.proofs.Reading.{each-polynomial}
use Rattle.published.proofs.StartLeads.{h-within, h-past, table-whole, vanishing-is, one-is}
use Rattle.published.proofs.StartLeads.{one-cut, vanishing-cut, h-cut}
use Rattle.published.proofs.StartLeads.{start_g-upper, start_g-lower, start_f-upper, start_f-lower, start-held}

-- every point stands in its column
each-point : (q : ℕ) (Q : ℕ → Type 0) → ((a b : ℕ) → a < q * q → b < q → Q (a * q + b)) → (m : ℕ) → m < point_count q → Q m
unfolding point_count
each-point q Q h m hm =
    let positive : 0 < q = factor-positive (q * q) q m hm in
    rw (Nat.div-add-mod' m q) at (h (m / q) (m % q) ((Nat.div-lt_iff_lt-mul positive).1 hm) (Nat.mod-lt m positive))

-- every point is on the curve
pub on-curve : {𝓢 : Symbols} {q : ℕ} → Arranged 𝓢 q → (m : ℕ) → m < point_count q
    → OnCurve 𝓢 q (point_at 𝓢 q m).x (point_at 𝓢 q m).y
on-curve {𝓢} {q} 𝓐 = each-point q (λ m. OnCurve 𝓢 q (point_at 𝓢 q m).x (point_at 𝓢 q m).y) 𝓐.on-curve

module _ {𝓢 : Symbols} {q : ℕ} (𝓛 : Laws 𝓢 q) where
  infixl 65 ◌⊕◌ ◌⊖◌
  infixl 70 ◌⊗◌
  open 𝓢 use {K, 𝟘, 𝟙, ◌⊕◌, ◌⊖◌, minus, ◌⊗◌, symbol}

  -- q is at least 2
  two : 2 ≤ q
  two = two-le-q 𝓛

  module _ (x y : K) where
    -- the value of 1
    one_value : value_at 𝓢 q (width q) (one 𝓢 q) x y ≡ 𝟙
    one_value =
        let value = monomial-value 𝓛 0 0 (width q) x y (omega (arith, two)) (omega (arith, width-wide q two)) in
        value_at-cong 𝓢 q (width q) x y (λ j i hj hi. one-is 𝓢 q j i) ∙ value ∙ simp (power_zero, units, 𝓛)

    -- x^(q²) - x is zero, since x^(q²) = x
    vanishing-value : value_at 𝓢 q (width q) (vanishing 𝓢 q) x y ≡ 𝟘
    vanishing-value =
        let wide = width-wide q two in
        let square = Nat.mul-le-mul_left q two in
        let first = monomial-value 𝓛 0 (q * q) (width q) x y (omega (arith, two)) wide in
        let second = monomial-value 𝓛 0 1 (width q) x y (omega (arith, two)) (omega (arith, two)) in
        value_at-cong 𝓢 q (width q) x y (λ j i hj hi. vanishing-is 𝓢 q j i)
        ∙ value_at-sub 𝓛 (width q) (monomial 𝓢 q 0 (q * q)) (monomial 𝓢 q 0 1) x y
        ∙ ap₂ ◌⊖◌ first second ∙ simp (power_zero, power-one 𝓛, 𝓛.power-same x, ring, 𝓛)

    -- y^j times it is zero too
    zero-g : OnCurve 𝓢 q x y → (j : ℕ) → j < q → (r : K) → Vanishes 𝓢 q x y r (nothing 𝓢 q) (times_ys 𝓢 q j (vanishing 𝓢 q))
    unfolding nothing
    zero-g curve j hj r =
        let n = weight q 0 (q * q) in
        let light = degree-fits q two j (q * q) hj (omega arith) in
        let fits : n + (q + 1) * j < q * width q = omega (arith, weight-ys q j (q * q)) in
        let low = value_at-ys 𝓛 x y curve j (width q) n (vanishing-cut 𝓛) fits ∙ ap (λ z. power 𝓢 y j ⊗ z) vanishing-value in
        vanishes-from 𝓛 (width q) (n + (q + 1) * j) x y r
        (record { off = λ b k hb l. refl }) (cut-ys 𝓛 j (vanishing-cut 𝓛)) fits
        (ap₂ (λ u l. r ⊗ u ⊕ l) (value_at-none 𝓛 (width q) x y (λ b k hb hk. refl)) low ∙ simp (ring, 𝓛))

  module _ (row : List K) where
    -- the table of h
    abbrev rows : List (List K)
    rows = table 𝓢 q (h 𝓢 q row)

    module _ (x y : K) where
      -- the width adds nothing to h
      h-wide : value_at 𝓢 q (width q) (h 𝓢 q row) x y ≡ value_at 𝓢 q (q * q) (h 𝓢 q row) x y
      unfolding value_at
      h-wide =
          let wide : q * q ≤ width q = omega (arith, width-wide q two) in
          sum-cong 𝓢 q (λ j hj. ap (λ z. power 𝓢 y j ⊗ z)
          (value_in-widen 𝓛 (q * q) (width q) (h 𝓢 q row j) x wide (h-past 𝓢 q row j)))

      -- the value of -h
      negated-value : value_at 𝓢 q (width q) (negated 𝓢 q (of_table 𝓢 q rows)) x y ≡ minus (value_at 𝓢 q (q * q) (h 𝓢 q row) x y)
      unfolding negated
      negated-value =
          value_at-cong 𝓢 q (width q) x y (λ j i hj hi. ap minus (table-whole 𝓢 q row j i hj) ∙ times-minus (h 𝓢 q row j i))
          ∙ value_at-scale 𝓛 (width q) (minus 𝟙) (h 𝓢 q row) x y ∙ ap (λ z. minus 𝟙 ⊗ z) h-wide ∙ simp (ring, 𝓛)
        where
          times-minus : (a : K) → minus a ≡ minus 𝟙 ⊗ a
          times-minus a = simp (ring, 𝓛)

      -- z - h is zero at z = r where h takes the value r
      zero-f : (r : K) → value_at 𝓢 q (q * q) (h 𝓢 q row) x y ≡ r
          → Vanishes 𝓢 q x y r (one 𝓢 q) (negated 𝓢 q (of_table 𝓢 q rows))
      zero-f r e =
          vanishes-from 𝓛 (width q) (start_weight q) x y r
          (cut-le 𝓢 q (omega arith) (one-cut 𝓛)) (h-cut 𝓛 row) (start-weight-fits q two)
          (ap₂ (λ u l. r ⊗ u ⊕ l) (one_value x y) (negated-value ∙ ap minus e) ∙ simp (ring, 𝓛))

  module _ (𝓐 : Arranged 𝓢 q) (row : List K) where
    -- the y of point b in column a
    abbrev Y : ℕ → ℕ → K
    Y a b = (point_at 𝓢 q (a * q + b)).y

    -- the row's symbols by columns
    received : ℕ → ℕ → K
    received a b = get_or row (a * q + b) 𝟘

    -- h is the closed form that interpolates them
    h-is : (j i : ℕ) → i < q * q → h 𝓢 q row j i ≡ interpolant 𝓢 q symbol Y received j i
    unfolding interpolant received point_count term
    h-is j i hi =
        h-within 𝓢 q row j i hi ∙ sum_rows 𝓛 (q * q) q (term 𝓢 q row j i)
        ∙ sum-cong 𝓢 (q * q) (λ a ha. sum-cong 𝓢 q (λ b hb.
        ap (λ x. get_or row (a * q + b) 𝟘 ⊗ (x_part 𝓢 q x i ⊗ y_part 𝓢 q (Y a b) j)) (𝓐.abscissa a b ha hb)))

    -- the value of h at a point is the received symbol
    pub h-value : (a b : ℕ) → a < q * q → b < q → value_at 𝓢 q (q * q) (h 𝓢 q row) (symbol a) (Y a b) ≡ get_or row (a * q + b) 𝟘
    unfolding received
    h-value a b ha hb =
        value_at-cong 𝓢 q (q * q) (symbol a) (Y a b) (λ j i hj hi. h-is j i hi)
        ∙ interpolates 𝓛 (columns 𝓛 𝓐) received a b ha hb

    -- all 2q polynomials are zero at every point paired with the received symbol
    pub start-zero : (m : ℕ) → m < point_count q → (p : ℕ) → p < 2 * q
        → ZeroAt 𝓢 q (point_at 𝓢 q m).x (point_at 𝓢 q m).y (get_or row m 𝟘) (coefficient 𝓢 q (start 𝓢 q row) p)
    start-zero =
        each-point q (λ m. (p : ℕ) → p < 2 * q
        → ZeroAt 𝓢 q (point_at 𝓢 q m).x (point_at 𝓢 q m).y (get_or row m 𝟘) (coefficient 𝓢 q (start 𝓢 q row) p))
        (λ a b ha hb. rw (𝓐.abscissa a b ha hb) (at a b ha hb))
      where
        at : (a b : ℕ) → a < q * q → b < q → (p : ℕ) → p < 2 * q
            → ZeroAt 𝓢 q (symbol a) (Y a b) (get_or row (a * q + b) 𝟘) (coefficient 𝓢 q (start 𝓢 q row) p)
        at a b ha hb =
            let r = get_or row (a * q + b) 𝟘 in
            let curve = (columns 𝓛 𝓐).on-curve a b ha hb in
            each-polynomial q (λ p. ZeroAt 𝓢 q (symbol a) (Y a b) r (coefficient 𝓢 q (start 𝓢 q row) p))
            (λ j hj. same-zero 𝓢 q (start-held 𝓛 row (g q j) (omega arith))
            (rw (start_g-upper 𝓢 q (rows row) j hj, start_g-lower 𝓢 q (rows row) j hj) (zero-g (symbol a) (Y a b) curve j hj r)))
            (λ i hi. same-zero 𝓢 q (start-held 𝓛 row (f q i) (omega arith))
            (rw (start_f-upper 𝓢 q (rows row) i, start_f-lower 𝓢 q (rows row) i)
            (vanishes-ys 𝓛 (zero-f row (symbol a) (Y a b) r (h-value a b ha hb)) curve i)))
