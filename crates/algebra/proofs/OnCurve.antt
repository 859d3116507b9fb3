-- Values of functions at points: they are linear, and at a point of the curve y^q + y = x^(q+1) a product by x, by y or by
-- the monomial of a weight becomes a product of values.
use mathlib.Core.Path.{◌≡◌, refl, sym, ap, ◌∙◌, ◌≡⟨◌⟩◌, ◌∎}
use mathlib.Core.Bool.{true}
use Prim.Native.Nat.{ℕ, zero, suc, ◌+◌, ◌*◌, ◌-◌, ◌≤◌, ◌<◌}
use native.Mathlib.Omega.{arith}
use Rattle.algebra.specs.Symbols.{Symbols, Laws, power, sum}
use Rattle.algebra.specs.Weights.{nongap, x_power, y_power}
use Rattle.algebra.specs.Functions.{Fn, times_x, times_y, times_ys, times_monomial, monomial_at, value_in, value_at}
use Rattle.algebra.proofs.Ring.{ring, sorted*, one-mul, mul_assoc, mul-zero, linear}
use Rattle.algebra.proofs.Powers.{two-le-q, power_zero, power-suc, power-one}
use Rattle.algebra.proofs.Sums.{sum-cong, sum-none, sum-heads, sum-ends, mul-sum, sums}
use Rattle.algebra.proofs.Polynomials.{value_in-def, value_in-cong, value_in-none, value_in-sub, value_in-widen, value_in-shift}
use Rattle.algebra.proofs.WeightLaws.{weight-x, weight-wide, weight-wrap, powers-weigh}
use Rattle.algebra.proofs.Bounds.{Cut, plus, cut-width, cut-ys}

module _ (𝓢 : Symbols) (q : ℕ) where
  infixl 65 ◌⊕◌
  infixl 70 ◌⊗◌
  open 𝓢 use {K, ◌⊕◌, ◌⊗◌}

  -- (x, y) is a point of the curve
  abbrev pub OnCurve : K → K → Type 0
  OnCurve x y = power 𝓢 y q ⊕ y ≡ power 𝓢 x (q + 1)

  -- the value is a sum over the rows
  pub value_at-def : (W : ℕ) (f : Fn 𝓢 q) (x y : K)
      → value_at 𝓢 q W f x y ≡ sum 𝓢 q (λ j. power 𝓢 y j ⊗ value_in 𝓢 q W (f j) x)
  unfolding value_at
  value_at-def W f x y = refl

  -- equal coefficients in the rows and below the width that count
  pub value_at-cong : (W : ℕ) {f g : Fn 𝓢 q} (x y : K) → ((j i : ℕ) → j < q → i < W → f j i ≡ g j i)
      → value_at 𝓢 q W f x y ≡ value_at 𝓢 q W g x y
  unfolding value_at
  value_at-cong W x y h = sum-cong 𝓢 q (λ j hj. ap (λ z. power 𝓢 y j ⊗ z) (value_in-cong 𝓢 q W x (λ i hi. h j i hj hi)))

module _ {𝓢 : Symbols} {q : ℕ} (𝓛 : Laws 𝓢 q) where
  infixl 65 ◌⊕◌ ◌⊖◌
  infixl 70 ◌⊗◌
  open 𝓢 use {K, 𝟘, ◌⊕◌, ◌⊖◌, ◌⊗◌}

  -- all coefficients zero
  pub value_at-none : (W : ℕ) {f : Fn 𝓢 q} (x y : K) → ((j i : ℕ) → j < q → i < W → f j i ≡ 𝟘) → value_at 𝓢 q W f x y ≡ 𝟘
  unfolding value_at
  value_at-none W x y h =
      sum-none 𝓛 q (λ j hj. ap (λ z. power 𝓢 y j ⊗ z) (value_in-none 𝓛 W x (λ i hi. h j i hj hi)) ∙ mul-zero 𝓛 (power 𝓢 y j))

  -- values of sums
  pub value_at-add : (W : ℕ) (f g : Fn 𝓢 q) (x y : K)
      → value_at 𝓢 q W (λ j i. f j i ⊕ g j i) x y ≡ value_at 𝓢 q W f x y ⊕ value_at 𝓢 q W g x y
  value_at-add W f g x y = simp (value_at-def, value_in-def, sums, ring, 𝓛)

  -- values of differences
  pub value_at-sub : (W : ℕ) (f g : Fn 𝓢 q) (x y : K)
      → value_at 𝓢 q W (λ j i. f j i ⊖ g j i) x y ≡ value_at 𝓢 q W f x y ⊖ value_at 𝓢 q W g x y
  value_at-sub W f g x y = simp (value_at-def, value_in-def, sums, ring, 𝓛)

  -- values of multiples
  pub value_at-scale : (W : ℕ) (c : K) (f : Fn 𝓢 q) (x y : K)
      → value_at 𝓢 q W (λ j i. c ⊗ f j i) x y ≡ c ⊗ value_at 𝓢 q W f x y
  value_at-scale W c f x y = simp (value_at-def, value_in-def, sums, ring, 𝓛)

  -- values of a + c b
  pub value_at-plus : (W : ℕ) (c : K) (f g : Fn 𝓢 q) (x y : K)
      → value_at 𝓢 q W (plus 𝓢 q c f g) x y ≡ value_at 𝓢 q W f x y ⊕ c ⊗ value_at 𝓢 q W g x y
  unfolding plus
  value_at-plus W c f g x y =
      value_at-add W f (λ j i. c ⊗ g j i) x y ∙ ap (λ z. value_at 𝓢 q W f x y ⊕ z) (value_at-scale W c g x y)

  -- values of sums of many functions
  pub value_at-sum : (n W : ℕ) (F : ℕ → Fn 𝓢 q) (x y : K)
      → value_at 𝓢 q W (λ j i. sum 𝓢 n (λ k. F k j i)) x y ≡ sum 𝓢 n (λ k. value_at 𝓢 q W (F k) x y)
  unfolding sum
  value_at-sum zero W F x y = value_at-none W x y (λ j i hj hi. refl)
  value_at-sum (suc n) W F x y =
      value_at-add W (λ j i. sum 𝓢 n (λ k. F k j i)) (F n) x y ∙ ap (λ z. z ⊕ value_at 𝓢 q W (F n) x y) (value_at-sum n W F x y)

  -- a wider sum adds nothing to a function whose weights fit
  pub value_at-widen : (U W n : ℕ) {f : Fn 𝓢 q} (x y : K) → Cut 𝓢 q n 0 f → n < q * U → U ≤ W
      → value_at 𝓢 q W f x y ≡ value_at 𝓢 q U f x y
  unfolding value_at
  value_at-widen U W n {f} x y h l le =
      sum-cong 𝓢 q (λ j hj.
      ap (λ z. power 𝓢 y j ⊗ z) (value_in-widen 𝓛 U W (f j) x le (λ i hi. cut-width 𝓢 q U h l j i hj hi)))

  -- any two widths that fit
  pub value_at-width : (W W' n : ℕ) {f : Fn 𝓢 q} (x y : K) → Cut 𝓢 q n 0 f → n < q * W → n < q * W'
      → value_at 𝓢 q W f x y ≡ value_at 𝓢 q W' f x y
  value_at-width W W' n x y h l l' =
      sym (value_at-widen W (W + W') n x y h l (omega arith)) ∙ value_at-widen W' (W + W') n x y h l' (omega arith)

  -- x^c f has the value x^c times that of f
  pub value_at-x : (W n c : ℕ) {f : Fn 𝓢 q} (x y : K) → Cut 𝓢 q n 0 f → n + q * c < q * W
      → value_at 𝓢 q W (times_x 𝓢 q c f) x y ≡ power 𝓢 x c ⊗ value_at 𝓢 q W f x y
  unfolding value_at times_x
  value_at-x W n c {f} x y h l =
      sum-cong 𝓢 q (λ j hj. ap (λ z. power 𝓢 y j ⊗ z) (value_in-shift 𝓛 W c (f j) x (none j hj))) ∙ simp (sums, sorted*, 𝓛)
    where
      none : (j : ℕ) → j < q → (i : ℕ) → W ≤ i + c → f j i ≡ 𝟘
      none j hj i hi =
          let wide : W ≤ c + i = omega arith in
          h.off j i hj (omega (arith, weight-wide q j wide, weight-x q j c i))

  module _ (x y : K) (curve : OnCurve 𝓢 q x y) where
    -- y^q is x^(q+1) - y there
    last : y ⊗ power 𝓢 y (q - 1) ⊕ y ≡ power 𝓢 x (q + 1)
    last =
        let e : suc (q - 1) ≡ q = omega (arith, two-le-q 𝓛) in
        ap (λ z. z ⊕ y) (sym (power-suc 𝓢 y (q - 1)) ∙ ap (power 𝓢 y) e) ∙ curve

    -- y times f, where no coefficient is moved past the width
    module _ (W : ℕ) (f : Fn 𝓢 q) (h : (i : ℕ) → W ≤ i + (q + 1) → f (q - 1) i ≡ 𝟘) where
      -- the value of row j of f
      row : ℕ → K
      row j = value_in 𝓢 q W (f j) x

      -- row 0 of y f comes from x^(q+1)
      shifted_row : value_in 𝓢 q W (times_y 𝓢 q f 0) x ≡ power 𝓢 x (q + 1) ⊗ row (q - 1)
      unfolding times_y row
      shifted_row = value_in-shift 𝓛 W (q + 1) (f (q - 1)) x h

      -- row 1 loses the last row
      lessened-row : value_in 𝓢 q W (times_y 𝓢 q f 1) x ≡ row 0 ⊖ row (q - 1)
      unfolding times_y row
      lessened-row = value_in-sub 𝓛 W (f 0) (f (q - 1)) x

      -- together: y times the value
      value_at-y-wide : value_at 𝓢 q W (times_y 𝓢 q f) x y ≡ y ⊗ value_at 𝓢 q W f x y
      unfolding value_at times_y row
      value_at-y-wide =
          sum 𝓢 q (λ j. power 𝓢 y j ⊗ value_in 𝓢 q W (times_y 𝓢 q f j) x)
          ≡⟨ sum-heads 𝓛 q (λ j. power 𝓢 y j ⊗ value_in 𝓢 q W (times_y 𝓢 q f j) x) (two-le-q 𝓛) ⟩
          power 𝓢 y 0 ⊗ value_in 𝓢 q W (times_y 𝓢 q f 0) x
          ⊕ (power 𝓢 y 1 ⊗ value_in 𝓢 q W (times_y 𝓢 q f 1) x ⊕ sum 𝓢 (q - 2) (λ j. power 𝓢 y (suc (suc j)) ⊗ row (suc j)))
          ≡⟨ (simp (power_zero, power-one 𝓛, one-mul 𝓛, shifted_row, lessened-row, power-suc, mul-sum 𝓛, mul_assoc 𝓛)) ⟩
          power 𝓢 x (q + 1) ⊗ row (q - 1)
          ⊕ (y ⊗ (row 0 ⊖ row (q - 1)) ⊕ y ⊗ sum 𝓢 (q - 2) (λ j. power 𝓢 y (suc j) ⊗ row (suc j)))
          ≡⟨ linear 𝓛 (ap (λ z. z ⊗ row (q - 1)) (sym last)) (simp (power_zero, power-suc, ring, 𝓛)) ⟩
          y ⊗ (power 𝓢 y 0 ⊗ row 0 ⊕ sum 𝓢 (q - 2) (λ j. power 𝓢 y (suc j) ⊗ row (suc j)) ⊕ power 𝓢 y (q - 1) ⊗ row (q - 1))
          ≡⟨ ap (λ s. y ⊗ s) (sym (sum-ends 𝓛 q (λ j. power 𝓢 y j ⊗ row j) (two-le-q 𝓛))) ⟩
          y ⊗ sum 𝓢 q (λ j. power 𝓢 y j ⊗ row j) ∎

    -- y f has the value y times that of f
    pub value_at-y : (W n : ℕ) {f : Fn 𝓢 q} → Cut 𝓢 q n 0 f → n + (q + 1) < q * W
        → value_at 𝓢 q W (times_y 𝓢 q f) x y ≡ y ⊗ value_at 𝓢 q W f x y
    value_at-y W n {f} h l = value_at-y-wide W f none
      where
        none : (i : ℕ) → W ≤ i + (q + 1) → f (q - 1) i ≡ 𝟘
        none i hi =
            let two = two-le-q 𝓛 in
            let wide : W ≤ q + 1 + i = omega arith in
            h.off (q - 1) i (omega arith) (omega (arith, weight-wide q 0 wide, weight-wrap q i (omega arith)))

    -- y^b f has the value y^b times that of f
    pub value_at-ys : (b W n : ℕ) {f : Fn 𝓢 q} → Cut 𝓢 q n 0 f → n + (q + 1) * b < q * W
        → value_at 𝓢 q W (times_ys 𝓢 q b f) x y ≡ power 𝓢 y b ⊗ value_at 𝓢 q W f x y
    unfolding times_ys
    value_at-ys zero W n h l = simp (power_zero, one-mul 𝓛)
    value_at-ys (suc b) W n {f} h l =
        value_at-y W (n + (q + 1) * b) (cut-ys 𝓛 b h) (omega arith)
        ∙ simp (power-suc, value_at-ys b W n h (omega arith), mul_assoc 𝓛)

    -- the product by the monomial of s has the monomial's value for a factor
    pub value_at-monomial : (s : ℕ) → nongap q s ≡ true → (W n : ℕ) {f : Fn 𝓢 q} → Cut 𝓢 q n 0 f → n + s < q * W
        → value_at 𝓢 q W (times_monomial 𝓢 q s f) x y ≡ monomial_at 𝓢 q s x y ⊗ value_at 𝓢 q W f x y
    unfolding times_monomial monomial_at
    value_at-monomial s t W n {f} h l =
        let e = powers-weigh q s (omega (arith, two-le-q 𝓛)) t in
        value_at-x W (n + (q + 1) * y_power q s) (x_power q s) x y (cut-ys 𝓛 (y_power q s) h) (omega arith)
        ∙ ap (λ z. power 𝓢 x (x_power q s) ⊗ z) (value_at-ys (y_power q s) W n h (omega arith))
        ∙ sym (mul_assoc 𝓛 (power 𝓢 x (x_power q s)) (power 𝓢 y (y_power q s)) (value_at 𝓢 q W f x y))
