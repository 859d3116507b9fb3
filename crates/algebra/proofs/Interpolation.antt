-- Interpolation on q² columns of q points each: the closed form takes the given values, and no other function of its
-- degrees does, below q² in x and below q in y.
use mathlib.Core.Path.{◌≡◌, sym, ap, ap₂, ◌∙◌}
use mathlib.Core.Logic.{◌≢◌}
use Prim.Native.Nat.{ℕ, suc, ◌+◌, ◌*◌, ◌-◌, ◌<◌}
use native.Mathlib.Nat as Nat
use native.Mathlib.Omega.{arith}
use lib.Dec.{eqb}
use borrow.Author.Tests.{ne_eqb}
use Rattle.algebra.specs.Symbols.{Symbols, Laws, power, sum}
use Rattle.algebra.specs.Functions.{Fn, value_in, value_at}
use Rattle.algebra.specs.Interpolation.{unit, x_part, y_part}
use Rattle.algebra.proofs.Ring.{ring, units, sorted*, linear, mul_comm, sub_self, sub-ne, zero-mul, one-mul, zero-factor, equal-of-sub}
use Rattle.algebra.proofs.Powers.{two-le-q, power_zero, power-add}
use Rattle.algebra.proofs.Sums.{sum_rows, sum-cong, sum-none, sum-single, sum-mul, sums}
use Rattle.algebra.proofs.Polynomials.{value_in-def, value_in-add, value_in-sub}
use Rattle.algebra.proofs.Roots.{geometric, roots}
use Rattle.algebra.proofs.OnCurve.{OnCurve, value_at-def, value_at-sum, value_at-sub}

module _ {𝓢 : Symbols} {q : ℕ} (𝓛 : Laws 𝓢 q) where
  infixl 65 ◌⊕◌ ◌⊖◌
  infixl 70 ◌⊗◌
  open 𝓢 use {K, 𝟘, 𝟙, ◌⊕◌, ◌⊖◌, ◌⊗◌}

  -- the polynomial 1
  one_value : (W : ℕ) (x : K) → 0 < W → value_in 𝓢 q W (λ i. unit 𝓢 (eqb i 0)) x ≡ 𝟙
  unfolding unit
  one_value W x h =
      value_in-def 𝓢 q W (λ i. unit 𝓢 (eqb i 0)) x
      ∙ sum-single 𝓛 W 0 (λ i. unit 𝓢 (eqb i 0) ⊗ power 𝓢 x i) h
      (λ i hi ne. ap (λ t. unit 𝓢 t ⊗ power 𝓢 x i) (ne_eqb i 0 ne) ∙ zero-mul 𝓛 (power 𝓢 x i))
      ∙ simp (power_zero, one-mul 𝓛)

  -- Σ x^i a^(m - 1 - i)
  mixed : K → K → ℕ → K
  mixed x a m = value_in 𝓢 q m (λ i. power 𝓢 a (m - 1 - i)) x

  -- times x - a it is x^m - a^m
  mixed-apart : (x a : K) (m : ℕ) → (x ⊖ a) ⊗ mixed x a m ≡ power 𝓢 x m ⊖ power 𝓢 a m
  unfolding mixed
  mixed-apart x a m =
      ap (λ z. (x ⊖ a) ⊗ z) (value_in-def 𝓢 q m (λ i. power 𝓢 a (m - 1 - i)) x ∙ sum-cong 𝓢 m term) ∙ geometric 𝓛 x a m
    where
      term : (i : ℕ) → i < m → power 𝓢 a (m - 1 - i) ⊗ power 𝓢 x i ≡ power 𝓢 x i ⊗ power 𝓢 a (m - suc i)
      term i hi = let e : m - 1 - i ≡ m - suc i = omega arith in rw e (mul_comm 𝓛 (power 𝓢 a (m - suc i)) (power 𝓢 x i))

  -- at x = a all m terms are a^(m - 1)
  mixed-same : (a : K) (m : ℕ) → mixed a a m ≡ sum 𝓢 m (λ i. 𝟙) ⊗ power 𝓢 a (m - 1)
  unfolding mixed
  mixed-same a m =
      value_in-def 𝓢 q m (λ i. power 𝓢 a (m - 1 - i)) a ∙ sum-cong 𝓢 m term ∙ sym (sum-mul 𝓛 m (power 𝓢 a (m - 1)) (λ i. 𝟙))
    where
      term : (i : ℕ) → i < m → power 𝓢 a (m - 1 - i) ⊗ power 𝓢 a i ≡ 𝟙 ⊗ power 𝓢 a (m - 1)
      term i hi =
          let e : m - 1 - i + i ≡ m - 1 = omega arith in
          sym (power-add 𝓛 a (m - 1 - i) i) ∙ ap (power 𝓢 a) e ∙ sym (one-mul 𝓛 (power 𝓢 a (m - 1)))

  -- q² · 1 = 0
  square-ones : sum 𝓢 (q * q) (λ i. 𝟙) ≡ 𝟘
  square-ones = sum_rows 𝓛 q q (λ i. 𝟙) ∙ sum-none 𝓛 q (λ i hi. 𝓛.q-ones)

  -- the value of the x-part of a
  x_part-value : (a x : K) → value_in 𝓢 q (q * q) (x_part 𝓢 q a) x ≡ 𝟙 ⊖ mixed x a (q * q)
  unfolding x_part mixed
  x_part-value a x =
      value_in-sub 𝓛 (q * q) (λ i. unit 𝓢 (eqb i 0)) (λ i. power 𝓢 a (q * q - 1 - i)) x
      ∙ ap (λ z. z ⊖ mixed x a (q * q)) (one_value (q * q) x (omega (arith, 𝓛.number-below a)))

  -- the value of the y-part of b
  y_part-value : (b y : K) → value_in 𝓢 q q (y_part 𝓢 q b) y ≡ 𝟙 ⊕ mixed y b q
  unfolding y_part mixed
  y_part-value b y =
      value_in-add 𝓛 q (λ j. unit 𝓢 (eqb j 0)) (λ j. power 𝓢 b (q - 1 - j)) y
      ∙ ap (λ z. z ⊕ mixed y b q) (one_value q y (omega (arith, two-le-q 𝓛)))

  -- the x-part of a is one at a, since q² · 1 = 0
  pub x_part-same : (a : K) → value_in 𝓢 q (q * q) (x_part 𝓢 q a) a ≡ 𝟙
  x_part-same a = x_part-value a a ∙ simp (mixed-same a (q * q), square-ones, ring, 𝓛)

  -- and zero at every other symbol, since x^(q²) = x
  pub x_part-other : (a x : K) → x ≢ a → value_in 𝓢 q (q * q) (x_part 𝓢 q a) x ≡ 𝟘
  x_part-other a x ne =
      let e = mixed-apart x a (q * q) ∙ ap₂ ◌⊖◌ (𝓛.power-same x) (𝓛.power-same a) in
      x_part-value a x ∙ zero-factor 𝓛 (x ⊖ a) (𝟙 ⊖ mixed x a (q * q)) (linear 𝓛 (sym e) (simp (ring, 𝓛))) (sub-ne 𝓛 ne)

  -- the y-part of b is one at b, since q · 1 = 0
  pub y_part-same : (b : K) → value_in 𝓢 q q (y_part 𝓢 q b) b ≡ 𝟙
  y_part-same b = y_part-value b b ∙ simp (mixed-same b q, 𝓛.q-ones, ring, 𝓛)

  -- and zero at every other y with y^q + y = b^q + b
  pub y_part-other : (b y : K) → y ≢ b → power 𝓢 y q ⊕ y ≡ power 𝓢 b q ⊕ b → value_in 𝓢 q q (y_part 𝓢 q b) y ≡ 𝟘
  y_part-other b y ne fibre =
      let product : (y ⊖ b) ⊗ (𝟙 ⊕ mixed y b q) ≡ 𝟘 = linear 𝓛 (mixed-apart y b q) (linear 𝓛 fibre (simp (ring, 𝓛))) in
      y_part-value b y ∙ zero-factor 𝓛 (y ⊖ b) (𝟙 ⊕ mixed y b q) product (sub-ne 𝓛 ne)

module _ (𝓢 : Symbols) (q : ℕ) where
  infixl 70 ◌⊗◌
  open 𝓢 use {K, ◌⊗◌}

  -- q² columns, of q points of the curve each
  pub record Columns (X : ℕ → K) (Y : ℕ → ℕ → K) : Type 0 where
    pub columns-apart : (a a' : ℕ) → a < q * q → a' < q * q → X a ≡ X a' → a ≡ a'
    pub rows_apart : (a b b' : ℕ) → a < q * q → b < q → b' < q → Y a b ≡ Y a b' → b ≡ b'
    pub on-curve : (a b : ℕ) → a < q * q → b < q → OnCurve 𝓢 q (X a) (Y a b)

  -- the sum over the points of the value there times the function that is one there alone
  unfoldable pub interpolant : (ℕ → K) → (ℕ → ℕ → K) → (ℕ → ℕ → K) → Fn 𝓢 q
  interpolant X Y r j i = sum 𝓢 (q * q) (λ a. sum 𝓢 q (λ b. r a b ⊗ (x_part 𝓢 q (X a) i ⊗ y_part 𝓢 q (Y a b) j)))

module _ {𝓢 : Symbols} {q : ℕ} (𝓛 : Laws 𝓢 q) {X : ℕ → 𝓢.K} {Y : ℕ → ℕ → 𝓢.K} (C : Columns 𝓢 q X Y) where
  infixl 65 ◌⊖◌
  infixl 70 ◌⊗◌
  open 𝓢 use {K, 𝟘, ◌⊖◌, ◌⊗◌}

  -- the value of a function with x-degree below q²
  value : Fn 𝓢 q → K → K → K
  value = value_at 𝓢 q (q * q)

  -- the function of one point of the closed form, and of one column
  cell : (r : ℕ → ℕ → K) (a b : ℕ) → Fn 𝓢 q
  cell r a b j i = r a b ⊗ (x_part 𝓢 q (X a) i ⊗ y_part 𝓢 q (Y a b) j)

  -- the function of one column
  column : (r : ℕ → ℕ → K) (a : ℕ) → Fn 𝓢 q
  column r a j i = sum 𝓢 q (λ b. cell r a b j i)

  -- the value of the function of one point is a product
  cell-value : (r : ℕ → ℕ → K) (a b : ℕ) (x y : K)
      → value (cell r a b) x y ≡ r a b ⊗ (value_in 𝓢 q (q * q) (x_part 𝓢 q (X a)) x ⊗ value_in 𝓢 q q (y_part 𝓢 q (Y a b)) y)
  unfolding value cell
  cell-value r a b x y = value_at-def 𝓢 q (q * q) (cell r a b) x y ∙ simp (value_in-def, sums, sorted*, 𝓛)

  -- the value of the function of one column is a sum
  column-value : (r : ℕ → ℕ → K) (a : ℕ) (x y : K) → value (column r a) x y ≡ sum 𝓢 q (λ b. value (cell r a b) x y)
  unfolding value column
  column-value r a x y = value_at-sum 𝓛 q (q * q) (cell r a) x y

  -- a column is zero at the points of the others
  column-other : (r : ℕ → ℕ → K) (a a' : ℕ) (y : K) → a < q * q → a' < q * q → a' ≢ a → value (column r a') (X a) y ≡ 𝟘
  column-other r a a' y ha ha' ne =
      column-value r a' (X a) y ∙ sum-none 𝓛 q (λ b hb. cell-value r a' b (X a) y ∙ simp (none, units, 𝓛))
    where
      none : value_in 𝓢 q (q * q) (x_part 𝓢 q (X a')) (X a) ≡ 𝟘
      none = x_part-other 𝓛 (X a') (X a) (λ e. ne (C.columns-apart a' a ha' ha (sym e)))

  -- and takes the values at its own points
  column-own : (r : ℕ → ℕ → K) (a b : ℕ) → a < q * q → b < q → value (column r a) (X a) (Y a b) ≡ r a b
  column-own r a b ha hb =
      column-value r a (X a) (Y a b) ∙ sum-single 𝓛 q b (λ b'. value (cell r a b') (X a) (Y a b)) hb other
      ∙ cell-value r a b (X a) (Y a b) ∙ simp (x_part-same 𝓛 (X a), y_part-same 𝓛 (Y a b), units, 𝓛)
    where
      other : (b' : ℕ) → b' < q → b' ≢ b → value (cell r a b') (X a) (Y a b) ≡ 𝟘
      other b' hb' ne =
          let fibre = C.on-curve a b ha hb ∙ sym (C.on-curve a b' ha hb') in
          let none = y_part-other 𝓛 (Y a b') (Y a b) (λ e. ne (C.rows_apart a b' b ha hb' hb (sym e))) fibre in
          cell-value r a b' (X a) (Y a b) ∙ simp (none, units, 𝓛)

  -- the closed form takes the given values at the points
  pub interpolates : (r : ℕ → ℕ → K) (a b : ℕ) → a < q * q → b < q
      → value_at 𝓢 q (q * q) (interpolant 𝓢 q X Y r) (X a) (Y a b) ≡ r a b
  unfolding interpolant column cell value
  interpolates r a b ha hb =
      value_at-sum 𝓛 (q * q) (q * q) (column r) (X a) (Y a b)
      ∙ sum-single 𝓛 (q * q) a (λ a'. value (column r a') (X a) (Y a b)) ha (λ a'. column-other r a a' (Y a b) ha)
      ∙ column-own r a b ha hb

  -- a function that is zero at all points has only zeros for coefficients: root counting in y, and then in x
  pub zero-at-points : (f : Fn 𝓢 q) → ((a b : ℕ) → a < q * q → b < q → value_at 𝓢 q (q * q) f (X a) (Y a b) ≡ 𝟘)
      → (j i : ℕ) → j < q → i < q * q → f j i ≡ 𝟘
  zero-at-points f z j i hj hi =
      roots 𝓛 (q * q) (f j) X (λ a a' l ha' e. Nat.ne_of_lt l (C.columns-apart a a' (omega arith) ha' e))
      (λ a ha.
      roots 𝓛 q (row a) (Y a) (λ b b' l hb' e. Nat.ne_of_lt l (C.rows_apart a b b' ha (omega arith) hb' e)) (zeros a ha) j hj)
      i hi
    where
      -- the coefficients of f as a polynomial in y, at the x of a column
      row : ℕ → ℕ → K
      row a j = value_in 𝓢 q (q * q) (f j) (X a)

      zeros : (a : ℕ) → a < q * q → (b : ℕ) → b < q → value_in 𝓢 q q (row a) (Y a b) ≡ 𝟘
      zeros a ha b hb =
          value_in-def 𝓢 q q (row a) (Y a b) ∙ sum-cong 𝓢 q (λ j hj. mul_comm 𝓛 (row a j) (power 𝓢 (Y a b) j))
          ∙ sym (value_at-def 𝓢 q (q * q) f (X a) (Y a b)) ∙ z a b ha hb

  -- a function of degree below q² in x and below q in y is known by its values at the points
  pub interpolant-unique : (f g : Fn 𝓢 q)
      → ((a b : ℕ) → a < q * q → b < q → value_at 𝓢 q (q * q) f (X a) (Y a b) ≡ value_at 𝓢 q (q * q) g (X a) (Y a b))
      → (j i : ℕ) → j < q → i < q * q → f j i ≡ g j i
  interpolant-unique f g same j i hj hi = equal-of-sub 𝓛 (zero-at-points (λ j i. f j i ⊖ g j i) zeros j i hj hi)
    where
      zeros : (a b : ℕ) → a < q * q → b < q → value_at 𝓢 q (q * q) (λ j i. f j i ⊖ g j i) (X a) (Y a b) ≡ 𝟘
      zeros a b ha hb = value_at-sub 𝓛 (q * q) f g (X a) (Y a b) ∙ simp (same a b ha hb, sub_self 𝓛)
