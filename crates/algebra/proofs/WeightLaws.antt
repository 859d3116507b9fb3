-- Weights of monomials: x^i y^j with j < q is known by its weight; which numbers are weights, and what multiplication by x
-- and by y does to them.
use mathlib.Core.Path.{◌≡◌, sym, ap, ◌∙◌}
use mathlib.Core.Logic.{◌≢◌}
use mathlib.Core.Bool.{true, not}
use Prim.Native.Nat.{ℕ, zero, suc, ◌+◌, ◌*◌, ◌-◌, ◌/◌, ◌%◌, ◌≤◌, ◌<◌}
use native.Mathlib.Nat as Nat
use native.Mathlib.Omega.{arith}
use native.Mathlib.Decide.{dec_lt}
use borrow.Author.Tests.{ltb-true, ltb-false, le-ltb, not-true}
use Rattle.algebra.specs.Weights.{weight, x_power, y_power, gap, nongap}

module _ (q : ℕ) where
  -- the weight is j modulo q
  pub weight-rows : (j i : ℕ) → weight q j i ≡ q * (i + j) + j
  unfolding weight
  weight-rows j i = omega arith

  -- x^c more
  pub weight-x : (j c i : ℕ) → weight q j (c + i) ≡ weight q j i + q * c
  unfolding weight
  weight-x j c i = omega arith

  -- y more
  pub weight-y : (j i : ℕ) → weight q (suc j) i ≡ weight q j i + (q + 1)
  unfolding weight
  weight-y j i = omega arith

  -- y^j more than a power of x
  pub weight-ys : (j i : ℕ) → weight q j i ≡ weight q 0 i + (q + 1) * j
  unfolding weight
  weight-ys j i = omega arith

  -- 1 has weight 0
  pub weight-origin : weight q 0 0 ≡ 0
  unfolding weight
  weight-origin = omega arith

  -- a larger power of x weighs more
  pub weight-mono : (j : ℕ) {i i' : ℕ} → i ≤ i' → weight q j i ≤ weight q j i'
  unfolding weight
  weight-mono j h = omega (arith, Nat.mul-le-mul_left q h)

  -- strictly so
  pub weight-strict : (j : ℕ) {i i' : ℕ} → 0 < q → i < i' → weight q j i < weight q j i'
  unfolding weight
  weight-strict j pos h = omega (arith, Nat.mul-le-mul_left q h)

  -- a larger power of y weighs more
  pub weight-row-mono : {j j' : ℕ} (i : ℕ) → j ≤ j' → weight q j i ≤ weight q j' i
  unfolding weight
  weight-row-mono i h = omega (arith, Nat.mul-le-mul_left (q + 1) h)

  -- strictly so
  pub weight-row-strict : {j j' : ℕ} (i : ℕ) → j < j' → weight q j i < weight q j' i
  unfolding weight
  weight-row-strict i h = omega (arith, Nat.mul-le-mul_left (q + 1) h)

  -- a weight below qW has a power of x below W
  pub weight-fits : (j i W : ℕ) → weight q j i < q * W → i < W
  unfolding weight
  weight-fits j i W h = Nat.lt_of_mul-lt-mul_left q (omega arith)

  -- a power of x of W or more makes a weight of qW or more
  pub weight-wide : (j : ℕ) {W i : ℕ} → W ≤ i → q * W ≤ weight q j i
  unfolding weight
  weight-wide j h = omega (arith, Nat.mul-le-mul_left q h)

  -- the power of y is the weight modulo q
  pub weight-mod : (j i : ℕ) → j < q → weight q j i % q ≡ j
  weight-mod j i h = rw (weight-rows, Nat.mul-add-mod_self_left) (Nat.mod-eq_of_lt h)

  -- a weight has one monomial at most
  pub weight-inj : (j i j' i' : ℕ) → j < q → j' < q → weight q j i ≡ weight q j' i' → (j ≡ j') × (i ≡ i')
  unfolding weight
  weight-inj j i j' i' h h' e =
      let ej : j ≡ j' = sym (weight-mod j i h) ∙ ap (λ n. n % q) e ∙ weight-mod j' i' h' in
      let ei : q * i ≡ q * i' = Nat.add_right_cancel ((q + 1) * j) (e ∙ ap (λ n. q * i' + (q + 1) * n) (sym ej)) in
      (ej, Nat.eq_of_mul-eq-mul_left q (omega arith) i i' ei)

  -- the monomial of a weight
  pub y_power-below : (s : ℕ) → 0 < q → y_power q s < q
  unfolding y_power
  y_power-below s h = Nat.mod-lt s h

  -- it has the power of y back
  pub y_power-weight : (j i : ℕ) → j < q → y_power q (weight q j i) ≡ j
  unfolding y_power
  y_power-weight = weight-mod

  -- and the power of x
  pub x_power-weight : (j i : ℕ) → j < q → x_power q (weight q j i) ≡ i
  unfolding x_power weight
  x_power-weight j i h =
      let e : q * i + (q + 1) * j - (q + 1) * j ≡ q * i = omega arith in
      rw (weight-mod j i h, e) (Nat.mul-div_cancel_left i (omega arith))

-- y^q is x^(q+1) less y, and both have the weight of y^(q-1) times y
pub weight-wrap : (q i : ℕ) → 0 < q → weight q 0 (q + 1 + i) ≡ weight q (q - 1) i + (q + 1)
unfolding weight
weight-wrap zero i h = absurd (omega arith)
weight-wrap (suc r) i h = let e : suc r - 1 ≡ r = omega arith in rw e (omega arith)

module _ (q : ℕ) where
  -- what the test of a gap says
  nongap-le : (s : ℕ) → nongap q s ≡ true → (q + 1) * (s % q) ≤ s
  unfolding nongap gap
  nongap-le s t = ltb-false s ((q + 1) * (s % q)) (not-true (gap q s) t)

  -- and back
  le-nongap : (s : ℕ) → (q + 1) * (s % q) ≤ s → nongap q s ≡ true
  unfolding nongap gap
  le-nongap s h = ap not (le-ltb s ((q + 1) * (s % q)) h)

  -- the power of x of a number that is no gap: its quotient by q less its remainder
  pub x_power-rows : (s : ℕ) → 0 < q → nongap q s ≡ true → x_power q s + s % q ≡ s / q
  unfolding x_power
  x_power-rows s pos t =
      let le = nongap-le s t in
      let d = Nat.div-add-mod s q in
      let rows : q * (s % q) ≤ q * (s / q) = omega arith in
      let r : s % q ≤ s / q = Nat.le_of_mul-le-mul_left rows pos in
      let m : (s / q - s % q) + s % q ≡ s / q = omega arith in
      let e : s - (q + 1) * (s % q) ≡ q * (s / q - s % q) = omega (arith, ap (λ n. q * n) m) in
      rw (e, Nat.mul-div_cancel_left (s / q - s % q) pos) m

  -- the monomial of a number that is no gap has that weight
  pub powers-weigh : (s : ℕ) → 0 < q → nongap q s ≡ true → q * x_power q s + (q + 1) * y_power q s ≡ s
  unfolding y_power
  powers-weigh s pos t = omega (arith, Nat.div-add-mod s q, ap (λ n. q * n) (x_power-rows s pos t))

  -- the same as a weight
  pub weight-powers : (s : ℕ) → 0 < q → nongap q s ≡ true → weight q (y_power q s) (x_power q s) ≡ s
  unfolding weight
  weight-powers = powers-weigh

  -- y^j alone weighs at most as much
  weight-heavy : (j i : ℕ) → (q + 1) * j ≤ weight q j i
  unfolding weight
  weight-heavy j i = omega arith

  -- a weight is no gap
  pub nongap-weight : (j i : ℕ) → j < q → nongap q (weight q j i) ≡ true
  nongap-weight j i h = le-nongap (weight q j i) (rw (weight-mod q j i h) (weight-heavy j i))

  -- a gap has no monomial
  pub gap-none : (s j i : ℕ) → gap q s ≡ true → j < q → weight q j i ≢ s
  unfolding gap
  gap-none s j i t h e = omega (arith, ltb-true s ((q + 1) * (s % q)) t, nongap-le s (rw e at (nongap-weight j i h)))

  -- the weight of a product of two monomials, and of the product with y^q rewritten
  weight-add : (j i j' i' : ℕ) → weight q j i + weight q j' i' ≡ weight q (j + j') (i + i')
  unfolding weight
  weight-add j i j' i' = omega arith

  -- the same with y^q rewritten
  weight-add-wrap : (j i j' i' : ℕ) → q ≤ j + j'
      → weight q j i + weight q j' i' ≡ weight q (j + j' - q) (i + i' + (q + 1))
  unfolding weight
  weight-add-wrap j i j' i' l = let e : j + j' ≡ q + (j + j' - q) = omega arith in omega (arith, ap (λ n. (q + 1) * n) e)

  -- a sum of two weights is no gap
  nongap-weights : (j i j' i' : ℕ) → j < q → j' < q → nongap q (weight q j i + weight q j' i') ≡ true
  nongap-weights j i j' i' h h' = elim (dec_lt (j + j') q) [
    | yes l ↦ rw (weight-add j i j' i') (nongap-weight (j + j') (i + i') l)
    | no l ↦ rw (weight-add-wrap j i j' i' (omega arith)) (nongap-weight (j + j' - q) (i + i' + (q + 1)) (omega arith))
  ]

  -- two non-gaps add up to a non-gap
  pub nongap-add : (s t : ℕ) → 0 < q → nongap q s ≡ true → nongap q t ≡ true → nongap q (s + t) ≡ true
  nongap-add s t pos hs ht =
      rw (weight-powers s pos hs, weight-powers t pos ht)
      at (nongap-weights (y_power q s) (x_power q s) (y_power q t) (x_power q t) (y_power-below q s pos) (y_power-below q t pos))
