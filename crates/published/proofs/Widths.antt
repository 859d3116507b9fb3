-- The numbers of the widths and weights: q²+2q-1 powers of x, leads below q³+2q²-q, the start weight q³+q²-q-1.
use mathlib.Core.Path.{◌≡◌, ap}
use Prim.Native.Nat.{ℕ, suc, ◌+◌, ◌*◌, ◌-◌, ◌≤◌, ◌<◌}
use native.Mathlib.Nat as Nat
use native.Mathlib.Omega.{arith}
use Rattle.algebra.specs.Weights.{weight}
use Rattle.published.specs.Start.{width, start_weight, step_count}

-- the step with weight s is made of what holds at s + 1
pub weight-before : (q t : ℕ) → t < step_count q → step_count q - t ≡ suc (start_weight q - t)
unfolding step_count
weight-before q t h = omega arith

module _ (q : ℕ) (two : 2 ≤ q) where
  -- 2q is at most q²
  square : q * 2 ≤ q * q
  square = Nat.mul-le-mul_left q two

  -- x^(q²) has a place
  pub width-wide : q * q < width q
  unfolding width
  width-wide = omega (arith, two)

  -- q times the width is q³+2q²-q
  q-width : q * width q + q ≡ q * (q * q + 2 * q)
  unfolding width
  q-width = let e : width q + 1 ≡ q * q + 2 * q = omega (arith, two) in omega (arith, ap (λ n. q * n) e)

  -- a degree of at most q² in a row below q makes a weight that fits, with one to spare
  pub degree-fits : (j d : ℕ) → j < q → d ≤ q * q → weight q j d + 1 < q * width q
  unfolding weight
  degree-fits j d hj hd = omega (arith, q-width, square, Nat.mul-le-mul_left q hd, Nat.mul-le-mul_left (q + 1) hj)

  -- the start weight is that of x^(q²-1) y^(q-1)
  pub start-weight : weight q (q - 1) (q * q - 1) ≡ start_weight q
  unfolding weight start_weight
  start-weight =
      let s = square in
      let degree : q * q - 1 + 1 ≡ q * q = omega (arith, two) in
      let row : q - 1 + 1 ≡ q = omega (arith, two) in
      omega (arith, two, ap (λ n. q * n) degree, ap (λ n. (q + 1) * n) row)

  -- z y^i fits under the start weight
  pub start_fits : (i : ℕ) → i < q → weight q i 0 + step_count q < q * width q
  unfolding weight step_count start_weight
  start_fits i hi = omega (arith, two, square, q-width, Nat.mul-le-mul_left (q + 1) hi)

  -- and so does h
  pub start-weight-fits : start_weight q < q * width q
  unfolding start_weight
  start-weight-fits = omega (arith, q-width, square)
