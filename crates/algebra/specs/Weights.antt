-- Weights, gaps and monomials: what x^i y^j weighs, and for a number s the j and i whose monomial weighs s, where there are such.
-- Document 01, "Fields and curve", in its paragraph on functions.
-- Assumes nothing.
use Rattle.std.specs.Prelude.{Bool, not, ℕ, ◌+◌, ◌*◌, ◌-◌, ◌/◌, ◌%◌, ltb}

-- the weight of x^i y^j
unfoldable pub weight : ℕ → ℕ → ℕ → ℕ
weight q j i = q * i + (q + 1) * j

-- j of the number s
unfoldable pub y_power : ℕ → ℕ → ℕ
y_power q s = s % q

-- i of the number s, where it is not negative
unfoldable pub x_power : ℕ → ℕ → ℕ
x_power q s = (s - (q + 1) * (s % q)) / q

-- i would be negative
unfoldable pub gap : ℕ → ℕ → Bool
gap q s = ltb s ((q + 1) * (s % q))

unfoldable pub nongap : ℕ → ℕ → Bool
nongap q s = not (gap q s)
