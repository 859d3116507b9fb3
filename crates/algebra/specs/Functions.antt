-- Functions on the curve y^q + y = x^(q+1): a polynomial in x for each power of y below q, as coefficients by power of y and then
-- of x, with their products by x, by y and by monomials, and their values. Document 01, "Fields and curve".
-- Assumes nothing.
use Rattle.std.specs.Prelude.{true, false, ℕ, zero, suc, ◌+◌, ◌-◌, ltb}
use Rattle.algebra.specs.Symbols.{Symbols, power, sum}
use Rattle.algebra.specs.Weights.{x_power, y_power}

module _ (𝓢 : Symbols) (q : ℕ) where
  infixl 65 ◌⊖◌
  infixl 70 ◌⊗◌
  open 𝓢 use {K, 𝟘, ◌⊖◌, ◌⊗◌}

  -- f j i is the coefficient of x^i y^j
  abbrev pub Fn : Type 0
  Fn = ℕ → ℕ → K

  -- x^c times a polynomial in x
  unfoldable pub shift : ℕ → (ℕ → K) → ℕ → K
  shift c a i = elim (ltb i c) [ true ↦ 𝟘 | false ↦ a (i - c) ]

  -- x^c times a function
  unfoldable pub times_x : ℕ → Fn → Fn
  times_x c f j i = shift c (f j) i

  -- y times a function: y^q is rewritten as x^(q+1) - y
  unfoldable pub times_y : Fn → Fn
  times_y f zero i = shift (q + 1) (f (q - 1)) i
  times_y f (suc zero) i = f 0 i ⊖ f (q - 1) i
  times_y f (suc (suc j)) i = f (suc j) i

  -- y^n times a function
  unfoldable pub times_ys : ℕ → Fn → Fn
  times_ys zero f = f
  times_ys (suc n) f = times_y (times_ys n f)

  -- the monomial of s times a function
  unfoldable pub times_monomial : ℕ → Fn → Fn
  times_monomial s f = times_x (x_power q s) (times_ys (y_power q s) f)

  -- the monomial of s at (x, y)
  unfoldable pub monomial_at : ℕ → K → K → K
  monomial_at s x y = power 𝓢 x (x_power q s) ⊗ power 𝓢 y (y_power q s)

  -- the value at x of a polynomial in x with powers below W
  unfoldable pub value_in : ℕ → (ℕ → K) → K → K
  value_in W a x = sum 𝓢 W (λ i. a i ⊗ power 𝓢 x i)

  -- the value at (x, y) of a function with powers of x below W
  unfoldable pub value_at : ℕ → Fn → K → K → K
  value_at W f x y = sum 𝓢 q (λ j. power 𝓢 y j ⊗ value_in W (f j) x)
