-- The two parts of the function that is one at a point (a, b) of the curve and zero at every other: a polynomial in x that
-- is one at a alone, and a polynomial in y that is, of the points above a, one at b alone. h, in document 01's "The
-- decoder's steps", is the sum over the points of both parts' product times the row's symbol.
-- Assumes nothing.
use Rattle.std.specs.Prelude.{Bool, true, false, ℕ, ◌*◌, ◌-◌, eqb}
use Rattle.algebra.specs.Symbols.{Symbols, power}

module _ (𝓢 : Symbols) where
  open 𝓢 use {K, 𝟘, 𝟙}

  -- one where the test holds, else zero
  unfoldable pub unit : Bool → K
  unit b = elim b [ true ↦ 𝟙 | false ↦ 𝟘 ]

module _ (𝓢 : Symbols) (q : ℕ) where
  infixl 65 ◌⊕◌ ◌⊖◌
  open 𝓢 use {K, ◌⊕◌, ◌⊖◌}

  -- 1 - Σ x^i a^(q² - 1 - i): its coefficient of x^i
  unfoldable pub x_part : K → ℕ → K
  x_part a i = unit 𝓢 (eqb i 0) ⊖ power 𝓢 a (q * q - 1 - i)

  -- 1 + Σ y^j b^(q - 1 - j): its coefficient of y^j
  unfoldable pub y_part : K → ℕ → K
  y_part b j = unit 𝓢 (eqb j 0) ⊕ power 𝓢 b (q - 1 - j)
