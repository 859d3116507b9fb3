-- The picture of the polynomials in the lent work area: the g_i before the f_i; of each polynomial the q rows of the upper part, by
-- power of y, before those of the lower part; of each row q²+2q-1 coefficients, that of x^0 first. Document 01, "Lent areas".
-- Assumes nothing.
use Rattle.std.specs.Prelude.{List, ℕ, ◌+◌, ◌*◌, ◌/◌, ◌%◌}
use Rattle.algebra.specs.Symbols.{Symbols}
use Rattle.lists.specs.Tables.{tab, join}
use Rattle.published.specs.Start.{Polynomials, coefficient, width}

-- 4q²(q²+2q-1) places: 2q polynomials of 2q rows each
unfoldable pub area_size : ℕ → ℕ
area_size q = 4 * (q * q) * width q

-- the place of the coefficient of x^i y^j in a part of polynomial p
unfoldable pub place : ℕ → ℕ → ℕ → ℕ → ℕ → ℕ
place q p part j i = ((p * 2 + part) * q + j) * width q + i

-- the numbers G p r i of 2q polynomials p, of 2q rows r each, of the coefficients i
unfoldable pub layout : ℕ → (ℕ → ℕ → ℕ → ℕ) → List ℕ
layout q G = join (2 * q) (λ p. join (2 * q) (λ r. tab (width q) (G p r)))

module _ (𝓢 : Symbols) (q : ℕ) where
  open 𝓢 use {number}

  -- row r of a polynomial is the one of y^(r mod q) in part r / q
  unfoldable pub cell_number : Polynomials 𝓢 q → ℕ → ℕ → ℕ → ℕ
  cell_number S p r i = number (coefficient 𝓢 q S p (r / q) (r % q) i)

  unfoldable pub picture : Polynomials 𝓢 q → List ℕ
  picture S = layout q (cell_number S)
