-- The polynomials before the first step. Document 01, "The decoder's steps" and "Lent areas": h, the start, the start weight,
-- and how 2q polynomials are held: each by its parts, of which z multiplies the upper one, by power of y and then of x.
-- Assumes nothing.
use Rattle.std.specs.Prelude.{true, false, ◌&&◌, List, [], ℕ, ◌+◌, ◌*◌, ◌-◌, ◌/◌, ◌%◌, eqb, ltb, get_or}
use Rattle.algebra.specs.Symbols.{Symbols, sum}
use Rattle.algebra.specs.Functions.{Fn, times_ys}
use Rattle.algebra.specs.Interpolation.{unit, x_part, y_part}
use Rattle.lists.specs.Tables.{tab}
use Rattle.curve.specs.Points.{point_at}
use Rattle.curve.specs.Codes.{point_count}

-- how many powers of x a row has places for: x^0 to x^(q²+2q-2)
unfoldable pub width : ℕ → ℕ
width q = q * q + 2 * q - 1

-- the start weight, the same for every row
unfoldable pub start_weight : ℕ → ℕ
start_weight q = q * q * q + q * q - q - 1

-- a step for each weight from that one to 0
unfoldable pub step_count : ℕ → ℕ
step_count q = start_weight q + 1

-- the parts of a polynomial, in the order of the layout
abbrev pub upper : ℕ
upper = 0

abbrev pub lower : ℕ
lower = 1

-- the places of g_i and f_i among the 2q polynomials
abbrev pub g : ℕ → ℕ → ℕ
g q i = i

abbrev pub f : ℕ → ℕ → ℕ
f q i = q + i

module _ (𝓢 : Symbols) (q : ℕ) where
  infixl 65 ◌⊖◌
  infixl 70 ◌⊗◌
  open 𝓢 use {K, 𝟘, ◌⊖◌, minus, ◌⊗◌}

  -- a polynomial's q upper rows by power of y, then its q lower ones; in each the coefficients by power of x
  abbrev pub Polynomial : Type 0
  Polynomial = List (List K)

  -- g_0 to g_(q-1), then f_0 to f_(q-1)
  abbrev pub Polynomials : Type 0
  Polynomials = List Polynomial

  -- a part of a polynomial, as a function; what is not held is zero
  unfoldable pub coefficient : Polynomials → ℕ → ℕ → Fn 𝓢 q
  coefficient S p part j i = get_or (get_or (get_or S p []) (part * q + j) []) i 𝟘

  -- the polynomial with these two parts
  unfoldable pub polynomial : (ℕ → Fn 𝓢 q) → Polynomial
  polynomial F = tab (2 * q) (λ r. tab (width q) (F (r / q) (r % q)))

  -- the 2q polynomials with these parts
  unfoldable pub polynomials : (ℕ → ℕ → Fn 𝓢 q) → Polynomials
  polynomials F = tab (2 * q) (λ p. polynomial (F p))

  -- the row's symbol at point m times the function that is one there and zero at the other points
  unfoldable pub term : List K → ℕ → ℕ → ℕ → K
  term row j i m = get_or row m 𝟘 ⊗ (x_part 𝓢 q (point_at 𝓢 q m).x i ⊗ y_part 𝓢 q (point_at 𝓢 q m).y j)

  -- h: its powers of x are below q², those of y below q, and its values at the points are the row's symbols
  unfoldable pub h : List K → Fn 𝓢 q
  h row j i = elim (ltb i (q * q)) [ true ↦ sum 𝓢 (point_count q) (term row j i) | false ↦ 𝟘 ]

  -- the same coefficients, worked out once
  unfoldable pub table : Fn 𝓢 q → List (List K)
  table F = tab q (λ j. tab (q * q) (F j))

  unfoldable pub of_table : List (List K) → Fn 𝓢 q
  of_table rows j i = get_or (get_or rows j []) i 𝟘

  -- x^(q²) - x
  unfoldable pub vanishing : Fn 𝓢 q
  vanishing j i = unit 𝓢 (eqb j 0 && eqb i (q * q)) ⊖ unit 𝓢 (eqb j 0 && eqb i 1)

  -- 1
  unfoldable pub one : Fn 𝓢 q
  one j i = unit 𝓢 (eqb j 0 && eqb i 0)

  unfoldable pub nothing : Fn 𝓢 q
  nothing j i = 𝟘

  unfoldable pub negated : Fn 𝓢 q → Fn 𝓢 q
  negated F j i = minus (F j i)

  -- polynomial p is y^i(x^(q²) - x) if it is g_i, and y^i(z - h) if it is f_i
  unfoldable pub start_part : List (List K) → ℕ → ℕ → Fn 𝓢 q
  start_part h p part =
      elim (ltb p q) [
        | true ↦ elim (eqb part upper) [ true ↦ nothing | false ↦ times_ys 𝓢 q p vanishing ]
        | false ↦ elim (eqb part upper) [ true ↦ times_ys 𝓢 q (p - q) one | false ↦ times_ys 𝓢 q (p - q) (negated (of_table h)) ]
      ]

  unfoldable pub start : List K → Polynomials
  start row = let rows = table (h row) in polynomials (start_part rows)
