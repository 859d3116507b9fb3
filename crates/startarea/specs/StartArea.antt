-- The work area on its way to the polynomials before the first step. Document 01, "The decoder's steps", its first two paragraphs: h
-- is summed up first over the y above an x and then over the x; g_0 and f_0 are put down, and the others are made of them by powers
-- of y.
-- Assumes nothing.
use Rattle.std.specs.Prelude.{true, false, List, ℕ, ◌+◌, ◌-◌, ◌*◌, ◌/◌, ◌%◌, eqb, ltb, get_or}
use Rattle.algebra.specs.Symbols.{power, sum}
use Rattle.algebra.specs.Interpolation.{unit, x_part, y_part}
use Rattle.lists.specs.Tables.{put}
use Rattle.symbols.specs.Sizes.{most_symbols}
use Rattle.symbols.specs.Rule.{difference_of, symbols}
use Rattle.curve.specs.Points.{point_at}
use Rattle.published.specs.Start.{width, vanishing, one, start_part}
use Rattle.workarea.specs.Area.{Cells, with_rows}
use Rattle.substitution.specs.Products.{product_added}

-- the byte at `to` minus a value times what `products` is the table row of
abbrev pub minus_value : ℕ → List ℕ → ℕ → List ℕ → List ℕ → ℕ → ℕ
minus_value q l to values products i = difference_of q (get_or l (to + i) 0) (get_or products (get_or values i 0 % most_symbols) 0)

-- the n bytes from `to` on with a multiple of the values subtracted
unfoldable pub minus_values : ℕ → List ℕ → ℕ → ℕ → List ℕ → List ℕ → List ℕ
minus_values q l to n values products = put l to n (minus_value q l to values products)

module _ (q : ℕ) where
  infixl 65 ◌⊕◌ ◌⊖◌
  infixl 70 ◌⊗◌
  open symbols q use {K, 𝟘, 𝟙, ◌⊕◌, ◌⊖◌, ◌⊗◌, symbol}

  -- F plus σ and ρ·Σ x^i·a^(n-1-i): the two parts of the function that is one at a point have this form, the one in x with n = q²
  -- and ρ = -σ, the one in y with n = q and ρ = σ
  unfoldable pub plus_part : ℕ → K → K → K → (ℕ → K) → ℕ → K
  plus_part n a σ ρ F i = F i ⊕ (σ ⊗ unit (symbols q) (eqb i 0) ⊕ ρ ⊗ power (symbols q) a (n - 1 - i))

  -- the received symbols above the x with number a, times the parts in y of their points: the coefficient of y^j
  unfoldable pub column_sum : List ℕ → ℕ → ℕ → ℕ → K
  column_sum row a n j = sum (symbols q) n (λ b. symbol (get_or row (a * q + b) 0) ⊗ y_part (symbols q) q (point_at (symbols q) q (a * q + b)).y j)

  -- what the points above that x give to h
  unfoldable pub column_of : List ℕ → ℕ → ℕ → ℕ → K
  column_of row a j i = elim (ltb i (q * q)) [ true ↦ column_sum row a q j ⊗ x_part (symbols q) q (symbol a) i | false ↦ 𝟘 ]

  -- what the points above the first n x give
  unfoldable pub columns_of : List ℕ → ℕ → ℕ → ℕ → K
  columns_of row n j i = sum (symbols q) n (λ a. column_of row a j i)

  -- n rows of polynomial p, from row d on, become themselves minus those of G
  unfoldable pub rows_minus : ℕ → ℕ → ℕ → (ℕ → ℕ → K) → Cells q → Cells q
  rows_minus p d n G S = with_rows q p d n (λ j i. S p (d + j) i ⊖ G j i) S

  -- an area of zeros
  unfoldable pub blank : Cells q
  blank p r i = 𝟘

  -- with x^(q²) - x in the lower part of g_0, and 1 in the upper part of f_0
  unfoldable pub firsts : Cells q
  firsts = with_rows q 0 q 1 (λ n. vanishing (symbols q) q 0) (with_rows q q 0 1 (λ n. one (symbols q) q 0) blank)

  -- the first n of the g_i and of the f_i in their places, with the coefficients of h, and zeros for the others
  unfoldable pub begun : List (List K) → ℕ → Cells q
  begun h n p r i = elim (ltb (p % q) n) [ true ↦ start_part (symbols q) q h p (r / q) (r % q) i | false ↦ 𝟘 ]

  -- y^i times a part of polynomial `first` added to that of the polynomial i places on
  abbrev pub multiple_added : ℕ → ℕ → ℕ → Cells q → Cells q
  multiple_added first row i = product_added q (record { polynomial = first + i; row = row }) (record { polynomial = first; row = row }) (width q) 0 i 𝟙 q
