-- Parts of polynomials multiplied by monomials and added, and the substitution for z, cell by cell. Document 01, "The decoder's steps".
-- Assumes nothing.
use Rattle.std.specs.Prelude.{◌≡◌, true, false, List, ℕ, ◌+◌, ◌-◌, ◌*◌, ◌<◌, ◌≤◌, leb, ltb, get_or}
use Rattle.algebra.specs.Functions.{Fn, times_x, times_ys}
use Rattle.symbols.specs.Rule.{symbols}
use Rattle.workarea.specs.declared.area.Row.{Row}
use Rattle.workarea.specs.Area.{Cells, with_rows, first_symbols}

-- two parts of polynomials, with no row in common
pub record Apart (q : ℕ) (to from : Row) : Type 0 where
  pub to-polynomial : to.polynomial < 2 * q
  pub to_row : to.row ≤ q
  pub from-polynomial : from.polynomial < 2 * q
  pub from_row : from.row ≤ q
  pub rows : (j k : ℕ) → j < q → k < q → to.polynomial ≡ from.polynomial → to.row + j ≡ from.row + k → ⊥

-- y^q becomes x^(q+1) and a y that is subtracted: the row of a part that row j of y^b times the part comes from by the first of the
-- two, or unchanged, and how far it is moved up
unfoldable pub source_row : ℕ → ℕ → ℕ → ℕ
source_row q b j = elim (leb b j) [ true ↦ j - b | false ↦ j + q - b ]

unfoldable pub source_shift : ℕ → ℕ → ℕ → ℕ
source_shift q b j = elim (leb b j) [ true ↦ 0 | false ↦ q + 1 ]

module _ (q : ℕ) where
  infixl 65 ◌⊕◌
  infixl 70 ◌⊗◌
  open symbols q use {K, ◌⊕◌, ◌⊗◌}

  -- a part of a polynomial as a function
  abbrev pub function_of : Row → Cells q → Fn (symbols q) q
  function_of part S j i = S part.polynomial (part.row + j) i

  -- the first h symbols of each of its rows
  abbrev pub low_function_of : ℕ → Row → Cells q → Fn (symbols q) q
  low_function_of h part S j = first_symbols q h (function_of part S j)

  -- row j of a part plus ρ·x^a·y^b times the first h symbols of the rows of a part
  unfoldable pub plus_product : Row → Row → ℕ → ℕ → ℕ → K → Cells q → ℕ → ℕ → K
  plus_product to from h a b ρ S j i = function_of to S j i ⊕ ρ ⊗ times_x (symbols q) q a (times_ys (symbols q) q b (low_function_of h from S)) j i

  -- row j of a part becomes that
  unfoldable pub product_row_added : Row → Row → ℕ → ℕ → ℕ → ℕ → K → Cells q → Cells q
  product_row_added to from j h a b ρ S = with_rows q to.polynomial (to.row + j) 1 (λ n. plus_product to from h a b ρ S j) S

  -- the first n rows of a part become that
  unfoldable pub product_added : Row → Row → ℕ → ℕ → ℕ → K → ℕ → Cells q → Cells q
  product_added to from h a b ρ n S = with_rows q to.polynomial to.row n (plus_product to from h a b ρ S) S

  -- the parts of polynomial p
  abbrev pub upper_of : ℕ → Row
  upper_of p = record { polynomial = p; row = 0 }

  abbrev pub lower_of : ℕ → Row
  lower_of p = record { polynomial = p; row = q }

  -- z becomes z + ρ·x^a·y^b in the first n polynomials, for the first symbols of their upper rows, by the polynomials' heights
  unfoldable pub replaced_z : List ℕ → ℕ → ℕ → K → ℕ → Cells q → Cells q
  replaced_z heights a b ρ n S p r i =
      elim (ltb p n) [ true ↦ product_added (lower_of p) (upper_of p) (get_or heights p 0) a b ρ q S p r i | false ↦ S p r i ]
