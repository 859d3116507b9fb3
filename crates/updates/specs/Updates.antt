-- The update of a pair of polynomials cell by cell: one reduced by the other, or both exchanged. Document 01, "The decoder's steps".
-- Assumes nothing.
use Rattle.std.specs.Prelude.{true, false, ℕ, ltb}
use Rattle.symbols.specs.Rule.{symbols}
use Rattle.published.specs.Start.{width}
use Rattle.workarea.specs.Area.{Cells, with_rows, first_symbols, minus_multiple, raised_minus}

module _ (q : ℕ) where
  open symbols q use {K}

  -- how many symbols of a row are subtracted: h of an upper row, all of a lower one
  unfoldable pub row_height : ℕ → ℕ → ℕ
  row_height h r = elim (ltb r q) [ true ↦ h | false ↦ width q ]

  -- n rows of polynomial f become themselves minus ρ·x^c times those of polynomial g, of the upper rows the first h symbols
  unfoldable pub polynomial_reduced : ℕ → ℕ → ℕ → ℕ → K → ℕ → Cells q → Cells q
  polynomial_reduced f g h c ρ n S = with_rows q f 0 n (λ r. minus_multiple q (S f r) ρ c (first_symbols q (row_height h r) (S g r))) S

  -- n rows of polynomial f become x^c times themselves minus ρ times those of g, and those of g become those of f
  unfoldable pub polynomials_exchanged : ℕ → ℕ → ℕ → K → ℕ → Cells q → Cells q
  polynomials_exchanged f g c ρ n S = with_rows q g 0 n (S f) (with_rows q f 0 n (λ r. raised_minus q (S f r) ρ c (S g r)) S)
