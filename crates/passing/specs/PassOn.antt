-- The row that is passed on: n symbols from the start of the corrected row, or of the received row if it was not accepted.
-- Document 01, "Lent areas", its second paragraph.
-- Assumes nothing.
use Rattle.std.specs.Prelude.{Bool, true, false, cond, ◌&&◌, List, [], ℕ, leb, length, take}
use Rattle.symbols.specs.Rule.{is_known}
use Rattle.curve.specs.Codes.{point_count}

-- nothing, if there is no such q or the row has fewer than n symbols
unfoldable pub first_row : ℕ → List ℕ → List ℕ
first_row q row = elim (is_known q && leb (point_count q) (length row)) [ true ↦ take (point_count q) row | false ↦ [] ]

unfoldable pub passed_on : ℕ → Bool → List ℕ → List ℕ → List ℕ
passed_on q accepted received corrected = first_row q (cond accepted corrected received)
