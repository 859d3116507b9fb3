-- The lines of rows: which rows have one, and what it says.
-- Assumes nothing.
use Rattle.std.specs.Prelude.{Bool, true, false, not, ◌&&◌, List, [], ◌∷◌, ◌++◌, ℕ, ◌+◌, ◌*◌, eqb, get_or}
use Rattle.lines.specs.Text.{ascii, digits}

-- a row in state 0 with no count has nothing to tell
unfoldable pub tells : ℕ → ℕ → Bool
tells state count = not (eqb state 0 && eqb count 0)

-- "row 3 state 0 count 2"
unfoldable pub told_line : ℕ → ℕ → ℕ → List ℕ
told_line r state count =
    (ascii "row " ++ digits r) ++ (ascii " state " ++ digits state) ++ (ascii " count " ++ digits count) ++ (10 ∷ [])

unfoldable pub row_line : ℕ → ℕ → ℕ → List ℕ
row_line r state count = elim (tells state count) [ true ↦ told_line r state count | false ↦ [] ]

-- the line of row r, whose record stands in the bytes 2r and 2r + 1
unfoldable pub line_at : List ℕ → ℕ → List ℕ
line_at records r = row_line r (get_or records (2 * r) 0) (get_or records (2 * r + 1) 0)
