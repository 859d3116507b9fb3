-- A message judged against a row: the places that differ from the message's row. Document 01, "The decoder's steps" (its end).
-- Assumes nothing.
use Rattle.std.specs.Prelude.{cond, List, [], ◌∷◌, ℕ, ◌+◌, eqb}
use Rattle.encoder.specs.Encoding.{row_numbers}

-- the count: in how many places two rows differ
unfoldable pub differing : List ℕ → List ℕ → ℕ
differing [] ys = 0
differing (x ∷ xs) [] = 0
differing (x ∷ xs) (y ∷ ys) = cond (eqb x y) 0 1 + differing xs ys

-- a message judged against a row: how many places of the row are not as in the message's row
unfoldable pub count_of : ℕ → ℕ → List ℕ → List ℕ → ℕ
count_of q u message row = differing (row_numbers q u message) row
