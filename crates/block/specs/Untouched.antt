-- What can be relied on of a block that was written and not touched since. Document 02, Wish 1: verifying it against its payload
-- answers Copied with total 0.
-- Assumes nothing.
use Rattle.std.specs.Prelude.{◌≡◌, true, List, ◌++◌, ℕ, ◌≤◌, ◌<◌, length, drop, replicate, Ok}
use Rattle.published.specs.Picture.{area_size}
use Rattle.layout.specs.Layout.{tape_q, row_count, is_block, block_row}
use Rattle.verifying.specs.Verification.{verify_answer, verify_records}
use Rattle.laying.specs.Laying.{code_row}
use Rattle.answers.specs.declared.Record.{Record}
use Rattle.answers.specs.declared.Verdict.TheVariants.{Copied}

-- the record of a row that is equal, with no symbol changed
abbrev pub unchanged : Record
unchanged = record { state = 0; count = 0 }

-- as many records and as much work as verifying the block asks for
pub record Lent (block : List ℕ) (records : List Record) (work : List ℕ) : Type 0 where
  pub enough : row_count block ≤ length records
  pub room : area_size tape_q ≤ length work

-- it is a block, its rows are those of the payload's messages, and whatever is lent that is long enough, verifying it answers
-- Copied with total 0 and records every row as unchanged
pub record Untouched (block payload : List ℕ) : Type 0 where
  pub is_block : is_block block ≡ true
  pub rows_are : (r : ℕ) → r < row_count block → block_row block r ≡ code_row payload r
  pub copied : (records : List Record) (work : List ℕ) → Lent block records work → verify_answer block payload records work ≡ Ok (Copied 0)
  pub recorded : (records : List Record) (work : List ℕ) → Lent block records work
      → verify_records block payload records work ≡ replicate (row_count block) unchanged ++ drop (row_count block) records
