-- What blockcheck prints for a block and its payload: a line for each row that has something to tell, and a last line with the
-- verdict.
-- Assumes nothing.
use Rattle.std.specs.Prelude.{Result, Ok, Err, List, [], ◌∷◌, ◌++◌, ℕ, ◌/◌, replicate}
use Rattle.lists.specs.Tables.{join}
use Rattle.lines.specs.Text.{ascii, digits}
use Rattle.rowlines.specs.RowLines.{row_line}
use Rattle.refusals.specs.declared.Refusal.{Refusal}
use Rattle.refusals.specs.Numbers.{first_of}
use Rattle.report.specs.Report.{refuse_line}
use Rattle.layout.specs.Layout.{row_count}
use Rattle.taperow.specs.Reading.{row_record}
use Rattle.verifying.specs.Verification.{verdict_from, all_records}
use Rattle.verifying.specs.AsBytes.{byte_checks}
use Rattle.answers.specs.declared.Record.{Record}
use Rattle.answers.specs.declared.Verdict.{Verdict}
use Rattle.answers.specs.declared.Verdict.TheVariants.{Copied, Differs, Unreadable}

-- the lines of the first n rows
unfoldable pub record_lines : (ℕ → Record) → ℕ → List ℕ
record_lines f n = join n (λ r. row_line r (f r).state (f r).count)

-- how many rows there are lines of: the payload has 20 bytes a row where nothing is refused
unfoldable pub rows_told : Result Verdict Refusal → ℕ → ℕ
rows_told (Ok verdict) payload = payload / 20
rows_told (Err why) payload = 0

-- the last line
unfoldable pub verdict_line : Result Verdict Refusal → List ℕ
verdict_line (Ok (Copied total)) = ascii "copied " ++ digits total ++ (10 ∷ [])
verdict_line (Ok (Differs r)) = ascii "differs " ++ digits r ++ (10 ∷ [])
verdict_line (Ok (Unreadable r)) = ascii "unreadable " ++ digits r ++ (10 ∷ [])
verdict_line (Err why) = refuse_line why

-- all lines, where 1,024 records and the decoder's 1,472 places are lent
unfoldable pub check_text : List ℕ → List ℕ → List ℕ
check_text block payload =
    first_of (byte_checks block payload (replicate 2048 0) (replicate 1472 0)) refuse_line
    (record_lines (row_record block payload) (row_count block) ++ verdict_line (Ok (verdict_from 0 0 (all_records block payload))))
