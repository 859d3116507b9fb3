-- The whole text: which rows have lines, and that rows and verdict together are what is to be printed.
-- Assumes nothing.
use mathlib.Core.Path.{◌≡◌, sym, ◌∙◌}
use mathlib.Core.Logic.{⊎_elim}
use Rattle.std.specs.Prelude.{Result, Ok, Err}
use mathlib.Core.List.{List, ◌++◌}
use Prim.Native.Nat.{ℕ, ◌/◌, ◌≤◌}
use native.Mathlib.Omega.{arith}
use lib.ListN.{length}
use Rattle.lists.specs.Tables.{join_from, join}
use Rattle.lines.specs.declared.Page.{Page}
use Rattle.lines.specs.Page.{Put}
use Rattle.lines.proofs.Pages.{put_more}
use Rattle.refusals.specs.declared.Refusal.{Refusal}
use Rattle.refusals.specs.Numbers.{Check, first_of}
use Rattle.refusals.proofs.Checks.{Refuses, Passes, refused, passed, decide_checks}
use Rattle.layout.specs.Layout.{row_count}
use Rattle.taperow.specs.Reading.{row_record}
use Rattle.verifying.specs.Verification.{verdict_from, all_records}
use Rattle.verifying.specs.AsBytes.{byte_checks, verify_bytes_answer, verify_bytes_records}
use Rattle.verdict.proofs.Start.{fit}
use Rattle.answers.specs.declared.Verdict.{Verdict}
use Rattle.report.specs.Report.{refuse_line}
use Rattle.rowlines.specs.RowLines.{line_at}
use Rattle.blocktext.specs.Report.{record_lines, verdict_line, rows_told}
use Rattle.rowlines.proofs.Joined.{join-same}
use Rattle.blocktext.proofs.RecordBytes.{state-of, count_of}

-- what verifying left where nothing is refused, and where something is
module _ (block payload blank work : List ℕ) where
  abbrev checks : List Check
  checks = byte_checks block payload blank work

  -- the verdict on the rows
  abbrev verdict : Verdict
  verdict = verdict_from 0 0 (all_records block payload)

  -- the payload says how many rows there are
  rows_are : Passes checks → length payload / 20 ≡ row_count block
  unfolding byte_checks
  rows_are passing = omega (arith, (fit block payload (length blank / 2) (length work) passing).messages)

  module _ (v : Result Verdict Refusal) (records : List ℕ) (answered : v ≡ verify_bytes_answer block payload blank work)
      (left : records ≡ verify_bytes_records block payload blank work) where
    -- a refusal has no lines of rows
    told-refused : (why : Refusal) → Refuses checks why → rows_told v (length payload) ≡ 0
    unfolding verify_bytes_answer rows_told
    told-refused why refusing = rw (answered, refused Err (Ok verdict) refusing)

    -- otherwise every row has its turn
    told-passed : Passes checks → rows_told v (length payload) ≡ row_count block
    unfolding verify_bytes_answer rows_told
    told-passed passing = rw (answered, passed Err (Ok verdict) passing) (rows_are passing)

    -- never more than 1,024 rows
    pub few-told : rows_told v (length payload) ≤ 1024
    unfolding byte_checks
    few-told =
        ⊎_elim (λ refusing. omega (arith, told-refused refusing.0 refusing.1))
        (λ passing. omega (arith, told-passed passing, (fit block payload (length blank / 2) (length work) passing).most))
        (decide_checks checks)

    -- the bytes' lines are the records' lines
    lines_same : Passes checks → join (row_count block) (line_at records) ≡ record_lines (row_record block payload) (row_count block)
    unfolding line_at record_lines verify_bytes_records all_records
    lines_same passing =
        let are = left ∙ passed (λ why. blank) _ passing in
        let f = row_record block payload in
        let n = row_count block in
        join-same n _ _ (λ r less. rw (are, state-of n f _ r less, count_of n f _ r less))

    -- rows and verdict together are the text
    pub text-is : join (rows_told v (length payload)) (line_at records) ++ verdict_line v
        ≡ first_of checks refuse_line (record_lines (row_record block payload) (row_count block) ++ verdict_line (Ok verdict))
    unfolding verify_bytes_answer verdict_line join join_from
    text-is =
        ⊎_elim
        (λ refusing.
        rw (told-refused refusing.0 refusing.1, answered, refused Err (Ok verdict) refusing.1)
        (sym (refused refuse_line _ refusing.1)))
        (λ passing.
        rw (told-passed passing, lines_same passing, answered, passed Err (Ok verdict) passing)
        (sym (passed refuse_line _ passing)))
        (decide_checks checks)

-- two texts, one after the other, are the text that they make
pub text-written : {page next last : Page} {a b text : List ℕ} → a ++ b ≡ text → next.end ≤ length page.out.now → Put page a next
    → Put next b last → Put page text last
text-written make room first second = rw (← make) (put_more (omega (arith, first.wrote.place)) first second)
