-- What verifying a block answers and leaves, for all inputs. Document 01, "Block and verification" and "Refusal numbers".
-- Assumes nothing.
use Rattle.std.specs.Prelude.{true, false, List, [], ◌∷◌, ◌++◌, ℕ, suc, ◌+◌, eqb, length, drop, Result, Ok, Err}
use Rattle.refusals.specs.declared.Refusal.{Refusal}
use Rattle.refusals.specs.Numbers.{Check, first_of}
use Rattle.lists.specs.Tables.{tab}
use Rattle.published.specs.Picture.{area_size}
use Rattle.voting.specs.Voting.{cleared}
use Rattle.verdict.specs.Checks.{checks_for}
use Rattle.layout.specs.Layout.{tape_q, row_count}
use Rattle.answers.specs.declared.Record.{Record}
use Rattle.taperow.specs.Reading.{row_record}
use Rattle.answers.specs.declared.Verdict.{Verdict}
use Rattle.answers.specs.declared.Verdict.TheVariants.{Copied, Differs, Unreadable}

-- the verdict on the rows from r on, after rows in state 0 whose counts add up to `total`: the first row in state 1 or 2 settles
-- it, as Differs or Unreadable with its number; where there is none it is Copied with all counts added
unfoldable pub verdict_from : ℕ → ℕ → List Record → Verdict
verdict_from r total [] = Copied total
verdict_from r total (x ∷ xs) =
    elim (eqb x.state 0) [
      | true ↦ verdict_from (suc r) (total + x.count) xs
      | false ↦ elim (eqb x.state 1) [ true ↦ Differs r | false ↦ Unreadable r ]
    ]

-- the records of all R rows
unfoldable pub all_records : List ℕ → List ℕ → List Record
all_records block payload = tab (row_count block) (row_record block payload)

unfoldable pub verify_checks : List ℕ → List ℕ → List Record → List ℕ → List Check
verify_checks block payload records work = checks_for block payload (length records) (length work)

unfoldable pub verify_answer : List ℕ → List ℕ → List Record → List ℕ → Result Verdict Refusal
verify_answer block payload records work =
    first_of (verify_checks block payload records work) Err (Ok (verdict_from 0 0 (all_records block payload)))

-- R records, and those behind them as they were; a refusal writes nothing
unfoldable pub verify_records : List ℕ → List ℕ → List Record → List ℕ → List Record
verify_records block payload records work =
    first_of (verify_checks block payload records work) (λ why. records)
    (all_records block payload ++ drop (row_count block) records)

-- the decoder's part of the work area zero, the places behind it as they were; a refusal writes nothing
unfoldable pub verify_work : List ℕ → List ℕ → List Record → List ℕ → List ℕ
verify_work block payload records work =
    first_of (verify_checks block payload records work) (λ why. work) (cleared (area_size tape_q) work)
