-- The verdict on a block before the first row and after each. Document 01, "Block and verification".
-- Assumes nothing.
use Rattle.std.specs.Prelude.{true, false, List, ℕ, ◌+◌, eqb, Result, Ok, Err}
use Rattle.refusals.specs.declared.Refusal.{Refusal}
use Rattle.refusals.specs.Numbers.{first_of}
use Rattle.layout.specs.Layout.{row_count}
use Rattle.verdict.specs.Checks.{checks_for}
use Rattle.answers.specs.declared.Record.{Record}
use Rattle.answers.specs.declared.Verdict.{Verdict}
use Rattle.answers.specs.declared.Verdict.TheVariants.{Copied, Differs, Unreadable}

-- before any row is read: the refusal that is due, and then no row is read; or Copied, and how many rows are to be read, which is all
unfoldable pub verdict_before : List ℕ → List ℕ → ℕ → ℕ → Result (Verdict × ℕ) Refusal
verdict_before block payload records work = first_of (checks_for block payload records work) Err (Ok (Copied 0, row_count block))

-- the verdict after row r too: while it is Copied the row's count is added, or the row ends it with Differs or Unreadable; after
-- that it stays
unfoldable pub verdict_with : Verdict → ℕ → Record → Verdict
verdict_with (Copied total) r x =
    elim (eqb x.state 0) [
      | true ↦ Copied (total + x.count)
      | false ↦ elim (eqb x.state 1) [ true ↦ Differs r | false ↦ Unreadable r ]
    ]
verdict_with (Differs i) r x = Differs i
verdict_with (Unreadable i) r x = Unreadable i

-- and a refusal stays, whatever is read
unfoldable pub next_verdict : Result Verdict Refusal → ℕ → Record → Result Verdict Refusal
next_verdict (Ok verdict) r x = Ok (verdict_with verdict r x)
next_verdict (Err why) r x = Err why

-- the sum of counts so far
unfoldable pub total_in : Verdict → ℕ
total_in (Copied total) = total
total_in (Differs r) = 0
total_in (Unreadable r) = 0

-- none after a refusal
unfoldable pub total_of : Result Verdict Refusal → ℕ
total_of (Ok verdict) = total_in verdict
total_of (Err why) = 0
