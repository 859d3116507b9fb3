-- `blocktext::check_text` meets its contract: the lines of the rows, then the verdict's.
-- Assumes nothing.
use Prim.Native.Nat.{ℕ, ◌+◌, ◌≤◌}
use mathlib.Core.Path.{ap}
use native.Mathlib.Omega.{arith}
use lib.ListN.{length, length-replicate, replicate}
use Rattle.io.proofs.Counting.{prefix_len_of_le}
use Rattle.blocktext.specs.Report.{check_text}
use Rattle.blocktext.proofs.Text.{few-told, text-is, text-written}
use Rattle.blocktext.proofs.check_text.Goals as goal
use Rattle.blocktext.proofs.check_text.Goals.{After-put_rows}

pub put_rows-requires : goal.put_rows-requires
put_rows-requires c =
    let few = few-told _ _ (replicate 2048 0) (replicate 1472 0) _ _ c.verify_bytes-verdict.ensures.answered
    c.verify_bytes-verdict.ensures.records_left in (
      rw c.rows_told.ensures few,
      omega (arith, few, c.rows_told.ensures, c.verify_bytes-verdict.auto.records, length-replicate {A = ℕ} 2048 0),
      omega (arith, ap length c.new-page.ensures.kept, c.new-page.ensures.empty),
    )

-- the rows' lines end with room for the verdict's
rows_end : (c : After-put_rows) → c.put_rows.new.page.end + 32 ≤ length c.new-page.result.out.now
rows_end c =
    omega (
      arith,
      c.put_rows.ensures.upper_bound,
      c.rows_told.ensures,
      few-told _ _ (replicate 2048 0) (replicate 1472 0) _ _ c.verify_bytes-verdict.ensures.answered
          c.verify_bytes-verdict.ensures.records_left,
      ap length c.new-page.ensures.kept,
      c.new-page.ensures.empty,
    )

pub put_verdict-requires : goal.put_verdict-requires
put_verdict-requires c =
    omega (arith, rows_end (goal.at.put_verdict-requires c).After-put_rows, c.put_rows.ensures.wrote.same_length)

pub returns-clause-text : goal.returns-clause-text
unfolding check_text
returns-clause-text c =
    let text = text-is _ _ (replicate 2048 0) (replicate 1472 0) _ _ c.verify_bytes-verdict.ensures.answered
    c.verify_bytes-verdict.ensures.records_left in
    let whole = text-written (rw (← c.rows_told.ensures) at text) (omega (arith, rows_end (goal.at.returns-clause-text c).After-put_rows))
    c.put_rows.ensures.wrote c.put_verdict.ensures.wrote in
    rw (c.new-page.ensures.kept, c.new-page.ensures.empty) at whole.wrote

pub returns-clause-within : goal.returns-clause-within
returns-clause-within c =
    prefix_len_of_le _ _ (omega (
      arith,
      rows_end (goal.at.returns-clause-within c).After-put_rows,
      c.put_verdict.ensures.upper_bound,
      c.put_verdict.ensures.wrote.same_length,
      c.put_rows.ensures.wrote.same_length,
    ))
