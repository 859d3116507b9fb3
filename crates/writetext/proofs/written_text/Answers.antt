-- `writetext::written_text` meets its contract: either answer's line is written, and is short.
-- Assumes nothing.
use Rattle.std.proofs.Common.{◌≤◌, ap, arith, length}
use Rattle.io.proofs.Counting.{prefix_len_of_le}
use Rattle.lines.specs.Text.{ascii}
use Rattle.lines.specs.Page.{Put}
use Rattle.report.proofs.Lengths.{length-refuse}
use Rattle.writetext.specs.Told.{written_line}
use Rattle.writetext.proofs.written_text.Goals as goal
use Rattle.writetext.proofs.written_text.Goals.{Joined-written, in-Ok, in-Err}

pub put_refusal-requires : goal.put_refusal-requires
put_refusal-requires c = omega (arith, length-refuse c.in-Err.why, ap length c.new-page.ensures.kept, c.new-page.ensures.empty)

-- the page has the line
told : (c : Joined-written) → Put c.new-page.result (written_line c.args.written) c.match-written.page
unfolding written_line ascii
told c =
    elim c.match-written.branch [
      | in-Ok w ↦ rw (w.page-is, w.in-Ok.is) w.put_line.ensures.wrote
      | in-Err w ↦ rw (w.page-is, w.in-Err.is) w.put_refusal.ensures
    ]

-- which ends early enough
short : (c : Joined-written) → c.match-written.page.end ≤ 32
short c =
    elim c.match-written.branch [
      | in-Ok w ↦ rw w.page-is (omega (arith, w.put_line.ensures.upper_bound, c.new-page.ensures.empty))
      | in-Err w ↦
          rw w.page-is (omega (arith, w.put_refusal.ensures.wrote.place, length-refuse w.in-Err.why, c.new-page.ensures.empty))
    ]

pub returns-clause-text : goal.returns-clause-text
returns-clause-text c =
    rw (c.new-page.ensures.kept, c.new-page.ensures.empty) at (told (goal.at.returns-clause-text c).Joined-written).wrote

pub returns-clause-within : goal.returns-clause-within
returns-clause-within c =
    let end = short (goal.at.returns-clause-within c).Joined-written in
    let line = told (goal.at.returns-clause-within c).Joined-written in
    prefix_len_of_le _ _ (omega (arith, end, line.same_length, ap length c.new-page.ensures.kept))
