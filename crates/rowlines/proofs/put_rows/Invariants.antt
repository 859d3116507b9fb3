-- After r rows their lines stand on the page, in at most 29 bytes a row.
use Rattle.std.proofs.Common.{◌+◌, ◌*◌, ◌≤◌}
use Rattle.lines.specs.Page.{Put}
use Rattle.lists.specs.Tables.{join}
use Rattle.rowlines.specs.RowLines.{line_at}
use Rattle.rowlines.proofs.put_rows.Given as goal

abbrev pub invariant-loop-r : goal.invariant-loop-r
invariant-loop-r l =
    record {
      short : l.page.end ≤ l.initial.page.end + 29 * l.r;
      wrote : Put l.initial.page (join l.r (line_at l.records)) l.page;
    }
