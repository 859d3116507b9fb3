-- The lines of the rows, one after the other.
-- Assumes nothing.
use mathlib.Core.List.{List}
use Prim.Native.Nat.{ℕ, ◌+◌, ◌*◌, ◌≤◌, ◌<◌}
use native.Mathlib.Omega.{arith}
use lib.ListN.{length, get_or}
use Rattle.lists.specs.Tables.{join_from, join}
use Rattle.lines.specs.declared.Page.{Page}
use Rattle.lines.specs.Page.{Put}
use Rattle.lines.proofs.Pages.{put_nothing, put_more}
use Rattle.rowlines.specs.RowLines.{row_line, line_at}
use Rattle.rowlines.proofs.Joined.{join_more}
use Rattle.rowlines.proofs.Pieces.{row-short}

-- no rows, no lines
pub rows_none : (page : Page) (records : List ℕ) → Put page (join 0 (line_at records)) page
unfolding join join_from
rows_none page records = put_nothing page

-- the lines of one row more
pub rows_next : {page now next : Page} (records : List ℕ) (r : ℕ) → now.end ≤ length now.out.now
    → Put page (join r (line_at records)) now
    → Put now (row_line r (get_or records (2 * r) 0) (get_or records (2 * r + 1) 0)) next
    → Put page (join (r + 1) (line_at records)) next
unfolding line_at
rows_next records r room first second =
    rw (join_more r (line_at records)) (put_more (omega (arith, first.wrote.place)) first second)

-- and where they end
pub rows_end : {page next : Page} (at r state count : ℕ) → r < 10000 → state < 256 → count < 256 → page.end ≤ at + 29 * r
    → Put page (row_line r state count) next → next.end ≤ at + 29 * (r + 1)
rows_end at r state count fr fs fc before done = omega (arith, done.wrote.place, row-short r state count fr fs fc)
