-- `stepline::read_degrees` meets its contract. The loop's invariant: the places of the rows passed hold their degrees.
-- Assumes nothing.
use mathlib.Core.Path.{◌≡◌}
use Prim.Native.Nat.{◌*◌, ◌-◌, ◌≤◌}
use lib.ListN.{length}
use Rattle.lists.specs.Tables.{put}
use Rattle.symbols.specs.Rule.{symbols}
use Rattle.published.specs.Start.{Polynomials}
use Rattle.workarea.specs.Area.{Starts, cells_of}
use Rattle.stepline.proofs.LeadingRows.{row_degree}
use Rattle.stepline.proofs.read_degrees.Given as goal

abbrev pub invariant-loop-r : goal.invariant-loop-r
invariant-loop-r l =
    (l.r ≤ 2 * l.q) × (l.r-end ≡ 2 * l.q) × (length l.degrees ≡ length l.initial.degrees)
    × ((S : Polynomials (symbols l.q) l.q) → Starts l.q l.work (cells_of l.q S) → l.degrees ≡ put l.initial.degrees 0 l.r (row_degree l.q S))

abbrev pub decreases-loop-r : goal.decreases-loop-r
decreases-loop-r l = 2 * l.q - l.r
