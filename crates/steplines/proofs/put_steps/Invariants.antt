-- `steplines::put_steps` meets its contract. The loop's invariant: for every row whose start stood in the area, t steps and
-- their lines are done.
-- Assumes nothing.
use mathlib.Core.Path.{◌≡◌}
use mathlib.Core.List.{List}
use Prim.Native.Nat.{ℕ}
use lib.ListN.{length}
use Rattle.workarea.specs.Area.{Starts, cells_of}
use Rattle.workarea.specs.Heights.{Heights}
use Rattle.steps.specs.Stop.{state_after}
use Rattle.steplines.proofs.Walked.{Reached}
use Rattle.steplines.proofs.put_steps.Given as goal

abbrev pub invariant-loop-t : goal.invariant-loop-t
invariant-loop-t l =
    (length l.work ≡ length l.initial.work) × Heights l.q l.heights
    × ((row : List ℕ) → Starts l.q l.initial.work (cells_of l.q (state_after l.q l.u row 0).polys)
    → Reached l.q l.u row l.t l.initial.page l.work l.heights l.page)
