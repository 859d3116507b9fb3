-- Each turn exchanges the bytes at the next place below; what it reads, no turn before has changed.
-- Assumes nothing.
use mathlib.Core.Path.{◌≡◌}
use Prim.Native.Nat.{◌-◌, ◌≤◌}
use Rattle.workarea.specs.Area.{exchanged_above}
use Rattle.workarea.proofs.rows.exchange_above.Given as goal

abbrev pub invariant-loop-i : goal.invariant-loop-i
invariant-loop-i l =
    (l.shift ≤ l.i) × (l.work ≡ exchanged_above l.q l.initial.work l.f l.g l.shift l.products l.i (l.width - l.i))
