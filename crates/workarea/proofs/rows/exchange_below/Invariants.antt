-- Each turn exchanges the bytes at the next place; what it reads, no turn before has changed.
-- Assumes nothing.
use mathlib.Core.Path.{◌≡◌}
use Rattle.workarea.specs.Area.{exchanged_below}
use Rattle.workarea.proofs.rows.exchange_below.Given as goal

abbrev pub invariant-loop-i : goal.invariant-loop-i
invariant-loop-i l = l.work ≡ exchanged_below l.q l.initial.work l.f l.g l.products l.i
