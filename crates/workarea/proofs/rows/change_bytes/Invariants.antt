-- Each turn stores the next byte of the sum or the difference; what it reads, no turn before has changed.
-- Assumes nothing.
use mathlib.Core.Path.{◌≡◌}
use Rattle.workarea.specs.Area.{numbers_made, made}
use Rattle.workarea.proofs.rows.change_bytes.Given as goal

abbrev pub invariant-loop-i : goal.invariant-loop-i
invariant-loop-i l = l.work ≡ made (numbers_made l.q l.sign) l.initial.work l.to l.from l.i l.products
