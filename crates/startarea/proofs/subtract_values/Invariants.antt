-- Each turn subtracts one value more.
-- Assumes nothing.
use mathlib.Core.Path.{◌≡◌}
use Rattle.startarea.specs.StartArea.{minus_values}
use Rattle.startarea.proofs.subtract_values.Given as goal

abbrev pub invariant-loop-i : goal.invariant-loop-i
invariant-loop-i l = l.work ≡ minus_values l.q l.initial.work l.to l.i l.values l.products
