-- `startarea::subtract_values` meets its contract: the goals that the check leaves open. Assumes nothing.
use mathlib.Core.Path.{sym}
use Rattle.startarea.proofs.StartBytes.{values-none, values-more}
use Rattle.startarea.proofs.subtract_values.Goals as goal

pub loop-i-init : goal.loop-i-init
loop-i-init c = sym (values-none _ _ _ _ _)

pub loop-i-preserved : goal.loop-i-preserved
loop-i-preserved c = rw c.difference.ensures (values-more _ _ _ _ _ _ _ c.loop-i.invariant)
