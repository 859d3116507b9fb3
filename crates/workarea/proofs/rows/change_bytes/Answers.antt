-- `workarea::rows::change_bytes` meets its contract: the goals that the check leaves open. Assumes nothing.
use mathlib.Core.Path.{sym}
use Rattle.workarea.proofs.Bytes.{made_none, made_more}
use Rattle.workarea.proofs.rows.change_bytes.Goals as goal

pub loop-i-init : goal.loop-i-init
loop-i-init c = sym (made_none _ _ _ _ _)

pub loop-i-preserved : goal.loop-i-preserved
loop-i-preserved c = rw c.sum_or_difference.ensures (made_more _ _ _ _ _ _ _ _ c.requires.apart c.loop-i-test.true c.loop-i.invariant)
