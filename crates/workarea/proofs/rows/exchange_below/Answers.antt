-- `workarea::rows::exchange_below` meets its contract: the goals that the check leaves open. Assumes nothing.
use mathlib.Core.Path.{sym}
use Rattle.workarea.proofs.Bytes.{below_none, below_more}
use Rattle.workarea.proofs.rows.exchange_below.Goals as goal

pub loop-i-init : goal.loop-i-init
loop-i-init c = sym (below_none _ _ _ _ _)

pub loop-i-preserved : goal.loop-i-preserved
loop-i-preserved c = rw c.difference.ensures (below_more _ _ _ _ _ _ _ _ c.requires.apart c.loop-i-test.true c.loop-i.invariant)
