-- `rowlines::is_told` meets its contract: the goals that the check leaves open. Assumes nothing.
use Rattle.rowlines.specs.RowLines.{tells}
use borrow.Author.Tests.{eq-eqb, ne_eqb}
use Rattle.rowlines.proofs.is_told.Goals as goal

pub returns-then-state-ne0 : goal.returns-then-state-ne0
unfolding tells
returns-then-state-ne0 c = rw (ne_eqb _ _ c.if-state-ne0.true)

pub returns-else-state-ne0 : goal.returns-else-state-ne0
unfolding tells
returns-else-state-ne0 c = rw (eq-eqb _ _ c.if-state-ne0.false)
