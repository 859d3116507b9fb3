-- `startarea::subtract_h` meets its contract: the goals that the check leaves open. Assumes nothing.
use Rattle.workarea.proofs.Cells.{turns-none, turns_same, turns-both}
use Rattle.startarea.proofs.StartRows.{minus-zeros, minus_minus}
use Rattle.startarea.proofs.StartColumns.{columns-none, columns-more}
use Rattle.startarea.proofs.subtract_h.Goals as goal

pub loop-a-init : goal.loop-a-init
loop-a-init c =
    turns_same _ (λ S p r i hp hr hi. minus-zeros _ c.requires.area.known _ _ _ _ S (columns-none _ c.requires.area.known _) p r i) (turns-none _)

pub loop-a-preserved : goal.loop-a-preserved
loop-a-preserved c =
    turns_same _ (λ S p r i hp hr hi. minus_minus _ c.requires.area.known _ _ _ _ _ _ S (columns-more _ c.requires.area.known _ _) p r i)
    (turns-both _ c.loop-a.invariant c.subtract_column.ensures)
