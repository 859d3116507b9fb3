-- `updates::reduce_polynomial` meets its contract: the goals that the check leaves open. Assumes nothing.
use Rattle.workarea.proofs.Cells.{turns-none, turns_same, turns-both}
use Rattle.updates.proofs.UpdateCells.{reduced-none, reduced-more}
use borrow.Author.Rules.{rules}
use Rattle.updates.proofs.reduce_polynomial.Goals as goal

pub loop-r-init : goal.loop-r-init
loop-r-init c =
    (search rules, λ ρ m. turns_same _ (λ S p r i hp hr hi. reduced-none _ c.requires.area.known _ _ _ c.requires.f_bound.2 ρ S _ p r i) (turns-none _))

pub loop-r-preserved : goal.loop-r-preserved
loop-r-preserved c = (
  search rules,
  λ ρ m. turns_same _ (λ S p r i hp hr hi. reduced-more _ c.requires.area.known _ _ _ c.requires.f_bound.2 ρ S _ _ p r i)
      (turns-both _ (c.loop-r.invariant.1 ρ m) (rw c.row_height-count.ensures at (c.change_row.ensures ρ m))),
)
