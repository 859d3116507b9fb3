-- `substitution::replace_z` meets its contract: the goals that the check leaves open. Assumes nothing.
use Rattle.workarea.proofs.Cells.{turns-none, turns_same, turns-both}
use Rattle.substitution.proofs.ReplaceCells.{replaced-none, replaced-more}
use Rattle.substitution.proofs.replace_z.Goals as goal

pub loop-p-init : goal.loop-p-init
loop-p-init c = λ ρ m. turns_same _ (λ S p r i hp hr hi. replaced-none _ c.requires.area.known _ _ _ ρ S p r i) (turns-none _)

pub loop-p-preserved : goal.loop-p-preserved
loop-p-preserved c =
    λ ρ m. turns_same _ (λ S p r i hp hr hi. replaced-more _ c.requires.area.known _ _ _ ρ _ S p r i)
    (turns-both _ (c.loop-p.invariant ρ m) (c.add_product.ensures ρ m))
