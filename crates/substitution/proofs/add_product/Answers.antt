-- `substitution::add_product` meets its contract: the goals that the check leaves open. Assumes nothing.
use native.Mathlib.Omega.{arith}
use Rattle.workarea.proofs.Cells.{turns-none, turns_same, turns-both}
use Rattle.substitution.proofs.ProductCells.{product-none, product-more, product-nothing}
use Rattle.substitution.proofs.add_product.Goals as goal

pub returns-then-height-eq0 : goal.returns-then-height-eq0
returns-then-height-eq0 c =
    λ ρ m. turns_same _ (λ S p r i hp hr hi. rw c.if-height-eq0.true (product-nothing _ c.requires.area.known c.args.to c.args.from _ _ ρ c.args.q (omega arith) S p r i)) (turns-none _)

pub loop-j-init : goal.loop-j-init
loop-j-init c =
    λ ρ m. turns_same _ (λ S p r i hp hr hi. product-none _ c.requires.area.known c.args.to c.args.from _ _ _ ρ S p r i) (turns-none _)

pub loop-j-preserved : goal.loop-j-preserved
loop-j-preserved c =
    λ ρ m. turns_same _ (λ S p r i hp hr hi. product-more _ c.requires.area.known c.args.to c.args.from _ _ _ ρ c.requires.apart S _ c.loop-j-test.true p r i)
    (turns-both _ (c.loop-j.invariant ρ m) (c.add_product_row.ensures ρ m))
