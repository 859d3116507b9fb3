-- Each turn adds one row more.
-- Assumes nothing.
use Rattle.symbols.specs.Rule.{Sym}
use Rattle.workarea.specs.Area.{Turns, Multiplies}
use Rattle.substitution.specs.Products.{product_added}
use Rattle.substitution.proofs.add_product.Given as goal

abbrev pub invariant-loop-j : goal.invariant-loop-j
invariant-loop-j l =
    (ρ : Sym l.q) → Multiplies l.q l.products ρ → Turns l.q l.initial.work l.work (product_added l.q l.to l.from l.height l.powers.x l.powers.y ρ l.j)
