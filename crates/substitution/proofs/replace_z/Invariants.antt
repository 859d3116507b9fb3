-- Each turn replaces z in one polynomial more.
-- Assumes nothing.
use Rattle.symbols.specs.Rule.{Sym}
use Rattle.workarea.specs.Area.{Turns, Multiplies}
use Rattle.substitution.specs.Products.{replaced_z}
use Rattle.substitution.proofs.replace_z.Given as goal

abbrev pub invariant-loop-p : goal.invariant-loop-p
invariant-loop-p l =
    (ρ : Sym l.q) → Multiplies l.q l.products ρ → Turns l.q l.initial.work l.work (replaced_z l.q l.heights l.powers.x l.powers.y ρ l.p)
