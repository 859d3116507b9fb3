-- Each turn subtracts one row more.
-- Assumes nothing.
use mathlib.Core.Path.{◌≡◌}
use lib.ListN.{length}
use Rattle.symbols.specs.Rule.{Sym}
use Rattle.workarea.specs.Area.{Turns, Multiplies}
use Rattle.updates.specs.Updates.{polynomial_reduced}
use Rattle.updates.proofs.reduce_polynomial.Given as goal

abbrev pub invariant-loop-r : goal.invariant-loop-r
invariant-loop-r l =
    (length l.work ≡ length l.initial.work)
    × ((ρ : Sym l.q) → Multiplies l.q l.products ρ → Turns l.q l.initial.work l.work (polynomial_reduced l.q l.f l.g l.height l.shift ρ l.r))
