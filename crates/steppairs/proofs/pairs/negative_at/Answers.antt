-- A k that is not negative is the number that it is cast to, and 0 less the coefficient there is its negative.
-- Assumes nothing.
use mathlib.Core.Path.{◌≡◌, sym, ap, ◌∙◌}
use native.Mathlib.Omega.{arith}
use lib.IntN.{pos}
use mir.Syntax.{w64}
use mir.Val.{to_z, of_z}
use Rattle.symbols.specs.Rule.{difference_of, number}
use Rattle.published.specs.Pairing.{positive_part}
use Rattle.workarea.specs.Area.{cells_of}
use Rattle.pair.proofs.Signed.{back, whole_is, cast_fits}
use Rattle.steppairs.proofs.PairNumbers.{looked-cell, negative-is}
use Rattle.steppairs.proofs.pairs.negative_at.Goals as goal
use Rattle.steppairs.proofs.pairs.negative_at.Goals.{Start}

-- k as the code holds it
k-is : (c : Start) → to_z w64 (of_z w64 c.args.k) ≡ pos (positive_part c.args.k)
k-is c = back c.args.k (omega (arith, c.requires.i_lt_q.2)) ∙ whole_is c.args.k c.requires.i_lt_q.3

pub overflow_cast-k : goal.overflow_cast-k
overflow_cast-k c =
    rw (back c.args.k (omega (arith, c.requires.i_lt_q.2))) (cast_fits c.args.k (omega (arith, c.requires.i_lt_q.2)) (whole_is c.args.k c.requires.i_lt_q.3))

pub returns : goal.returns
returns c =
    λ S narrow z.
    let b = rw (k-is (goal.at.returns c).Start) at (c.coefficient_at-b.ensures (cells_of _ S) narrow z) ∙ ap (number _) (sym (looked-cell _ S _ _ _)) in
    c.difference.ensures ∙ ap (difference_of _ 0) b ∙ negative-is _ c.requires.area.known _
