-- The division is exact; the numbers are small.
-- Assumes nothing.
use native.Mathlib.Omega.{arith}
use Rattle.symbols.proofs.Bytes.{known-other}
use Rattle.pair.proofs.Signed.{Divided, divided, k-value}
use Rattle.steppairs.proofs.pairs.quotient_of.Goals as goal
use Rattle.steppairs.proofs.pairs.quotient_of.Goals.{Start}

-- how large the numbers are
small : (c : Start) → Divided c.args.q c.args.total
small c = divided _ _ c.requires.known c.requires.total_le_most_degree

pub overflow_add-low : goal.overflow_add-low
overflow_add-low c = omega (arith, small (goal.at.overflow_add-low c).Start)

pub returns-then-q-eq4 : goal.returns-then-q-eq4
returns-then-q-eq4 c =
    let e = c.if-q-eq4.true in
    rw (c.remainder.ensures, e) (rw e at (k-value _ _ (small (goal.at.returns-then-q-eq4 c).Start)))

pub returns-else-q-eq4 : goal.returns-else-q-eq4
returns-else-q-eq4 c =
    let e = known-other _ c.requires.known c.if-q-eq4.false in
    rw (c.remainder.ensures, e) (rw e at (k-value _ _ (small (goal.at.returns-else-q-eq4 c).Start)))
