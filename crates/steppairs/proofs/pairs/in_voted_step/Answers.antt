-- Where k is not negative the code divides; else the two numbers are fixed.
-- Assumes nothing.
use mathlib.Core.Path.{◌≡◌, refl}
use native.Mathlib.Omega.{arith}
use mir.Syntax.{w64}
use mir.Val.{to_z, of_z}
use Rattle.pair.proofs.Signed.{back, whole-yes, whole-no}
use Rattle.steppairs.proofs.PairNumbers.{quotient_is, voted-negative, voted-whole}
use Rattle.steppairs.proofs.pairs.in_voted_step.Goals as goal
use Rattle.steppairs.proofs.pairs.in_voted_step.Goals.{Start}

-- k as the code holds it
k-is : (c : Start) → to_z w64 (of_z w64 c.args.k) ≡ c.args.k
k-is c = back c.args.k (omega (arith, c.requires.i_lt_q.2))

pub negative_at-negative-requires-clause-i_lt_q : goal.negative_at-negative-requires-clause-i_lt_q
negative_at-negative-requires-clause-i_lt_q c = let e = k-is (goal.at.negative_at-negative-requires-clause-i_lt_q c).Start in
    rw e (c.requires.i_lt_q.0, c.requires.i_lt_q.1, c.requires.i_lt_q.2, whole-yes _ (rw e at c.if-k-ge0.true))

pub returns-then-k-ge0 : goal.returns-then-k-ge0
returns-then-k-ge0 c =
    λ S μ narrow z is.
    let e = k-is (goal.at.returns-then-k-ge0 c).Start in
    let known = c.requires.area.known in
    voted-whole _ known _ _ _ μ (whole-yes _ (rw e at c.if-k-ge0.true))
    (quotient_is _ known _ _ _ _ _ μ (rw e at (c.negative_at-negative.ensures S narrow z)) is c.inverse.ensures c.product.ensures)
    is

pub returns : goal.returns
returns c =
    λ S μ narrow z is.
    voted-negative _ c.requires.area.known _ _ _ μ (whole-no _ (rw (k-is (goal.at.returns c).Start) at c.if-k-ge0.false)) refl refl
