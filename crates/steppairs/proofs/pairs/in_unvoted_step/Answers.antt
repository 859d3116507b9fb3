-- The sign of k decides.
-- Assumes nothing.
use mathlib.Core.Path.{◌≡◌, refl}
use native.Mathlib.Omega.{arith}
use mir.Syntax.{w64}
use mir.Val.{to_z, of_z}
use Rattle.pair.proofs.Signed.{back, negative-yes, negative-no}
use Rattle.steppairs.proofs.PairNumbers.{unvoted-negative, unvoted-whole}
use Rattle.steppairs.proofs.pairs.in_unvoted_step.Goals as goal
use Rattle.steppairs.proofs.pairs.in_unvoted_step.Goals.{Start}

-- k as the code holds it
k-is : (c : Start) → to_z w64 (of_z w64 c.args.k) ≡ c.args.k
k-is c = back c.args.k (omega (arith, c.requires.i_lt_q.2))

pub returns-then-k-lt0 : goal.returns-then-k-lt0
returns-then-k-lt0 c =
    λ S narrow z.
    unvoted-negative _ c.requires.area.known _ _ _ (negative-yes _ (rw (k-is (goal.at.returns-then-k-lt0 c).Start) at c.if-k-lt0.true)) refl refl

pub negative_at-requires-clause-i_lt_q : goal.negative_at-requires-clause-i_lt_q
negative_at-requires-clause-i_lt_q c = let e = k-is (goal.at.negative_at-requires-clause-i_lt_q c).Start in
    rw e (c.requires.i_lt_q.0, c.requires.i_lt_q.1, c.requires.i_lt_q.2, negative-no _ (rw e at c.if-k-lt0.false))

pub returns : goal.returns
returns c =
    λ S narrow z.
    let e = k-is (goal.at.returns c).Start in
    unvoted-whole _ c.requires.area.known _ _ _ (negative-no _ (rw e at c.if-k-lt0.false)) (rw e at (c.negative_at.ensures S narrow z)) refl
