-- `curve::reach` meets its contract: the distance is at least n - u, so it is not 0. Assumes nothing.
use native.Mathlib.Omega.{arith}
use Rattle.curve.specs.Codes.{reach}
use Rattle.curve.proofs.Distances.{distance-bounds}
use Rattle.curve.proofs.reach.Goals as goal

pub overflow_sub-result : goal.overflow_sub-result
overflow_sub-result c =
    omega (arith, c.distance.ensures, (distance-bounds c.args.q c.args.u).least, c.requires.1)

pub returns : goal.returns
unfolding reach
returns c = rw c.distance.ensures
