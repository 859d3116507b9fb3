-- `laying::tape_code` meets its contract: the numbers are those of q = 4 and u = 45. Assumes nothing.
use mathlib.Core.Path.{sym}
use Rattle.laying.proofs.TapeCode.{known-tape, a-code, points-are, dimension-is, reach-is}
use Rattle.laying.proofs.tape_code.Goals as goal

pub invariant_of-result : goal.invariant_of-result
invariant_of-result c =
    record { known = known-tape; accepted = a-code; n-is = sym points-are; k-is = sym dimension-is; reach-is = sym reach-is }

pub returns : goal.returns
returns c = rw (points-are, dimension-is, reach-is)
