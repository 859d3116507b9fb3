-- The digit goes in as the definition says, and a remainder by 1000 is below it.
-- Assumes nothing.
use Rattle.std.proofs.Common.{arith}
use Rattle.asking.specs.Request.{grown}
use Rattle.request.proofs.grown.Goals as goal

pub returns : goal.returns
unfolding grown
returns c = (rw c.digit_of.ensures, omega arith)
