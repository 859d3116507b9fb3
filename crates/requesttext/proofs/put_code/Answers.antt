-- The line's four pieces are written one after the other.
-- Assumes nothing.
use Rattle.std.proofs.Common.{arith}
use Rattle.requesttext.proofs.Written.{length-code, wrote-code}
use Rattle.requesttext.proofs.put_code.Goals as goal

pub number-requires : goal.number-requires
number-requires c = omega (arith, length-code c.args.q c.args.u)

pub byte-requires : goal.byte-requires
byte-requires c = omega (arith, length-code c.args.q c.args.u)

pub number-requires-2 : goal.number-requires-2
number-requires-2 c = omega (arith, length-code c.args.q c.args.u)

pub byte-requires-2 : goal.byte-requires-2
byte-requires-2 c = omega (arith, length-code c.args.q c.args.u)

pub returns : goal.returns
returns c =
    wrote-code c.args.q c.args.u c.requires c.number.ensures c.byte.ensures c.number-2.ensures c.byte-2.ensures
