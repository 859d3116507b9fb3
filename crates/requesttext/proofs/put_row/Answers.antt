-- The line's three pieces are written one after the other.
-- Assumes nothing.
use Rattle.std.proofs.Common.{arith}
use Rattle.requesttext.proofs.Written.{length-row, wrote-row}
use Rattle.requesttext.proofs.put_row.Goals as goal

pub number-requires : goal.number-requires
number-requires c = rw c.from.ensures (omega (arith, length-row c.args.row.now c.requires.row_nonzero))

pub spaced-requires : goal.spaced-requires
spaced-requires c =
    omega (arith, length-row c.args.row.now c.requires.row_nonzero, rw c.from.ensures at c.number.ensures.wrote.place)

pub byte-requires : goal.byte-requires
byte-requires c =
    omega (arith, length-row c.args.row.now c.requires.row_nonzero, rw c.from.ensures at c.number.ensures.wrote.place)

pub returns : goal.returns
returns c =
    wrote-row c.args.row.now c.requires.row_nonzero c.requires.row_in_bounds (rw c.from.ensures at c.number.ensures)
    c.spaced.ensures c.byte.ensures
