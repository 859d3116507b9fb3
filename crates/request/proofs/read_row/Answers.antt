-- Each number that is found goes into the row, and where none is left the row has them all.
-- Assumes nothing.
use Rattle.std.proofs.Common.{arith, length-set, ◌<◌, length}
use Rattle.asking.specs.Request.{as_byte}
use Rattle.asking.proofs.Numbers.{row_more, row-whole}
use Rattle.request.specs.Reader.{FoundIn}
use Rattle.request.proofs.read_row.Goals as goal

pub bounds-row-count : goal.bounds-row-count
unfolding FoundIn
bounds-row-count c = omega (arith, c.in-Some.ensures.later, c.in-Some.ensures.within)

pub loop-found-smaller : goal.loop-found-smaller
unfolding FoundIn
loop-found-smaller c = omega (arith, c.in-Some.ensures.later, c.in-Some.ensures.within)

pub loop-found-preserved : goal.loop-found-preserved
unfolding FoundIn as_byte
loop-found-preserved c =
    let found = c.in-Some.ensures in
    let room : c.loop-found.count < length c.loop-found.row = omega (arith, found.later, found.within) in
    record {
      room = omega (arith, found.later);
      within = simp length-set (omega arith);
      so_far =
          row_more c.args.text.now c.loop-found.row c.args.from c.loop-found.at c.in-Some.found.next c.loop-found.count
          c.in-Some.found.value room c.loop-found.invariant.so_far found.numbers;
    }

pub returns-clause-row_after : goal.returns-clause-row_after
unfolding FoundIn
returns-clause-row_after c =
    row-whole c.args.text.now c.loop-found.row c.args.from c.loop-found.at c.loop-found.count c.loop-found.invariant.so_far
    c.in_default.ensures
