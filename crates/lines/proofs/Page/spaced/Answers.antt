-- Each number is written after a space.
use Rattle.std.proofs.Common.{arith, add-one}
use Rattle.lines.specs.Text.{spaced}
use Rattle.lines.proofs.Writing.{spaced-room, spaced-more}
use Rattle.lines.proofs.Pages.{put_nothing, put_more}
use Rattle.lines.proofs.Page.spaced.Goals as goal

pub loop-number-init : goal.loop-number-init
unfolding spaced
loop-number-init c = put_nothing c.args.self.now

pub byte-requires : goal.byte-requires
byte-requires c = omega (arith, spaced-room c.args.numbers.now c.loop-number.number-index c.loop-number-test.true)

pub number-requires : goal.number-requires
number-requires c = rw c.from.ensures (omega (arith, spaced-room c.args.numbers.now c.loop-number.number-index c.loop-number-test.true))

pub loop-number-preserved : goal.loop-number-preserved
loop-number-preserved c =
    let room = spaced-room c.args.numbers.now c.loop-number.number-index c.loop-number-test.true in
    rw (add-one, spaced-more c.args.numbers.now c.loop-number.number-index c.loop-number-test.true)
    (put_more (omega (arith, room)) c.loop-number.invariant
    (put_more (omega arith) c.byte.ensures (rw c.from.ensures at c.number.ensures)))
