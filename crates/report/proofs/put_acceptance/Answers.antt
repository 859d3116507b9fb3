-- The words, the count, the message and the line's end, one after the other.
-- Assumes nothing.
use Rattle.std.proofs.Common.{arith, length-append}
use Rattle.lines.specs.Text.{ascii}
use Rattle.lines.proofs.Pages.{put_more}
use Rattle.report.specs.Report.{accept_line}
use Rattle.report.proofs.Pieces.{length-accept-pieces}
use Rattle.report.proofs.put_acceptance.Goals as goal

pub word-requires : goal.word-requires
word-requires c = omega (arith, length-accept-pieces c.args.count c.args.message.now)

pub number-requires : goal.number-requires
number-requires c = omega (arith, length-accept-pieces c.args.count c.args.message.now)

pub word-requires-2 : goal.word-requires-2
word-requires-2 c = omega (arith, length-accept-pieces c.args.count c.args.message.now)

pub spaced-requires : goal.spaced-requires
spaced-requires c = omega (arith, length-accept-pieces c.args.count c.args.message.now)

pub byte-requires : goal.byte-requires
byte-requires c = omega (arith, length-accept-pieces c.args.count c.args.message.now)

pub returns : goal.returns
unfolding accept_line ascii
returns c =
    let whole = length-accept-pieces c.args.count c.args.message.now in
    put_more (simp length-append (omega (arith, whole)))
    (put_more (simp length-append (omega (arith, whole)))
    (put_more (omega (arith, whole))
    (put_more (omega (arith, whole)) c.word.ensures c.number.ensures)
    c.word-2.ensures)
    c.spaced.ensures)
    c.byte.ensures
