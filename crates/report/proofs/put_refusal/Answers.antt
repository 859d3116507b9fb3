-- The word, the number and the line's end, one after the other.
-- Assumes nothing.
use Rattle.std.proofs.Common.{arith}
use Rattle.lines.specs.Text.{ascii}
use Rattle.lines.proofs.Pages.{put_more}
use Rattle.report.specs.Report.{refuse_line}
use Rattle.report.proofs.Pieces.{length-refuse-pieces}
use Rattle.report.proofs.put_refusal.Goals as goal

pub word-requires : goal.word-requires
word-requires c = omega (arith, length-refuse-pieces c.args.why)

pub number-requires : goal.number-requires
number-requires c = rw (c.from-2.ensures, c.from.ensures) (omega (arith, length-refuse-pieces c.args.why))

pub byte-requires : goal.byte-requires
byte-requires c =
    omega (arith, length-refuse-pieces c.args.why, rw (c.from-2.ensures, c.from.ensures) at c.number.ensures.wrote.place)

pub returns : goal.returns
unfolding refuse_line ascii
returns c =
    let whole = length-refuse-pieces c.args.why in
    put_more (omega (arith, whole))
    (put_more (omega (arith, whole)) c.word.ensures (rw (c.from-2.ensures, c.from.ensures) at c.number.ensures))
    c.byte.ensures
