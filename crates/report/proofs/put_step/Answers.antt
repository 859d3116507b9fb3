-- The weight, the vote, the degrees and the line's end, one after the other.
-- Assumes nothing.
use Rattle.std.proofs.Common.{arith, length-append}
use Rattle.lines.proofs.Pages.{put_more}
use Rattle.report.specs.Report.{step_text}
use Rattle.report.proofs.Pieces.{length-step-pieces}
use Rattle.report.proofs.put_step.Goals as goal

pub number-requires : goal.number-requires
number-requires c = omega (arith, length-step-pieces c.args.s c.args.vote c.args.degrees.now)

pub put_vote-requires : goal.put_vote-requires
put_vote-requires c = omega (arith, length-step-pieces c.args.s c.args.vote c.args.degrees.now)

pub spaced-requires : goal.spaced-requires
spaced-requires c = omega (arith, length-step-pieces c.args.s c.args.vote c.args.degrees.now)

pub byte-requires : goal.byte-requires
byte-requires c = omega (arith, length-step-pieces c.args.s c.args.vote c.args.degrees.now)

pub returns : goal.returns
unfolding step_text
returns c =
    let whole = length-step-pieces c.args.s c.args.vote c.args.degrees.now in
    put_more (simp length-append (omega (arith, whole)))
    (put_more (simp length-append (omega (arith, whole)))
    (put_more (omega (arith, whole)) c.number.ensures c.put_vote.ensures)
    c.spaced.ensures)
    c.byte.ensures
