-- `stepline::put_step_line` meets its contract: what was read of the area are the line's pieces.
-- Assumes nothing.
use native.Mathlib.Omega.{arith}
use Rattle.stepline.proofs.LeadingRows.{line-is}
use Rattle.stepline.proofs.Lengths.{length-step}
use Rattle.stepline.proofs.put_step_line.Goals as goal

pub put_step-requires : goal.put_step-requires
put_step-requires c =
    let shown = c.requires.shown in
    let line = line-is c.args.q c.args.u c.args.s shown.state c.then_some-vote.ensures c.is_voted.ensures shown.voted
    (c.read_degrees.ensures shown.state.polys shown.shows) in
    rw line
    (omega (
      arith,
      c.requires.s_bound.1,
      length-step c.args.q c.args.u c.args.s c.requires.s_bound.0 shown.state,
    ))

pub returns : goal.returns
returns c =
    λ state shows vote.
    rw (line-is c.args.q c.args.u c.args.s state c.then_some-vote.ensures c.is_voted.ensures vote
    (c.read_degrees.ensures state.polys shows))
    at c.put_step.ensures
