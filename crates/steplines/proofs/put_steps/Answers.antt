-- `steplines::put_steps` meets its contract: the goals that the check leaves open. Assumes nothing.
use mathlib.Core.Path.{refl, ◌∙◌}
use mathlib.Core.List.{List}
use Prim.Native.Nat.{ℕ, ◌+◌, ◌*◌, ◌≤◌, ◌<◌}
use native.Mathlib.Nat.{mul-le-mul_right}
use native.Mathlib.Omega.{arith}
use lib.ListN.{length}
use Rattle.lines.specs.Page.{Room}
use Rattle.lines.proofs.Pages.{put_nothing}
use Rattle.published.specs.Start.{step_count}
use Rattle.workarea.proofs.HeightLaws.{start-many}
use Rattle.workarea.proofs.Sizes.{area_of}
use Rattle.steps.proofs.StartHeights.{below-start}
use Rattle.steplines.specs.StepLines.{step_lines}
use Rattle.stepline.specs.StepLine.{step_size}
use Rattle.steplines.proofs.Lengths.{length-steps}
use Rattle.steplines.proofs.Walked.{weight_is, next-state, reached-more}
use Rattle.steplines.proofs.put_steps.Goals as goal
use Rattle.steplines.proofs.put_steps.Goals.{In-loop-t, At-loop-t}

-- the lines of t steps fit, and one more where one more is due
lines_fit : (c : At-loop-t) (row : List ℕ)
    → Room c.args.page.now (step_lines c.args.q c.args.u row c.loop-t.t)
lines_fit c row =
    let a = c.args in
    let few : c.loop-t.t ≤ step_count a.q = omega (arith, c.loop-t.auto, c.step_count-count.ensures) in
    omega (arith, length-steps a.q a.u row c.loop-t.t, mul-le-mul_right (step_size a.q) few, c.requires.known.2)

line-fits : (c : At-loop-t) → c.loop-t.t < step_count c.args.q
    → c.loop-t.page.end + step_size c.args.q ≤ length c.loop-t.page.out.now
line-fits c more =
    let a = c.args in
    let begun = c.requires.started in
    let reached = c.loop-t.invariant.2 begun.row begun.shows in
    let lines = length-steps a.q a.u begun.row c.loop-t.t in
    let room : (c.loop-t.t + 1) * step_size a.q ≤ step_count a.q * step_size a.q = mul-le-mul_right (step_size a.q) (omega arith) in
    omega (arith, lines, room, reached.lines.wrote.place, reached.lines.same_length, c.requires.known.2)

-- the step that is taken is one of those that there are
step-due : (c : In-loop-t)
    → c.loop-t.t < step_count c.args.q
step-due c =
    omega (arith, c.loop-t-test.true, c.step_count-count.ensures)

pub loop-t-init : goal.loop-t-init
unfolding step_lines
loop-t-init c =
    let a = c.args in
    let start = c.at_start.ensures in (
      refl,
      start-many a.q _ c.requires.known.0 start.1,
      λ row shows. record {
        shows = shows;
        lines = put_nothing a.page.now;
        below = below-start a.q c.requires.known.0 c.at_start.result.each start.1 a.u row;
      },
    )

pub take_step-vote-requires : goal.take_step-vote-requires
take_step-vote-requires c =
    let due = step-due (goal.at.take_step-vote-requires c).In-loop-t in
    record {
      room = rw c.of-products.ensures (omega (arith, c.loop-t.invariant.0, c.requires.known.1), due);
      heights = rw c.of-products.ensures c.loop-t.invariant.1;
    }

pub put_step_line-requires-clause-area : goal.put_step_line-requires-clause-area
put_step_line-requires-clause-area c =
    area_of c.requires.known.0 (omega (arith, c.requires.known.1, c.loop-t.invariant.0, c.take_step-vote.auto.work))

pub put_step_line-requires-clause-s_bound : goal.put_step_line-requires-clause-s_bound
put_step_line-requires-clause-s_bound c =
    let weight = weight_is c.args.q c.loop-t.t c.step_count-count.ensures in
    let taken = step-due (goal.at.put_step_line-requires-clause-s_bound c).In-loop-t in
    (omega (arith, weight), line-fits (goal.at.put_step_line-requires-clause-s_bound c).At-loop-t taken)

pub put_step_line-requires-clause-shown : goal.put_step_line-requires-clause-shown
put_step_line-requires-clause-shown c =
    let a = c.args in
    let begun = c.requires.started in
    let after = next-state a.q a.u begun.row c.loop-t.t _ (step-due (goal.at.put_step_line-requires-clause-shown c).In-loop-t)
    (weight_is a.q c.loop-t.t c.step_count-count.ensures) (c.loop-t.invariant.2 begun.row begun.shows)
    (rw c.of-products.ensures at c.take_step-vote.ensures.stepped) in
    record { state = _; shows = after.0; voted = after.1 }

pub loop-t-preserved : goal.loop-t-preserved
loop-t-preserved c =
    let a = c.args in (
      c.take_step-vote.auto.work ∙ c.loop-t.invariant.0,
      (rw c.of-products.ensures at c.take_step-vote.ensures.heights_stay),
      λ row shows. reached-more a.q a.u row c.loop-t.t _ (step-due (goal.at.loop-t-preserved c).In-loop-t)
          (weight_is a.q c.loop-t.t c.step_count-count.ensures) (lines_fit (goal.at.loop-t-preserved c).At-loop-t row)
          (c.loop-t.invariant.2 row shows)
          (rw c.of-products.ensures at c.take_step-vote.ensures.stepped) c.put_step_line.ensures,
    )
