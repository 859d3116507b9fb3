-- `steps::step::take_step` meets its contract: what bounds the first places of the list bounds the upper parts. Assumes nothing.
use mathlib.Core.Path.{◌≡◌, ◌∙◌}
use Prim.Native.Nat.{◌*◌}
use lib.ListN.{take}
use native.Mathlib.Omega.{arith}
use Rattle.heights.proofs.Lists.{heights-same, within-same, same-first}
use Rattle.steps.proofs.step.take_step.Goals as goal
use Rattle.steps.proofs.step.take_step.Goals.{After-put_in}

-- the heights after the step have the same q, and the list begins with them
q-same : (c : After-put_in) → c.step_with-vote.new.heights.q ≡ c.args.products.q
q-same c = c.step_with-vote.ensures.q_stays ∙ c.of_list-first.ensures.q_is

begins : (c : After-put_in) → take (2 * c.args.products.q) c.put_in.new.list ≡ take (2 * c.args.products.q) c.step_with-vote.new.heights.each
begins c = rw (c.put_in.ensures, q-same c) (same-first _ _ _ (rw (q-same c) at c.step_with-vote.new.heights.low).enough)

pub returns-clause-heights_stay : goal.returns-clause-heights_stay
returns-clause-heights_stay c =
    let done = (goal.at.returns-clause-heights_stay c).After-put_in in
    heights-same _ _ _ (begins done) (omega (arith, c.requires.heights.enough, c.put_in.auto.list)) (rw (q-same done) at c.step_with-vote.new.heights.low)

pub returns-clause-stepped : goal.returns-clause-stepped
returns-clause-stepped c = λ row rest e below.
    let done = (goal.at.returns-clause-stepped c).After-put_in in
    let after = c.step_with-vote.ensures.stepped row rest e (within-same _ _ _ _ c.of_list-first.ensures.same below) in
    (after.0, within-same _ _ _ _ (begins done) after.1)
