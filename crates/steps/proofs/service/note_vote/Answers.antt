-- A step that votes has its place just below those that have their votes.
-- Assumes nothing.
use mathlib.Core.Path.{◌≡◌, sym, ◌∙◌}
use mathlib.Core.Bool.{true, false}
use Prim.Native.Nat.{◌+◌, ◌-◌}
use native.Mathlib.Omega.{arith}
use Rattle.curve.specs.Ranks.{rank}
use Rattle.published.specs.Start.{start_weight, step_count}
use Rattle.published.specs.Pairing.{is_voted}
use Rattle.steps.proofs.VotePlaces.{voted-place, voted-left, unvoted-left, noted-met, noted-unmet}
use Rattle.steps.proofs.service.note_vote.Goals as goal
use Rattle.steps.proofs.service.note_vote.Goals.{Else-is_voted, Then-is_voted}

-- the test of the branch, over the weight that the definitions name
met : (c : Then-is_voted) → is_voted c.args.q c.args.u (start_weight c.args.q - c.args.done) ≡ true
met c = rw c.start_weight.ensures at (sym c.is_voted.ensures ∙ c.if-is_voted.true)

unmet : (c : Else-is_voted) → is_voted c.args.q c.args.u (start_weight c.args.q - c.args.done) ≡ false
unmet c = rw c.start_weight.ensures at (sym c.is_voted.ensures ∙ c.if-is_voted.false)

-- the place below those that have their votes
place : (c : Then-is_voted) → c.args.left ≡ rank c.args.q (start_weight c.args.q - c.args.done) + 1
place c = c.requires.2 ∙ voted-place _ _ _ c.requires.1 ((let it : is_voted c.args.q c.args.u (start_weight c.args.q - c.args.done) ≡ true = rw c.start_weight.ensures at (sym c.is_voted.ensures ∙ c.if-is_voted.true) in it))

pub overflow_sub-s : goal.overflow_sub-s
unfolding step_count
overflow_sub-s c = omega (arith, c.start_weight.ensures, c.requires.1)

pub overflow_sub-place : goal.overflow_sub-place
overflow_sub-place c = omega (arith, place (goal.at.overflow_sub-place c).Then-is_voted)

pub bounds-votes-place : goal.bounds-votes-place
bounds-votes-place c = omega (arith, place (goal.at.bounds-votes-place c).Then-is_voted, c.requires.3)

pub returns-then-is_voted-clause-value : goal.returns-then-is_voted-clause-value
returns-then-is_voted-clause-value c = let e : c.args.left - 1 ≡ rank c.args.q (start_weight c.args.q - c.args.done) = omega (arith, place (goal.at.returns-then-is_voted-clause-value c).Then-is_voted) in
    e ∙ sym (voted-left _ _ _ c.requires.1 (met (goal.at.returns-then-is_voted-clause-value c).Then-is_voted))

pub returns-then-is_voted-clause-votes_left : goal.returns-then-is_voted-clause-votes_left
returns-then-is_voted-clause-votes_left c = let e : c.args.left - 1 ≡ rank c.args.q (start_weight c.args.q - c.args.done) = omega (arith, place (goal.at.returns-then-is_voted-clause-votes_left c).Then-is_voted) in
    rw e (sym (noted-met _ _ _ _ c.args.votes.now (met (goal.at.returns-then-is_voted-clause-votes_left c).Then-is_voted)))

pub returns-clause-value : goal.returns-clause-value
returns-clause-value c = c.requires.2 ∙ sym (unvoted-left _ _ _ c.requires.1 (unmet (goal.at.returns-clause-value c).Else-is_voted))

pub returns-clause-votes_left : goal.returns-clause-votes_left
returns-clause-votes_left c = sym (noted-unmet _ _ _ _ c.args.votes.now (unmet (goal.at.returns-clause-votes_left c).Else-is_voted))
