-- The parts of the step, one after the other, at the state after the steps done.
-- Assumes nothing.
use native.Mathlib.Omega.{arith}
use mathlib.Core.Path.{ap}
use Prim.Native.Nat.{ℕ, ◌-◌}
use Rattle.published.specs.Start.{step_count}
use Rattle.workarea.proofs.Sizes.{sizes}
use Rattle.steps.proofs.StepLaws.{vote-zero, assembled}
use Rattle.steps.proofs.step.step_with.Goals as goal

pub overflow_sub-s : goal.overflow_sub-s
unfolding step_count
overflow_sub-s c = omega (arith, c.start_weight.ensures, c.requires.room.1)

pub pairs_of-pairs-requires-clause-s_le_most_weight : goal.pairs_of-pairs-requires-clause-s_le_most_weight
pairs_of-pairs-requires-clause-s_le_most_weight c = omega (arith, c.start_weight.ensures, (sizes _ c.args.products.known).start)

pub substitute-requires-clause-s_le_most_degree : goal.substitute-requires-clause-s_le_most_degree
substitute-requires-clause-s_le_most_degree c =
    (omega (arith, c.start_weight.ensures, (sizes _ c.args.products.known).start), λ ne. vote-zero _ _ _ _ _ c.is_voted-voted.ensures c.vote_of-vote.ensures.unvoted ne)

pub returns-clause-stepped : goal.returns-clause-stepped
returns-clause-stepped c = λ row rest e below.
    assembled _ _ row _ c.args.products.known rest _ _ c.pairs_of-pairs.result _ _ _ _ _ _ (ap (λ (n : ℕ). n - c.args.done) c.start_weight.ensures) c.is_voted-voted.ensures e below
    c.pairs_of-pairs.ensures.numbers_of c.vote_of-vote.ensures.vote c.substitute.ensures c.change_all.ensures.becomes_below
