-- `steps::service::take_steps` meets its contract: the goals that the check leaves open. Assumes nothing.
use mathlib.Core.Path.{◌≡◌, refl, sym, ap, subst, ◌∙◌}
use Prim.Native.Nat.{ℕ, ◌-◌, ◌<◌, ◌≤◌}
use native.Mathlib.Nat.{sub-zero}
use native.Mathlib.Omega.{arith}
use borrow.Author.Rules.{rules}
use lib.ListN.{length}
use mathlib.Core.List.{List, ◌++◌}
use Rattle.curve.specs.Codes.{Code, dimension}
use Rattle.published.specs.Picture.{area_size}
use Rattle.curve.proofs.CodeLaws.{code_below}
use Rattle.published.specs.Start.{step_count}
use Rattle.steps.specs.Stop.{picture_after, votes_after}
use Rattle.steps.specs.Votes.{votes_below, noted}
use Rattle.workarea.proofs.HeightLaws.{start-many}
use Rattle.steps.proofs.StartHeights.{below-start}
use Rattle.steps.proofs.VotePlaces.{below_all, below-le, code-stepped, noted-next}
use Rattle.steps.proofs.service.take_steps.Goals as goal
use Rattle.steps.proofs.service.take_steps.Goals.{After-code}

-- what is asked for, by the numbers of the code that are read
abbrev Asked : (steps q : ℕ) (work votes : List ℕ) → Code → Type 0
Asked steps q work votes code =
    (steps ≤ step_count code.q) × (q ≡ code.q) × (area_size code.q ≤ length work) × (dimension code.q code.u ≤ length votes)

asked : (c : After-code) → (c.args.steps ≤ step_count c.code.inside.q) × (c.args.products.q ≡ c.code.inside.q)
    × (area_size c.code.inside.q ≤ length c.args.work.now) × (dimension c.code.inside.q c.code.inside.u ≤ length c.args.votes.now)
asked c =
    subst (Asked c.args.steps c.args.products.q c.args.work.now c.args.votes.now) (sym c.code.view_is)
    (c.requires.steps.0, c.requires.steps.1, c.requires.room.0, c.requires.room.1)

pub loop-done-init : goal.loop-done-init
loop-done-init c =
    let known = c.code.invariant.known in (
      refl,
      refl,
      c.code.invariant.k-is ∙ sym (below_all _ _ _ (code-stepped _ _ known (code_below _ _ c.code.invariant.accepted))) ∙ ap (votes_below c.code.inside.q c.code.inside.u) (sym (sub-zero _)),
      start-many _ _ known c.at_start.ensures.1,
      λ row rest rest' e e'. (e, e', below-start _ known _ c.at_start.ensures.1 _ row),
    )

pub take_step-vote-requires : goal.take_step-vote-requires
take_step-vote-requires c =
    let given = asked (goal.at.take_step-vote-requires c).After-code in
    record {
      room = rw given.1 (omega (arith, c.loop-done.invariant.0, given.2), omega (arith, given.0, c.loop-done-test.true));
      heights = rw given.1 c.loop-done.invariant.3;
    }

pub note_vote-left-requires : goal.note_vote-left-requires
note_vote-left-requires c =
    let turn = c.loop-done in (
      c.code.invariant.known,
      omega (arith, (asked (goal.at.note_vote-left-requires c).After-code).0, c.loop-done-test.true),
      turn.invariant.2,
      omega (arith, turn.invariant.2, turn.invariant.1, (asked (goal.at.note_vote-left-requires c).After-code).3, below-le c.code.inside.q c.code.inside.u (step_count c.code.inside.q - turn.done)),
    )

pub loop-done-preserved : goal.loop-done-preserved
loop-done-preserved c =
    let turn = c.loop-done in
    let noting = c.note_vote-left.ensures in
    let few : turn.done < step_count c.code.inside.q = omega (arith, (asked (goal.at.loop-done-preserved c).After-code).0, c.loop-done-test.true) in (
      search rules,
      search rules,
      noting.value,
      (rw (asked (goal.at.loop-done-preserved c).After-code).1 at c.take_step-vote.ensures.heights_stay),
      λ row rest rest' e e'.
          let now-then = turn.invariant.4 row rest rest' e e' in
          let stepped =
          (rw (asked (goal.at.loop-done-preserved c).After-code).1 at c.take_step-vote.ensures.stepped) row rest now-then.0 now-then.2 in
          (stepped.0.picture, noting.votes_left ∙ ap (noted _ _ _ _) now-then.1 ∙ noted-next _ _ row _ _ rest' few stepped.0.vote-is, stepped.1),
    )

-- what the steps leave under a code
abbrev Taken : (steps : ℕ) (work votes work' votes' : List ℕ) → Code → Type 0
Taken steps work votes work' votes' code =
    (row rest rest' : List ℕ) → work ≡ picture_after code.q code.u row 0 ++ rest → votes ≡ votes_after code.q code.u row 0 ++ rest'
    → (work' ≡ picture_after code.q code.u row steps ++ rest) × (votes' ≡ votes_after code.q code.u row steps ++ rest')

pub returns : goal.returns
returns c =
    let e : c.loop-done.done ≡ c.args.steps = omega (arith, c.loop-done-test.false, c.loop-done.auto) in
    subst (Taken c.args.steps c.args.work.now c.args.votes.now c.loop-done.work c.loop-done.votes) c.code.view_is
    (λ row rest rest' w v. let all = (rw e at c.loop-done.invariant.4) row rest rest' w v in (all.0, all.1))
