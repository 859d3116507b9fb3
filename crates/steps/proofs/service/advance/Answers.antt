-- The start, no votes yet, and the steps.
-- Assumes nothing.
use mathlib.Core.Path.{◌≡◌, sym, ap, subst, ◌∙◌}
use mathlib.Core.List.{List, ◌++◌}
use Prim.Native.Nat.{ℕ}
use lib.ListN.{drop}
use Rattle.curve.specs.Codes.{Code, dimension}
use Rattle.published.specs.Picture.{area_size}
use Rattle.steps.specs.Stop.{picture_after, votes_after}
use Rattle.steps.proofs.VotePlaces.{picture-first, votes-first}
use Rattle.steps.proofs.service.advance.Goals as goal

pub take_steps-requires : goal.take_steps-requires
take_steps-requires c =
    record {
      steps = (c.requires.row.1, c.of-products.ensures ∙ ap (λ (code : Code). code.q) c.code.view_is);
      room = (rw c.begin.auto.work (c.requires.room.0), rw c.clear.auto.work (c.requires.room.1));
    }

-- what stands in both areas before the first step
abbrev Begun : (row work votes work' votes' : List ℕ) → Code → Type 0
Begun row work votes work' votes' code =
    (work' ≡ picture_after code.q code.u row 0 ++ drop (area_size code.q) work)
    × (votes' ≡ votes_after code.q code.u row 0 ++ drop (dimension code.q code.u) votes)

pub returns : goal.returns
returns c =
    let q = c.code.inside.q in
    let u = c.code.inside.u in
    let row = c.args.row.now in
    let work = drop (area_size q) c.args.work.now in
    let votes = drop (dimension q u) c.args.votes.now in
    let begun = subst (Begun row c.args.work.now c.args.votes.now c.begin.new.work c.clear.new.work) c.code.view_is (
      rw c.of-products.ensures at c.begin.ensures ∙ ap (λ (l : List ℕ). l ++ work) (sym (picture-first q u row)),
      rw c.code.invariant.k-is at c.clear.ensures ∙ ap (λ (l : List ℕ). l ++ votes) (sym (votes-first q u row c.code.invariant.known)),
    ) in
    let all = c.take_steps.ensures row (drop (area_size c.args.code.q) c.args.work.now)
    (drop (dimension c.args.code.q c.args.code.u) c.args.votes.now) begun.0 begun.1 in
    record { work_left = all.0; votes_left = all.1 }
