-- `voting::vote_all` meets its contract. Assumes nothing.
use mathlib.Core.Path.{◌≡◌, subst}
use Rattle.curve.specs.Codes.{Code}
use Rattle.published.specs.Start.{step_count}
use Rattle.published.specs.Picture.{area_size}
use Rattle.voting.specs.Voting.{cleared}
use Rattle.voting.proofs.Clearing.{picture-cleared}
use Rattle.voting.proofs.Votes.{voted-after}
use Rattle.voting.proofs.vote_all.Goals as goal

pub returns-clause-work_left : goal.returns-clause-work_left
unfolding cleared
returns-clause-work_left c =
    let row = c.args.row.now in
    let size = subst (λ (code : Code). c.area_size-size.result ≡ area_size code.q) c.code.view_is c.area_size-size.ensures in
    picture-cleared c.args.code.q c.args.code.u row _ c.args.work.now _ _ size c.advance.ensures.work_left _ c.clear.ensures

pub returns-clause-votes_left : goal.returns-clause-votes_left
unfolding cleared
returns-clause-votes_left c =
    let row = c.args.row.now in
    let count = subst (λ (code : Code). c.step_count-count.result ≡ step_count code.q) c.code.view_is c.step_count-count.ensures in
    voted-after c.args.code.q c.args.code.u row _ _ c.step_count-count.result count c.advance.ensures.votes_left
