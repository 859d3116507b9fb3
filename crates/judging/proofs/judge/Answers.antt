-- `judging::judge` meets its contract. Assumes nothing.
use mathlib.Core.Path.{◌≡◌, ap, subst, ◌∙◌}
use Rattle.curve.specs.Codes.{Code, point_count}
use Rattle.judging.specs.Judging.{differing, count_of}
use Rattle.encoder.proofs.RowSymbols.{row_first}
use Rattle.judging.proofs.Differing.{pairs-differ}
use Rattle.judging.proofs.judge.Goals as goal

pub returns-clause-value : goal.returns-clause-value
unfolding count_of
returns-clause-value c =
    let n-is = subst (λ (code : Code). c.code.inside.n ≡ point_count code.q) c.code.view_is c.code.invariant.n-is in
    let first = row_first c.args.code.q c.requires.message.known c.args.code.u c.args.message.now _ _ _ n-is c.encode_row.ensures in
    c.count_differing.ensures ∙ pairs-differ _ _ ∙ ap (λ l. differing l c.args.row.now) first
