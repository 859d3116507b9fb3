-- `steps::stop` meets its contract: what q and u name decides. Assumes nothing.
use mathlib.Core.Path.{sym, subst, ◌∙◌}
use Rattle.std.proofs.lemmas.Result.{err_from_is_err_and}
use Rattle.curve.specs.Codes.{Code}
use Rattle.curve.proofs.Naming.{IsNamed, named-refused, named-code}
use Rattle.steps.proofs.StopChecks.{Promised, refused-by-code}
use Rattle.steps.proofs.service.stop.Goals as goal
use Rattle.steps.proofs.service.stop.Goals.{In_ok-code}

-- the code that was named
found : (c : In_ok-code) → IsNamed c.args.q c.args.u c.in_ok-code.code
found c = named-code _ _ (sym c.code_of.ensures ∙ c.in_ok-code.was)

pub returns : goal.returns
returns c =
    let a = c.args in
    let done = c.stop_under in
    subst (λ (code : Code). Promised code.q code.u a.steps a.row.now a.work.now a.output.now done.result done.new.work done.new.output)
    (found (goal.at.returns c).In_ok-code).is done.ensures

pub returns-in_err-code : goal.returns-in_err-code
returns-in_err-code c =
    let passed = err_from_is_err_and c.from_residual.result c.from_residual.ensures.1 in
    rw (passed.1, passed.2) (refused-by-code _ _ _ _ _ _ (named-refused _ _ (sym c.code_of.ensures ∙ c.in_err-code.was)))
