-- `trace::rows::answer` meets its contract: what q and u name decides. Assumes nothing.
use mathlib.Core.Path.{sym, subst, ◌∙◌}
use native.Mathlib.Omega.{arith}
use Rattle.lines.specs.Page.{Put}
use Rattle.curve.specs.Codes.{Code}
use Rattle.curve.proofs.Naming.{IsNamed, named-refused, named-code}
use Rattle.trace.specs.Trace.{answer}
use Rattle.trace.proofs.Checked.{refused-by-code}
use Rattle.trace.proofs.Lengths.{length-refused}
use Rattle.trace.proofs.rows.answer.Goals as goal
use Rattle.trace.proofs.rows.answer.Goals.{In-Ok}

-- the code that was named
found : (c : In-Ok) → IsNamed c.args.q c.args.u c.in-Ok.code
found c = named-code _ _ (sym c.code_of.ensures ∙ c.in-Ok.is)

pub put_refusal-requires : goal.put_refusal-requires
put_refusal-requires c = omega (arith, c.requires, length-refused c.in-Err.why)

pub returns-in-Ok : goal.returns-in-Ok
returns-in-Ok c =
    let at = c.args in
    subst
    (λ (code : Code). Put at.page.now (answer code.q code.u at.row.now) c.answer_under.new.page)
    (found (goal.at.returns-in-Ok c).In-Ok).is c.answer_under.ensures

pub returns-in-Err : goal.returns-in-Err
returns-in-Err c =
    rw (refused-by-code _ _ c.args.row.now (named-refused _ _ (sym c.code_of.ensures ∙ c.in-Err.is)))
    c.put_refusal.ensures
