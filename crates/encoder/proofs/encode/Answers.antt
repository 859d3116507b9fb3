-- `encoder::encode` meets its contract: what q and u name decides. Assumes nothing.
use mathlib.Core.Path.{sym, ap, ◌∙◌}
use Rattle.std.specs.Prelude.{Err}
use Rattle.std.proofs.lemmas.Result.{err_from_is_err_and}
use Rattle.curve.specs.Codes.{Code}
use Rattle.curve.proofs.Naming.{named-refused, named-code, IsNamed}
use Rattle.encoder.specs.Encoding.{encode_answer, encode_output}
use Rattle.encoder.proofs.EncodeChecks.{refused-by-code}
use Rattle.encoder.proofs.encode.Goals as goal
use Rattle.encoder.proofs.encode.Goals.{In_ok-code}

-- the code that was named
found : (c : In_ok-code) → IsNamed c.args.q c.args.u c.in_ok-code.code
found c = named-code _ _ (sym c.code_of.ensures ∙ c.in_ok-code.was)

pub returns : goal.returns
returns c =
    let message = c.args.message.now in
    let output = c.args.output.now in
    let named = found (goal.at.returns c).In_ok-code in
    record {
      value = c.encode_under.ensures.value ∙ ap (λ (code : Code). encode_answer code.q code.u message output) named.is;
      output_left = c.encode_under.ensures.output_left ∙ ap (λ (code : Code). encode_output code.q code.u message output) named.is;
    }

pub returns-in_err-code : goal.returns-in_err-code
returns-in_err-code c =
    let all = refused-by-code _ _ _ _ (named-refused _ _ (sym c.code_of.ensures ∙ c.in_err-code.was)) in
    let passed = err_from_is_err_and _ c.from_residual.ensures.1 in
    record { value = passed.1 ∙ ap Err passed.2 ∙ all.0; output_left = all.1 }
