-- `decoder::decode` meets its contract: what q and u name decides. Assumes nothing.
use mathlib.Core.Path.{sym, subst, ◌∙◌}
use mathlib.Core.List.{List}
use Prim.Native.Nat.{ℕ}
use Rattle.std.specs.Prelude.{Result}
use Rattle.std.proofs.lemmas.Result.{err_from_is_err_and}
use Rattle.refusals.specs.declared.Refusal.{Refusal}
use Rattle.curve.specs.Codes.{Code}
use Rattle.curve.proofs.Naming.{IsNamed, named-refused, named-code}
use Rattle.decoder.proofs.DecodeChecks.{refused-by-code}
use Rattle.decoder.proofs.Promises.{Promised, refusing, told}
use Rattle.decoder.proofs.decode.Goals as goal
use Rattle.decoder.proofs.decode.Goals.{In_ok-code}

-- the code that was named
found : (c : In_ok-code) → IsNamed c.args.q c.args.u c.in_ok-code.code
found c = named-code _ _ (sym c.code_of.ensures ∙ c.in_ok-code.was)

-- what is promised of a call under a code
abbrev Under : (row work message corrected : List ℕ) → Result ℕ Refusal → (work' message' corrected' : List ℕ) → Code → Type 0
Under row work message corrected answer work' message' corrected' code =
    Promised code.q code.u row work message corrected answer work' message' corrected'

pub returns : goal.returns
returns c =
    let a = c.args in
    let done = c.decode_under.ensures in
    let new = c.decode_under.new in
    told _ _ _ _ _ _
    (subst (Under a.row.now a.work.now a.message.now a.corrected.now c.decode_under.result new.work new.message new.corrected)
    (found (goal.at.returns c).In_ok-code).is
    (record { answer-is = done.answered; work-is = done.work_left; message-is = done.message_left; corrected-is = done.corrected_left }))

pub returns-in_err-code : goal.returns-in_err-code
returns-in_err-code c =
    let passed = err_from_is_err_and c.from_residual.result c.from_residual.ensures.1 in
    let refused = refused-by-code _ _ _ _ _ _ (named-refused _ _ (sym c.code_of.ensures ∙ c.in_err-code.was)) in
    rw (passed.1, passed.2) (told _ _ _ _ _ _ (refusing _ _ _ _ _ _ _ refused))
