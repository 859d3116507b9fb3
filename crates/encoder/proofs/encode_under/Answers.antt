-- `encode_under` meets its contract: the tests are the checks in their order. Assumes nothing.
use mathlib.Core.Bool.{not}
use mathlib.Core.Path.{ap, ◌≡◌, sym, subst, ◌∙◌}
use mathlib.Core.List.{List, ◌++◌}
use Prim.Native.Nat.{ℕ, ◌≤◌}
use lib.ListN.{length, drop}
use borrow.Author.Tests.{not-true, not-false}
use Rattle.std.specs.Prelude.{Result, Ok, Err}
use Rattle.refusals.specs.declared.Refusal.{Refusal}
use Rattle.refusals.specs.declared.Refusal.TheVariants.{WrongLength, NoSymbol, ShortOutput}
use Rattle.curve.specs.Codes.{Code, point_count, dimension}
use Rattle.curve.specs.Given.{Message}
use Rattle.curve.proofs.GivenChecks.{valid-passes, given-passes, wrong-length, no_symbol}
use Rattle.encoder.specs.Encoding.{row_numbers, encode_answer, encode_output}
use Rattle.encoder.proofs.EncodeChecks.{refused-by-message, refused-by-output, not-refused}
use Rattle.encoder.proofs.encode_under.Goals as goal
use Rattle.encoder.proofs.encode_under.Goals.{Else-message-code, Else-not-all_symbols}

-- what the tests passed say: the message is k long, and its bytes are symbols
long : (c : Else-message-code) → length c.args.message.now ≡ dimension c.code.inside.q c.code.inside.u
long c = c.if-message-code.false ∙ c.code.invariant.k-is

message : (c : Else-not-all_symbols) → Message c.code.inside.q c.code.inside.u c.args.message.now
message c =
    record {
      known = c.code.invariant.known;
      code = c.code.invariant.accepted;
      whole = c.if-message-code.false ∙ c.code.invariant.k-is;
      all-symbols = not-true _ (sym c.all_symbols.ensures ∙ not-false _ (ap not c.if-not-all_symbols.false));
    }

-- what is answered and left under a code
abbrev Encodes : (message output : List ℕ) → Result (Unit {0}) Refusal → (Code → List ℕ) → Code → Type 0
Encodes message output answer left code =
    (answer ≡ encode_answer code.q code.u message output) × (left code ≡ encode_output code.q code.u message output)

pub returns-then-message-code : goal.returns-then-message-code
returns-then-message-code c =
    let short = wrong-length _ _ _ (rw c.code.invariant.k-is at c.if-message-code.true) in
    let all = subst (Encodes c.args.message.now c.args.output.now (Err WrongLength) (λ code. c.args.output.now)) c.code.view_is
    (refused-by-message _ _ _ _ (valid-passes c.code.invariant) short) in
    record { value = all.0; output_left = all.1 }

pub returns-then-not-all_symbols : goal.returns-then-not-all_symbols
returns-then-not-all_symbols c =
    let measured = long (goal.at.returns-then-not-all_symbols c).Else-message-code in
    let beyond = not-false _ (sym c.all_symbols.ensures ∙ not-true _ (ap not c.if-not-all_symbols.true)) in
    let all = subst (Encodes c.args.message.now c.args.output.now (Err NoSymbol) (λ code. c.args.output.now)) c.code.view_is
    (refused-by-message _ _ _ _ (valid-passes c.code.invariant) (no_symbol _ _ _ measured beyond)) in
    record { value = all.0; output_left = all.1 }

pub returns-then-output-code : goal.returns-then-output-code
returns-then-output-code c =
    let symbols = given-passes (message (goal.at.returns-then-output-code c).Else-not-all_symbols) in
    let all = subst (Encodes c.args.message.now c.args.output.now (Err ShortOutput) (λ code. c.args.output.now)) c.code.view_is
    (refused-by-output _ _ _ _ (valid-passes c.code.invariant) symbols (rw c.code.invariant.n-is at c.if-output-code.true)) in
    record { value = all.0; output_left = all.1 }

-- no check holds, so what encoding a row asks for is there
abbrev Asked : (message output : List ℕ) → Code → Type 0
Asked message output code = Message code.q code.u message × (point_count code.q ≤ length output)

pub encode_row-requires : goal.encode_row-requires
encode_row-requires c =
    let passed = (goal.at.encode_row-requires c).Else-not-all_symbols in
    let given = subst (Asked c.args.message.now c.args.output.now) c.code.view_is
    (message passed, rw c.code.invariant.n-is at c.if-output-code.false) in
    record { message = given.0; room = given.1 }

pub returns : goal.returns
returns c =
    let symbols = given-passes (message (goal.at.returns c).Else-not-all_symbols) in
    let room = rw c.code.invariant.n-is at c.if-output-code.false in
    let all = subst (Encodes c.args.message.now c.args.output.now (Ok tt)
    (λ code. row_numbers code.q code.u c.args.message.now ++ drop (point_count code.q) c.args.output.now)) c.code.view_is
    (not-refused _ _ _ _ (valid-passes c.code.invariant) symbols room) in
    record { value = all.0; output_left = c.encode_row.ensures ∙ all.1 }
