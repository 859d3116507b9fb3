-- `decode_under` meets its contract. Each refusal is the first check that holds; what is known once no check holds is gathered in
-- `received` and `room`.
-- Assumes nothing.
use mathlib.Core.Bool.{not}
use mathlib.Core.Path.{ap, ◌≡◌, sym, subst, ◌∙◌}
use mathlib.Core.List.{List}
use Prim.Native.Nat.{ℕ, ◌≤◌}
use native.Mathlib.Omega.{arith}
use lib.ListN.{length}
use borrow.Author.Tests.{not-true, not-false}
use Rattle.std.specs.Prelude.{Err}
use Rattle.refusals.specs.declared.Refusal.{Refusal}
use Rattle.refusals.specs.declared.Refusal.TheVariants.{WrongLength, NoSymbol, ShortWork, ShortOutput}
use Rattle.curve.specs.Codes.{Code, point_count}
use Rattle.curve.specs.Given.{Received}
use Rattle.curve.proofs.GivenChecks.{valid-passes, wrong-length, no_symbol}
use Rattle.published.specs.Picture.{area_size}
use Rattle.decoder.specs.FullRows.{Room}
use Rattle.decoder.proofs.DecodeChecks.{refused-by-row, short-work, short-message, short-corrected}
use Rattle.decoder.proofs.Promises.{Promised, refusing, decoding, kept}
use Rattle.decoder.proofs.decode_under.Goals as goal
use Rattle.decoder.proofs.decode_under.Goals.{Else-corrected-code, Else-not-all_symbols, Else-row-code}
use Rattle.decoder.proofs.decode_under.Goals.{then-message-code-via-then-message-code}
use Rattle.decoder.proofs.decode_under.Goals.{then-message-code-via-else-message-code+then-corrected-code}

long : (c : Else-row-code) → length c.args.row.now ≡ point_count c.code.inside.q
long c = c.if-row-code.false ∙ c.code.invariant.n-is

received : (c : Else-not-all_symbols) → Received c.code.inside.q c.code.inside.u c.args.row.now
received c =
    record {
      known = c.code.invariant.known;
      code = c.code.invariant.accepted;
      whole = c.if-row-code.false ∙ c.code.invariant.n-is;
      all-symbols = not-true _ (sym c.all_symbols.ensures ∙ not-false _ (ap not c.if-not-all_symbols.false));
    }

room : (c : Else-corrected-code) → Room c.code.inside.q c.code.inside.u c.args.work.now c.args.message.now c.args.corrected.now
room c =
    record {
      for-work = omega (arith, c.if-work-area_size.false, c.area_size.ensures);
      for-message = omega (arith, c.if-message-code.false, c.code.invariant.k-is);
      for-corrected = omega (arith, c.if-corrected-code.false, c.code.invariant.n-is);
    }

-- what is promised of a refusal under a code, whose numbers were read
abbrev Refusing : (row work message corrected : List ℕ) → Refusal → Code → Type 0
Refusing row work message corrected why code = Promised code.q code.u row work message corrected (Err why) work message corrected

pub returns-then-row-code : goal.returns-then-row-code
returns-then-row-code c =
    let a = c.args in
    kept _ _ _ _ _ _ (subst (Refusing a.row.now a.work.now a.message.now a.corrected.now WrongLength) c.code.view_is
    (refusing _ _ _ _ _ _ _ (refused-by-row _ _ _ _ _ _ (valid-passes c.code.invariant)
    (wrong-length _ _ _ (rw c.code.invariant.n-is at c.if-row-code.true)))))

pub returns-then-not-all_symbols : goal.returns-then-not-all_symbols
returns-then-not-all_symbols c =
    let a = c.args in
    let long = long (goal.at.returns-then-not-all_symbols c).Else-row-code in
    kept _ _ _ _ _ _ (subst (Refusing a.row.now a.work.now a.message.now a.corrected.now NoSymbol) c.code.view_is
    (refusing _ _ _ _ _ _ _ (refused-by-row _ _ _ _ _ _ (valid-passes c.code.invariant)
    (no_symbol _ _ _ long (not-false _ (sym c.all_symbols.ensures ∙ not-true _ (ap not c.if-not-all_symbols.true)))))))

pub returns-then-work-area_size : goal.returns-then-work-area_size
returns-then-work-area_size c =
    let a = c.args in
    let input = received (goal.at.returns-then-work-area_size c).Else-not-all_symbols in
    kept _ _ _ _ _ _ (subst (Refusing a.row.now a.work.now a.message.now a.corrected.now ShortWork) c.code.view_is
    (refusing _ _ _ _ _ _ _ (short-work _ _ _ _ _ _ input (omega (arith, c.if-work-area_size.true, c.area_size.ensures)))))

pub returns-then-message-code : goal.returns-then-message-code
returns-then-message-code c =
    let a = c.args in
    let input = received (goal.at.returns-then-message-code c).Else-not-all_symbols in
    let room : area_size c.code.inside.q ≤ length a.work.now = omega (arith, c.if-work-area_size.false, c.area_size.ensures) in
    kept _ _ _ _ _ _ (subst (Refusing a.row.now a.work.now a.message.now a.corrected.now ShortOutput) c.code.view_is
    (refusing _ _ _ _ _ _ _ (elim c.then-message-code.branch [
      | then-message-code-via-then-message-code w ↦
          short-message _ _ _ _ _ _ input room (omega (arith, w.if-message-code.true, c.code.invariant.k-is))
      | then-message-code-via-else-message-code+then-corrected-code w ↦
          short-corrected _ _ _ _ _ _ input room (omega (arith, w.if-corrected-code.true, c.code.invariant.n-is))
    ])))

-- no check holds, so what decoding a full row asks for is there
abbrev Asked : (row work message corrected : List ℕ) → Code → Type 0
Asked row work message corrected code = Received code.q code.u row × Room code.q code.u work message corrected

asked : (c : Else-corrected-code) → Received c.code.inside.q c.code.inside.u c.args.row.now
    → Asked c.args.row.now c.args.work.now c.args.message.now c.args.corrected.now c.args.code
asked c input =
    let a = c.args in
    subst (Asked a.row.now a.work.now a.message.now a.corrected.now) c.code.view_is (input, room c)

pub decode_row-requires : goal.decode_row-requires
decode_row-requires c =
    let at = goal.at.decode_row-requires c in
    let given = asked at.Else-corrected-code (received at.Else-not-all_symbols) in
    record { received = given.0; room = given.1 }

pub returns : goal.returns
returns c =
    let at = goal.at.returns c in
    let given = asked at.Else-corrected-code (received at.Else-not-all_symbols) in
    let done = c.decode_row.ensures in
    kept _ _ _ _ _ _ (decoding _ _ _ _ _ _ given.0 given.1 done.value done.work_left done.message_left done.corrected_left)
