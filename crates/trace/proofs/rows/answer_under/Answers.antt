-- `trace::rows::answer_under` meets its contract: each refusal is the first check that holds, and the picture after no step is the
-- start. Assumes nothing.
use mathlib.Core.Bool.{not}
use mathlib.Core.Path.{ap, ◌≡◌, sym, subst, ◌∙◌}
use mathlib.Core.List.{List}
use Prim.Native.Nat.{ℕ}
use native.Mathlib.Omega.{arith}
use lib.ListN.{length, drop, replicate}
use borrow.Author.Tests.{not-true, not-false}
use Rattle.symbols.specs.Sizes.{most_area}
use Rattle.refusals.specs.declared.Refusal.TheVariants.{WrongLength, NoSymbol}
use Rattle.lines.specs.declared.Page.{Page}
use Rattle.lines.specs.Page.{Put}
use Rattle.curve.specs.Codes.{Code, point_count}
use Rattle.curve.specs.Given.{Received}
use Rattle.curve.proofs.CodeLaws.{dimension-le}
use Rattle.curve.proofs.GivenChecks.{valid-passes, wrong-length, no_symbol}
use Rattle.curve.proofs.Sizes.{count_small}
use Rattle.published.specs.Picture.{area_size}
use Rattle.workarea.proofs.Sizes.{sizes}
use Rattle.trace.specs.Trace.{answer}
use Rattle.trace.proofs.Checked.{refused-by-row, not-refused, shows-start}
use Rattle.trace.proofs.Lengths.{longest, length-refused}
use Rattle.trace.proofs.rows.answer_under.Goals as goal
use Rattle.trace.proofs.rows.answer_under.Goals.{Else-not-all_symbols, Else-row-code}

-- what the tests passed say: the row is n long, and its bytes are symbols
long : (c : Else-row-code) → length c.args.row.now ≡ point_count c.code.inside.q
long c = c.if-row-code.false ∙ c.code.invariant.n-is

row : (c : Else-not-all_symbols) → Received c.code.inside.q c.code.inside.u c.args.row.now
row c =
    record {
      known = c.code.invariant.known;
      code = c.code.invariant.accepted;
      whole = c.if-row-code.false ∙ c.code.invariant.n-is;
      all-symbols = not-true _ (sym c.all_symbols.ensures ∙ not-false _ (ap not c.if-not-all_symbols.false));
    }

received : (c : Else-not-all_symbols) → Received c.args.code.q c.args.code.u c.args.row.now
received c = subst (λ (code : Code). Received code.q code.u c.args.row.now) c.code.view_is (row c)

-- what is printed under a code
abbrev Prints : Page → (row : List ℕ) → Page → Code → Type 0
Prints page row next code = Put page (answer code.q code.u row) next

pub put_refusal-requires : goal.put_refusal-requires
put_refusal-requires c = omega (arith, c.requires, length-refused WrongLength)

pub returns-then-row-code : goal.returns-then-row-code
returns-then-row-code c =
    let short = wrong-length _ _ _ (rw c.code.invariant.n-is at c.if-row-code.true) in
    subst (Prints c.args.page.now c.args.row.now c.put_refusal.new.page) c.code.view_is
    (rw (refused-by-row _ _ c.args.row.now (valid-passes c.code.invariant) short) c.put_refusal.ensures)

pub put_refusal-requires-then-not-all_symbols : goal.put_refusal-requires-then-not-all_symbols
put_refusal-requires-then-not-all_symbols c = omega (arith, c.requires, length-refused NoSymbol)

pub returns-then-not-all_symbols : goal.returns-then-not-all_symbols
returns-then-not-all_symbols c =
    let refusal = c.put_refusal-then-not-all_symbols in
    let long = long (goal.at.returns-then-not-all_symbols c).Else-row-code in
    let beyond = no_symbol _ _ _ long (not-false _ (sym c.all_symbols.ensures ∙ not-true _ (ap not c.if-not-all_symbols.true))) in
    subst (Prints c.args.page.now c.args.row.now refusal.new.page) c.code.view_is
    (rw (refused-by-row _ _ c.args.row.now (valid-passes c.code.invariant) beyond) refusal.ensures)

pub advance-requires : goal.advance-requires
advance-requires c =
    let received = received (goal.at.advance-requires c).Else-not-all_symbols in
    let q = c.args.code.q in
    let area = (sizes q received.known).area in
    let most = count_small q received.known in
    record {
      row = (received, omega arith);
      room = (omega (arith, area), omega (arith, most, dimension-le q c.args.code.u received.code));
    }

pub put_lines-requires : goal.put_lines-requires
put_lines-requires c =
    let received = received (goal.at.put_lines-requires c).Else-not-all_symbols in
    let q = c.args.code.q in
    let area = (sizes q received.known).area in
    record {
      received = received;
      room = (omega (arith, c.advance.auto.work, area), omega (arith, c.requires, longest q received.known));
      starts = shows-start q c.args.code.u c.args.row.now (drop (area_size q) (replicate most_area 0)) c.advance.ensures.work_left;
    }

pub returns : goal.returns
returns c =
    rw (not-refused _ _ c.args.row.now (received (goal.at.returns c).Else-not-all_symbols)) c.put_lines.ensures
