-- `stop_under` meets its contract: the tests are the checks in their order, and what is left has its meaning.
-- Assumes nothing.
use mathlib.Core.Bool.{not}
use mathlib.Core.Path.{ap, ◌≡◌, sym, subst, ◌∙◌}
use mathlib.Core.List.{List}
use Prim.Native.Nat.{ℕ, ◌≤◌}
use lib.ListN.{length}
use borrow.Author.Tests.{not-true, not-false}
use Rattle.std.specs.Prelude.{Err}
use Rattle.refusals.specs.declared.Refusal.{Refusal}
use Rattle.refusals.specs.declared.Refusal.TheVariants.{TooManySteps, WrongLength, NoSymbol, ShortWork, ShortOutput}
use Rattle.curve.specs.Codes.{Code, point_count, dimension}
use Rattle.curve.specs.Given.{Received}
use Rattle.curve.proofs.GivenChecks.{code-passes, valid-passes, given-passes, wrong-length, no_symbol}
use Rattle.published.specs.Start.{step_count}
use Rattle.published.specs.Picture.{area_size}
use Rattle.steps.proofs.StopChecks.{Promised, refused-by-steps, refused-by-row, refused-by-work, refused-by-output, not-refused}
use Rattle.steps.proofs.service.stop_under.Goals as goal
use Rattle.steps.proofs.service.stop_under.Goals.{Else-not-all_symbols, Else-output-code, Else-row-code}
use Rattle.steps.proofs.service.stop_under.Goals.{Else-step_count-steps, Else-work-area_size}

-- what the tests passed say: there are enough steps, the row is n long, its bytes are symbols, the area has room
enough : (c : Else-step_count-steps) → c.args.steps ≤ step_count c.code.inside.q
enough c = rw c.step_count.ensures at c.if-step_count-steps.false

long : (c : Else-row-code) → length c.args.row.now ≡ point_count c.code.inside.q
long c = c.if-row-code.false ∙ c.code.invariant.n-is

row : (c : Else-not-all_symbols) → Received c.code.inside.q c.code.inside.u c.args.row.now
row c =
    record {
      known = c.code.invariant.known;
      code = c.code.invariant.accepted;
      whole = c.if-row-code.false ∙ c.code.invariant.n-is;
      all-symbols = not-true _ (sym c.all_symbols.ensures ∙ not-false _ (ap not c.if-not-all_symbols.false));
    }

room : (c : Else-work-area_size) → area_size c.code.inside.q ≤ length c.args.work.now
room c = rw c.area_size.ensures at c.if-work-area_size.false

-- what is promised under a code, whose numbers were read
abbrev Refusing : (steps : ℕ) (row work output : List ℕ) → Refusal → Code → Type 0
Refusing steps row work output why code = Promised code.q code.u steps row work output (Err why) work output

pub returns-then-step_count-steps : goal.returns-then-step_count-steps
returns-then-step_count-steps c =
    subst (Refusing c.args.steps c.args.row.now c.args.work.now c.args.output.now TooManySteps) c.code.view_is
    (refused-by-steps _ _ _ _ _ _ (valid-passes c.code.invariant) (rw c.step_count.ensures at c.if-step_count-steps.true))

pub returns-then-row-code : goal.returns-then-row-code
returns-then-row-code c =
    let enough = enough (goal.at.returns-then-row-code c).Else-step_count-steps in
    let short = wrong-length _ _ _ (rw c.code.invariant.n-is at c.if-row-code.true) in
    subst (Refusing c.args.steps c.args.row.now c.args.work.now c.args.output.now WrongLength) c.code.view_is
    (refused-by-row _ _ _ _ _ _ (valid-passes c.code.invariant) enough short)

pub returns-then-not-all_symbols : goal.returns-then-not-all_symbols
returns-then-not-all_symbols c =
    let at = goal.at.returns-then-not-all_symbols c in
    let long = long at.Else-row-code in
    let beyond = no_symbol _ _ _ long (not-false _ (sym c.all_symbols.ensures ∙ not-true _ (ap not c.if-not-all_symbols.true))) in
    subst (Refusing c.args.steps c.args.row.now c.args.work.now c.args.output.now NoSymbol) c.code.view_is
    (refused-by-row _ _ _ _ _ _ (valid-passes c.code.invariant) (enough at.Else-step_count-steps) beyond)

pub returns-then-work-area_size : goal.returns-then-work-area_size
returns-then-work-area_size c =
    let at = goal.at.returns-then-work-area_size c in
    let full = given-passes (row at.Else-not-all_symbols) in
    let short = rw c.area_size.ensures at c.if-work-area_size.true in
    subst (Refusing c.args.steps c.args.row.now c.args.work.now c.args.output.now ShortWork) c.code.view_is
    (refused-by-work _ _ _ _ _ _ (valid-passes c.code.invariant) (enough at.Else-step_count-steps) full short)

pub returns-then-output-code : goal.returns-then-output-code
returns-then-output-code c =
    let at = goal.at.returns-then-output-code c in
    let full = given-passes (row at.Else-not-all_symbols) in
    let room = room at.Else-work-area_size in
    let short = rw c.code.invariant.k-is at c.if-output-code.true in
    subst (Refusing c.args.steps c.args.row.now c.args.work.now c.args.output.now ShortOutput) c.code.view_is
    (refused-by-output _ _ _ _ _ _ (valid-passes c.code.invariant) (enough at.Else-step_count-steps) full room short)

-- no check holds, so what the steps ask for is there
abbrev Asked : (steps : ℕ) (row work output : List ℕ) → Code → Type 0
Asked steps row work output code =
    Received code.q code.u row × (steps ≤ step_count code.q) × (area_size code.q ≤ length work) × (dimension code.q code.u ≤ length output)

asked : (c : Else-output-code) → (c.args.steps ≤ step_count c.code.inside.q) → Received c.code.inside.q c.code.inside.u c.args.row.now
    → (area_size c.code.inside.q ≤ length c.args.work.now) → Asked c.args.steps c.args.row.now c.args.work.now c.args.output.now c.args.code
asked c enough row room =
    subst (Asked c.args.steps c.args.row.now c.args.work.now c.args.output.now) c.code.view_is
    (row, enough, room, rw c.code.invariant.k-is at c.if-output-code.false)

pub advance-requires : goal.advance-requires
advance-requires c =
    let at = goal.at.advance-requires c in
    let given = asked at.Else-output-code (enough at.Else-step_count-steps) (row at.Else-not-all_symbols) (room at.Else-work-area_size) in
    record { row = (given.0, given.1); room = (given.2, given.3) }

pub returns : goal.returns
returns c =
    let at = goal.at.returns c in
    let given = asked at.Else-output-code (enough at.Else-step_count-steps) (row at.Else-not-all_symbols) (room at.Else-work-area_size) in
    let coded = code-passes _ _ given.0.known given.0.code in
    not-refused _ _ _ _ _ _ coded given.1 (given-passes given.0) given.0.known given.2 given.3 c.advance.ensures.work_left
    c.advance.ensures.votes_left
