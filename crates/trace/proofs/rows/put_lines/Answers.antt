-- `trace::rows::put_lines` meets its contract: the first line, those of the steps and the last one follow each other, and there
-- is room for each.
-- Assumes nothing.
use mathlib.Core.Path.{sym, subst}
use mathlib.Core.List.{List, [], ◌∷◌}
use Prim.Native.Nat.{ℕ, ◌+◌, ◌*◌, ◌≤◌}
use native.Mathlib.Omega.{arith}
use lib.ListN.{length}
use Rattle.lines.specs.declared.Page.{Page}
use Rattle.lines.specs.Page.{Put, Room}
use Rattle.curve.specs.Codes.{Code}
use Rattle.curve.specs.Given.{Received}
use Rattle.published.specs.Start.{step_count}
use Rattle.published.specs.Picture.{area_size}
use Rattle.workarea.specs.Area.{Starts, cells_of}
use Rattle.steps.specs.Stop.{state_after}
use Rattle.voting.specs.Voting.{voted}
use Rattle.decoder.specs.Decoding.{decoded}
use Rattle.trace.specs.Trace.{last_line, row_lines}
use Rattle.request.specs.Request.{line}
use Rattle.stepline.specs.StepLine.{step_size}
use Rattle.steplines.proofs.Lengths.{length-steps}
use Rattle.trace.specs.Size.{trace_size, last_size}
use Rattle.trace.proofs.Lengths.{length-first-line}
use Rattle.trace.proofs.Whole.{wrote-all}
use Rattle.trace.proofs.rows.put_lines.Goals as goal
use Rattle.trace.proofs.rows.put_lines.Goals.{After-code, After-put_code}

-- what is given and lent
abbrev Lent : Page → (row work : List ℕ) (q u : ℕ) → Type 0
Lent page row work q u =
    Received q u row × (area_size q ≤ length work) × (page.end + trace_size q ≤ length page.out.now)
    × Starts q work (cells_of q (state_after q u row 0).polys)

lent : (c : After-code) → Lent c.args.page.now c.args.row.now c.args.work.now c.code.inside.q c.code.inside.u
lent c =
    subst (λ (code : Code). Lent c.args.page.now c.args.row.now c.args.work.now code.q code.u) (sym c.code.view_is)
    (c.requires.received, c.requires.room.0, c.requires.room.1, c.requires.starts)

-- the first line fits
first_fits : (c : After-code) → Room c.args.page.now (line (c.code.inside.q ∷ c.code.inside.u ∷ []))
unfolding trace_size
first_fits c = let lent = lent c in omega (arith, length-first-line c.code.inside.q c.code.inside.u lent.0.code, lent.2)

-- and after it the steps' lines and the last one do
rest-fits : (c : After-put_code) → Lent c.args.page.now c.args.row.now c.args.work.now c.code.inside.q c.code.inside.u
    → let q = c.code.inside.q in
    c.put_code.new.page.end + step_count q * step_size q + last_size q ≤ length c.put_code.new.page.out.now
unfolding trace_size
rest-fits c lent =
    omega (
      arith,
      length-first-line c.code.inside.q c.code.inside.u lent.0.code,
      c.put_code.ensures.wrote.place,
      c.put_code.ensures.same_length,
      lent.2,
    )

pub put_code-requires : goal.put_code-requires
put_code-requires c = first_fits (goal.at.put_code-requires c).After-code

pub put_steps-requires-clause-known : goal.put_steps-requires-clause-known
put_steps-requires-clause-known c =
    let at = goal.at.put_steps-requires-clause-known c in
    let lent = lent at.After-code in
    (c.code.invariant.known, lent.1, omega (arith, rest-fits at.After-put_code lent))

pub put_steps-requires-clause-started : goal.put_steps-requires-clause-started
put_steps-requires-clause-started c =
    record { row = c.args.row.now; shows = (lent (goal.at.put_steps-requires-clause-started c).After-code).3 }

-- there is room for the last line
abbrev LastRoom : Page → (work : List ℕ) → Code → Type 0
LastRoom page work code = (area_size code.q ≤ length work) × (page.end + last_size code.q ≤ length page.out.now)

pub put_last-requires-clause-room : goal.put_last-requires-clause-room
put_last-requires-clause-room c =
    let at = goal.at.put_last-requires-clause-room c in
    let lent = lent at.After-code in
    let q = c.code.inside.q in
    let steps = c.put_steps in
    let lines = steps.ensures c.args.row.now lent.3 in
    let end = length-steps q c.code.inside.u c.args.row.now (step_count q) in
    subst (LastRoom steps.new.page steps.new.work) c.code.view_is (
      omega (arith, steps.auto.work, lent.1),
      omega (arith, rest-fits at.After-put_code lent, end, lines.wrote.place, lines.same_length),
    )

-- the last line makes the lines of a row whole
abbrev Ends : Page → (row : List ℕ) (steps last : Page) → Code → Type 0
Ends page row steps last code =
    Put steps (last_line (decoded code.q code.u row) (voted code.q code.u row)) last → Put page (row_lines code.q code.u row) last

pub returns : goal.returns
returns c =
    let at = goal.at.returns c in
    let lent = lent at.After-code in
    let q = c.code.inside.q in
    let u = c.code.inside.u in
    let row = c.args.row.now in
    subst (Ends c.args.page.now row c.put_steps.new.page c.put_last.new.page) c.code.view_is
    (wrote-all q u row (first_fits at.After-code)
    (omega (arith, rest-fits at.After-put_code lent, length-steps q u row (step_count q)))
    c.put_code.ensures (c.put_steps.ensures row lent.3))
    c.put_last.ensures
