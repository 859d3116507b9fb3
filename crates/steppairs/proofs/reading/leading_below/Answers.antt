-- `steppairs::reading::leading_below` meets its contract: what the search from behind finds is the row's degree.
-- Assumes nothing.
use mathlib.Core.Path.{◌≡◌, sym, ap, ◌∙◌}
use Prim.Native.Nat.{ℕ, ◌+◌, ◌<◌, ◌≤◌}
use native.Mathlib.Omega.{arith}
use borrow.Author.Rules.{rules}
use Rattle.std.specs.Prelude.{List, length, get_or}
use Rattle.std.specs.List.{between}
use Rattle.std.proofs.lemmas.List.Edits.{length-between, get_or-between}
use Rattle.symbols.specs.Rule.{number}
use Rattle.symbols.proofs.FieldLaws.{laws-of}
use Rattle.published.specs.Start.{width}
use Rattle.published.specs.Pairing.{degree}
use Rattle.workarea.proofs.Cells.{row_fits, shown_read}
use Rattle.steppairs.proofs.Degrees.{Last, degree-last, degree-above}
use Rattle.steppairs.proofs.reading.leading_below.Goals as goal
use Rattle.steppairs.proofs.reading.leading_below.Goals.{After-row_place-at, After-rposition, After-unwrap_or-degree}

-- the row lies within the area
fits : (c : After-row_place-at) → c.row_place-at.result + width c.args.q ≤ length c.args.work.now
fits c = rw c.row_place-at.ensures (row_fits _ _ c.requires.area c.requires.p_bound.0 c.requires.p_bound.1)

-- what is searched
abbrev searched : After-rposition → List ℕ
searched c = between c.row_place-at.result (c.row_place-at.result + c.args.height) c.args.work.now

found : (c : After-rposition) → Last (searched c) c.rposition.result
found c = search rules

-- the degree that is answered is below the width
small : (c : After-unwrap_or-degree) → c.unwrap_or-degree.result < width c.args.q
small c = search rules

pub slice_bounds-row-end : goal.slice_bounds-row-end
slice_bounds-row-end c =
    let room = fits (goal.at.slice_bounds-row-end c).After-row_place-at in
    let it : c.row_place-at.result + c.args.height ≤ length c.args.work.now = omega arith in
    it

pub bounds-work-at : goal.bounds-work-at
bounds-work-at c =
    omega (arith, fits (goal.at.bounds-work-at c).After-row_place-at, small (goal.at.bounds-work-at c).After-unwrap_or-degree)

pub returns-clause-leading_of : goal.returns-clause-leading_of
returns-clause-leading_of c = λ S z short.
    let at = c.row_place-at.result in
    let row = searched (goal.at.returns-clause-leading_of c).After-rposition in
    let room = fits (goal.at.returns-clause-leading_of c).After-row_place-at in
    let symbol_at : ℕ → ℕ = λ i. number _ (S c.args.p c.args.r i) in
    let long : length row ≡ c.args.height = length-between c.args.work.now at (at + c.args.height) (omega arith) ∙ omega arith in
    let read : (i : ℕ) → i < width c.args.q → get_or c.args.work.now (at + i) 0 ≡ symbol_at i = λ i l.
    rw c.row_place-at.ensures (shown_read _ S _ z.rest z.is _ _ i c.requires.p_bound.0 c.requires.p_bound.1 l) in
    let same : (i : ℕ) → i < length row → get_or row i 0 ≡ symbol_at i = λ i l.
    get_or-between c.args.work.now at (at + c.args.height) i 0 (omega (arith, long)) ∙ read i (omega (arith, long)) in
    record {
      degree-is =
          c.unwrap_or-degree.ensures
          ∙ sym (degree-last symbol_at row _ (found (goal.at.returns-clause-leading_of c).After-rposition) same)
          ∙ ap (degree symbol_at) long
          ∙ sym (degree-above _ _ _ c.requires.p_bound.2 (λ i h l. ap (number _) (short.zeros i h l) ∙ (laws-of _ c.requires.area.known).number-zero));
      coefficient-is = read _ (small (goal.at.returns-clause-leading_of c).After-unwrap_or-degree);
    }
