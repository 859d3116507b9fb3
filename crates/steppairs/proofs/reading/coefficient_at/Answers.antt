-- Within the width the symbol is read; past it the cells are zero.
-- Assumes nothing.
use mathlib.Core.Path.{sym, ◌∙◌, ap}
use native.Mathlib.Omega.{arith}
use Rattle.symbols.specs.Rule.{number}
use Rattle.symbols.proofs.FieldLaws.{laws-of}
use Rattle.workarea.proofs.Cells.{row_fits, shown_read}
use Rattle.steppairs.proofs.reading.coefficient_at.Goals as goal

pub bounds-work-row_place : goal.bounds-work-row_place
bounds-work-row_place c =
    rw c.row_place.ensures (omega (arith, row_fits _ _ c.requires.area c.requires.p_bound.0 c.requires.p_bound.1, c.width_of.ensures))

pub returns-then-i-width_of : goal.returns-then-i-width_of
returns-then-i-width_of c =
    λ S narrow z.
    rw c.row_place.ensures (shown_read _ S _ z.rest z.is _ _ _ c.requires.p_bound.0 c.requires.p_bound.1 (omega (arith, c.width_of.ensures, c.if-i-width_of.true)))

pub returns : goal.returns
returns c =
    λ S narrow z.
    sym (ap (number _) (narrow.past _ _ _ (omega (arith, c.width_of.ensures, c.if-i-width_of.false))) ∙ (laws-of _ c.requires.area.known).number-zero)
