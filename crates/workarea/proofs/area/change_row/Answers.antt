-- The bytes that are reached are those of the row with the multiple added or subtracted, and the others stay.
-- Assumes nothing.
use mathlib.Core.Path.{◌∙◌}
use native.Mathlib.Omega.{arith}
use Rattle.workarea.proofs.Cells.{row_fits}
use Rattle.workarea.proofs.RowLaws.{signed, row-law}
use Rattle.workarea.proofs.area.change_row.Goals as goal

pub change_bytes-requires-clause-in_area : goal.change_bytes-requires-clause-in_area
change_bytes-requires-clause-in_area c =
    let rows = c.requires.two_rows in
    omega (arith, row_fits _ _ c.requires.area rows.to-polynomial rows.to_row, row_fits _ _ c.requires.area rows.from-polynomial rows.from_row, c.run_of-run.ensures)

pub returns : goal.returns
returns c =
    λ ρ m. record {
      shows = λ S rest e.
          let known = c.requires.area.known in
          let rows = c.requires.two_rows in
          let run = c.run_of-run.ensures in
          c.change_bytes.ensures
          ∙ row-law _ known S _ rest e _ _ _ _ rows.to-polynomial rows.to_row rows.from-polynomial rows.from_row _ ρ m
          _ _ (signed _ known c.args.sign) _ _ _ _ _ run.other run.which;
    }
