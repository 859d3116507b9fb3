-- Each turn subtracts one column more.
-- Assumes nothing.
use Rattle.workarea.specs.Area.{Turns}
use Rattle.startarea.specs.StartArea.{columns_of, rows_minus}
use Rattle.startarea.proofs.subtract_h.Given as goal

abbrev pub invariant-loop-a : goal.invariant-loop-a
invariant-loop-a l = Turns l.products.q l.initial.work l.work (rows_minus l.products.q l.products.q l.products.q l.products.q (columns_of l.products.q l.row l.a))
