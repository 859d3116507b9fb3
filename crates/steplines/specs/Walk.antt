-- What the function that goes from step to step asks of the work area.
-- Assumes nothing.
use Rattle.std.specs.Prelude.{List, ℕ}
use Rattle.workarea.specs.Area.{Starts, cells_of}
use Rattle.steps.specs.Stop.{state_after}

-- an area that shows the start of a row
pub record Started (q u : ℕ) (work : List ℕ) : Type 0 where
  pub row : List ℕ
  pub shows : Starts q work (cells_of q (state_after q u row 0).polys)
