-- What the line of a step asks of the work area.
-- Assumes nothing.
use Rattle.std.specs.Prelude.{◌≡◌, cond, List, ℕ, ◌+◌, ◌-◌, ltb}
use Rattle.symbols.specs.Rule.{symbols}
use Rattle.published.specs.Steps.{State}
use Rattle.workarea.specs.Area.{Starts, cells_of}
use Rattle.stepline.specs.StepLine.{vote_at}

-- the polynomial that has its leading term in row r of the area: f_r in an upper row, g_(r-q) in a lower one
unfoldable pub leader : ℕ → ℕ → ℕ
leader q r = cond (ltb r q) (q + r) (r - q)

-- an area that shows a state after step s, whose vote is this one
pub record Shown (q s vote : ℕ) (work : List ℕ) : Type 0 where
  pub state : State (symbols q) q
  pub shows : Starts q work (cells_of q state.polys)
  pub voted : vote ≡ vote_at q s state
