-- The lines of all steps. Document 01, the end of "Hand-worked table".
-- Assumes nothing.
use Rattle.std.specs.Prelude.{List, [], ◌++◌, ℕ, zero, suc, ◌-◌}
use Rattle.published.specs.Start.{start_weight}
use Rattle.steps.specs.Stop.{state_after}
use Rattle.stepline.specs.StepLine.{step_line}

-- the lines of the first t steps; step t + 1 is at the start weight less t
unfoldable pub step_lines : ℕ → ℕ → List ℕ → ℕ → List ℕ
step_lines q u row zero = []
step_lines q u row (suc t) = step_lines q u row t ++ step_line q u (start_weight q - t) (state_after q u row (suc t))
