-- How long the lines of steps are at most.
-- Assumes nothing.
use mathlib.Core.List.{List}
use Prim.Native.Nat.{ℕ, zero, suc, ◌*◌, ◌-◌, ◌≤◌}
use native.Mathlib.Nat.{suc-mul}
use native.Mathlib.Omega.{arith}
use lib.ListN.{length, length-append}
use Rattle.published.specs.Start.{start_weight}
use Rattle.steps.specs.Stop.{state_after}
use Rattle.stepline.specs.StepLine.{step_line, step_size}
use Rattle.stepline.proofs.Lengths.{length-step}
use Rattle.steplines.specs.StepLines.{step_lines}

-- no longer than as many lines of the longest step
pub length-steps : (q u : ℕ) (row : List ℕ) (t : ℕ) → length (step_lines q u row t) ≤ t * step_size q
unfolding step_lines
length-steps q u row zero = omega arith
length-steps q u row (suc t) =
    let s = start_weight q - t in
    let state = state_after q u row (suc t) in
    omega (
      arith,
      suc-mul t (step_size q),
      length-append (step_lines q u row t) (step_line q u s state),
      length-steps q u row t,
      length-step q u s (omega arith) state,
    )
