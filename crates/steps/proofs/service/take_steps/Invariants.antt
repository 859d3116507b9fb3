-- After each turn the area holds the picture, and the votes are those, of one step more.
-- Assumes nothing.
use mathlib.Core.Path.{◌≡◌}
use mathlib.Core.List.{List, ◌++◌}
use Prim.Native.Nat.{ℕ, ◌-◌}
use lib.ListN.{length}
use Rattle.published.specs.Start.{step_count}
use Rattle.workarea.specs.Heights.{Heights}
use Rattle.steps.specs.Step.{BelowAfter}
use Rattle.steps.specs.Stop.{picture_after, votes_after}
use Rattle.steps.specs.Votes.{votes_below}
use Rattle.steps.proofs.service.take_steps.Given as goal

abbrev pub invariant-loop-done : goal.invariant-loop-done
invariant-loop-done l =
    (length l.work ≡ length l.initial.work) × (length l.votes ≡ length l.initial.votes) × (l.left ≡ votes_below l.q l.u (step_count l.q - l.done)) × Heights l.q l.heights
    × ((row rest rest' : List ℕ) → l.initial.work ≡ picture_after l.q l.u row 0 ++ rest → l.initial.votes ≡ votes_after l.q l.u row 0 ++ rest'
    → (l.work ≡ picture_after l.q l.u row l.done ++ rest) × (l.votes ≡ votes_after l.q l.u row l.done ++ rest') × BelowAfter l.q l.u row l.done l.heights)
