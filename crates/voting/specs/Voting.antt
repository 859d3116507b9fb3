-- What voting leaves: the votes after all steps, and a work area whose part is zero. Document 01, "The decoder's steps" (its end)
-- and "Lent areas".
-- Assumes nothing.
use Rattle.std.specs.Prelude.{List, ◌++◌, ℕ, drop, replicate}
use Rattle.published.specs.Start.{step_count}
use Rattle.steps.specs.Stop.{votes_after}

-- the votes after all steps
unfoldable pub voted : ℕ → ℕ → List ℕ → List ℕ
voted q u row = votes_after q u row (step_count q)

-- a list whose first n places are zero
unfoldable pub cleared : ℕ → List ℕ → List ℕ
cleared n l = replicate n 0 ++ drop n l
