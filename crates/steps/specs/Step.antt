-- What one step does to a work area that holds a picture. Document 01, "The decoder's steps".
-- Assumes nothing.
use Rattle.std.specs.Prelude.{◌≡◌, List, ◌++◌, ℕ, ◌+◌, ◌-◌}
use Rattle.symbols.specs.Rule.{symbols, number}
use Rattle.published.specs.Start.{start_weight}
use Rattle.published.specs.Meaning.{vote_on}
use Rattle.workarea.specs.Area.{cells_of}
use Rattle.workarea.specs.Heights.{WithinHeights}
use Rattle.steps.specs.Stop.{state_after, picture_after}

-- w of the step after t steps, as a number; that step is at the start weight less t
unfoldable pub vote_after : ℕ → ℕ → List ℕ → ℕ → ℕ
vote_after q u row t = number q (vote_on (symbols q) q u (start_weight q - t) (state_after q u row t).polys)

-- the step after t steps on a row gave this vote and left these bytes, in which `rest` comes after the picture
pub record Stepped (q u : ℕ) (row : List ℕ) (t : ℕ) (rest : List ℕ) (vote : ℕ) (work : List ℕ) : Type 0 where
  pub picture : work ≡ picture_after q u row (t + 1) ++ rest
  pub vote-is : vote ≡ vote_after q u row t

-- these heights bound the upper parts after t steps on a row
abbrev pub BelowAfter : ℕ → ℕ → List ℕ → ℕ → List ℕ → Type 0
BelowAfter q u row t heights = WithinHeights q heights (cells_of q (state_after q u row t).polys)
