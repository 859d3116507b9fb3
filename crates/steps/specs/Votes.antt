-- Where the votes stand in the output: each in its non-gap's place among the non-gaps, though the highest is voted first.
-- Document 01, "Lent areas", on the stop service.
-- Assumes nothing.
use Rattle.std.specs.Prelude.{true, false, List, ℕ, ◌-◌, length, set}
use Rattle.lists.specs.Tables.{tab, keep}
use Rattle.curve.specs.Ranks.{rank}
use Rattle.published.specs.Start.{start_weight}
use Rattle.published.specs.Pairing.{is_voted}

-- how many of the steps at weights below n vote
unfoldable pub votes_below : ℕ → ℕ → ℕ → ℕ
votes_below q u n = length (keep (is_voted q u) (tab n (λ s. s)))

-- the votes with that of the step after `done` steps in its place
unfoldable pub noted : ℕ → ℕ → ℕ → ℕ → List ℕ → List ℕ
noted q u done vote votes =
    elim (is_voted q u (start_weight q - done)) [ true ↦ set votes (rank q (start_weight q - done)) vote | false ↦ votes ]
