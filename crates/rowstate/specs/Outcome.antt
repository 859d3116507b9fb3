-- The record of one row by what reading it answered. Document 01, "Block and verification".
-- Assumes nothing.
use Rattle.std.specs.Prelude.{Bool, true, false, ℕ, ◌≤◌, Result, Ok, Err}
use Rattle.refusals.specs.declared.Refusal.{Refusal}
use Rattle.answers.specs.declared.Record.{Record}
use Rattle.layout.specs.Layout.{tape_reach}

-- state 0 for the same message, 1 for another one, 2 where nothing was accepted; with an acceptance goes its count, else 0
unfoldable pub outcome : Result ℕ Refusal → Bool → Record
outcome (Ok count) equal = elim equal [ true ↦ record { state = 0; count = count } | false ↦ record { state = 1; count = count } ]
outcome (Err why) equal = record { state = 2; count = 0 }

-- the count of an acceptance is within the reach of the tape code
abbrev pub Reached : Result ℕ Refusal → Type 0
Reached (Ok count) = count ≤ tape_reach
Reached (Err why) = Unit {0}
