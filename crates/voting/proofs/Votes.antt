-- Votes as numbers: how many they are, and that they are symbols.
-- Assumes nothing.
use mathlib.Core.Path.{◌≡◌, sym, ap, ◌∙◌}
use mathlib.Core.Bool.{false}
use mathlib.Core.List.{List, ◌++◌}
use Prim.Native.Nat.{ℕ}
use lib.ListN.{length, take, get_or, length-map}
use lib.Seq.{take_at}
use Rattle.symbols.specs.Rule.{Known, symbols, number, any_beyond}
use Rattle.symbols.proofs.SymbolLists.{numbers-below}
use Rattle.curve.specs.Codes.{nongaps, dimension}
use Rattle.published.specs.Start.{step_count}
use Rattle.published.specs.Steps.{message_of}
use Rattle.steps.specs.Stop.{state_after, votes_after}
use Rattle.voting.specs.Voting.{voted}

module _ (q u : ℕ) where
  -- k symbols are voted
  pub voted-count : (row : List ℕ) → length (voted q u row) ≡ dimension q u
  unfolding voted votes_after message_of dimension
  voted-count row =
      length-map (message_of (symbols q) q u (state_after q u row (step_count q)).votes) (number q)
      ∙ length-map (nongaps q u) (λ s. get_or (state_after q u row (step_count q)).votes s (symbols q).𝟘)

  -- all of them symbols of the field
  pub voted-symbols : Known q → (row : List ℕ) → any_beyond q (voted q u row) ≡ false
  unfolding voted votes_after
  voted-symbols known row = numbers-below q known (message_of (symbols q) q u (state_after q u row (step_count q)).votes)

  -- the votes after as many steps as there are
  pub voted-after : (row votes rest : List ℕ) (t : ℕ) → t ≡ step_count q → votes ≡ votes_after q u row t ++ rest → votes ≡ voted q u row ++ rest
  unfolding voted
  voted-after row votes rest t e w = w ∙ ap (λ n. votes_after q u row n ++ rest) e

  -- the first k symbols of what voting wrote
  pub voted-first : (row votes rest : List ℕ) (k : ℕ) → k ≡ dimension q u → votes ≡ voted q u row ++ rest → take k votes ≡ voted q u row
  voted-first row votes rest k e w = rw w (take_at (voted q u row) rest k (voted-count row ∙ sym e))
