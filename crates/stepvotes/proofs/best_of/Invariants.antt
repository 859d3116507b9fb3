-- Each turn compares the next symbol with the best so far.
-- Assumes nothing.
use mathlib.Core.Path.{◌≡◌}
use Prim.Native.Nat.{ℕ, ◌-◌, ◌<◌}
use lib.ListN.{get_or}
use Rattle.symbols.specs.Sizes.{most_symbols}
use Rattle.published.specs.Pairing.{best}
use Rattle.stepvotes.proofs.best_of.Given as goal

abbrev pub invariant-loop-a : goal.invariant-loop-a
invariant-loop-a l =
    (l.winner < l.a) × ((f : ℕ → ℕ) → ((b : ℕ) → b < most_symbols → get_or l.scores b 0 ≡ f b) → l.winner ≡ best f (l.a - 1))
