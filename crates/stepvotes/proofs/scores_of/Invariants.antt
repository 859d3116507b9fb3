-- Each turn gives one pair's share; what a share is added to stays small.
-- Assumes nothing.
use mathlib.Core.Path.{◌≡◌}
use Prim.Native.Nat.{ℕ, ◌*◌, ◌≤◌, ◌<◌}
use lib.ListN.{length, get_or}
use Rattle.lists.specs.Tables.{tab}
use Rattle.symbols.specs.Sizes.{most_symbols, most_shift}
use Rattle.symbols.specs.Rule.{symbols}
use Rattle.published.specs.Pairing.{Pairing, score}
use Rattle.pair.specs.Pairs.{NumbersOf, pair_at}
use Rattle.stepvotes.proofs.scores_of.Given as goal

abbrev pub invariant-loop-pair : goal.invariant-loop-pair
invariant-loop-pair l =
    (length l.scores ≡ most_symbols) × ((a : ℕ) → get_or l.scores a 0 ≤ most_shift * l.pair-index)
    × ((P : ℕ → Pairing (symbols l.q) l.q) → ((j : ℕ) → j < l.q → NumbersOf l.q (pair_at l.fn.pairs j) (P j)) → (a : ℕ) → a < most_symbols → get_or l.scores a 0 ≡ score (symbols l.q) l.q (tab l.pair-index P) a)
