-- Each turn finds the numbers of one pair more.
-- Assumes nothing.
use mathlib.Core.Path.{◌≡◌}
use Prim.Native.Nat.{ℕ, ◌<◌}
use lib.ListN.{length}
use Rattle.symbols.specs.Sizes.{most_q}
use Rattle.symbols.specs.Rule.{symbols}
use Rattle.published.specs.Start.{Polynomials}
use Rattle.published.specs.Pairing.{is_voted, pairing}
use Rattle.workarea.specs.Area.{cells_of, Starts, Narrow}
use Rattle.workarea.specs.Heights.{WithinHeights}
use Rattle.pair.specs.Pairs.{Held, NumbersOf, pair_at}
use Rattle.steppairs.proofs.pairs.pairs_of.Given as goal

abbrev pub invariant-loop-i : goal.invariant-loop-i
invariant-loop-i l =
    let q = l.products.q in
    (length l.pairs ≡ most_q) × ((j : ℕ) → j < l.i → Held q (pair_at l.pairs j))
    × ((S : Polynomials (symbols q) q) (u : ℕ) → Narrow q (cells_of q S) → WithinHeights q l.heights.each (cells_of q S) → Starts q l.work (cells_of q S) → is_voted q u l.s ≡ l.voted
    → (j : ℕ) → j < l.i → NumbersOf q (pair_at l.pairs j) (pairing (symbols q) q u l.s S j))
