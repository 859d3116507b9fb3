-- Each turn does one pair more.
-- Assumes nothing.
use mathlib.Core.Path.{◌≡◌}
use Prim.Native.Nat.{ℕ, ◌<◌}
use lib.ListN.{length}
use Rattle.lists.specs.Tables.{tab}
use Rattle.symbols.specs.Rule.{symbols, Sym, number}
use Rattle.published.specs.Start.{Polynomials}
use Rattle.published.specs.Pairing.{Pairing}
use Rattle.published.specs.Steps.{updated}
use Rattle.workarea.specs.Area.{cells_of}
use Rattle.workarea.specs.Heights.{WithinHeights, BecomesBelow}
use Rattle.pair.specs.Pairs.{NumbersOf, pair_at}
use Rattle.updates.proofs.change_all.Given as goal

abbrev pub invariant-loop-i : goal.invariant-loop-i
invariant-loop-i l =
    let q = l.products.q in
    (length l.work ≡ length l.initial.work) × (l.heights.q ≡ l.initial.heights.q)
    × ((S : Polynomials (symbols q) q) (ω : Sym q) (P : ℕ → Pairing (symbols q) q) → l.vote ≡ number q ω
    → ((j : ℕ) → j < q → NumbersOf q (pair_at l.fn.pairs j) (P j)) → WithinHeights q l.initial.heights.each (cells_of q S)
    → BecomesBelow q l.initial.work l.work S (updated (symbols q) q ω (tab q P) S l.i) l.heights.each)
