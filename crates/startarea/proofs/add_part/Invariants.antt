-- From the highest power down, each turn adds one term and makes the next one.
-- Assumes nothing.
use mathlib.Core.Path.{◌≡◌}
use Prim.Native.Nat.{ℕ, ◌-◌}
use lib.ListN.{length}
use Rattle.algebra.specs.Symbols.{power}
use Rattle.symbols.specs.Sizes.{most_symbols}
use Rattle.symbols.specs.Rule.{Sym, symbols, number, symbol}
use Rattle.symbols.specs.Tables.{product_row, Holds}
use Rattle.startarea.proofs.StartParts.{Added}
use Rattle.startarea.proofs.add_part.Given as goal

abbrev pub invariant-loop-i : goal.invariant-loop-i
invariant-loop-i l =
    (length l.result ≡ most_symbols)
    × ((a : ℕ) (F : ℕ → Sym l.q) → l.products ≡ product_row l.q a → Holds l.q l.initial.result l.n F
    → (l.term ≡ number l.q ((symbols l.q).◌⊗◌ (symbol l.q l.factor) (power (symbols l.q) (symbol l.q a) (l.n - l.i))))
    × Added l.q l.n (symbol l.q a) (symbol l.q l.factor) F l.result l.i)
