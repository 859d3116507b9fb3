-- `ordinates::norm` meets its contract. The loop's invariant: the power reached. Assumes nothing.
use mathlib.Core.Path.{◌≡◌}
use Prim.Native.Nat.{ℕ}
use Rattle.algebra.specs.Symbols.{power}
use Rattle.symbols.specs.Rule.{symbols, number, symbol}
use Rattle.symbols.specs.Tables.{product_row}
use Rattle.ordinates.proofs.norm.Given as goal

abbrev pub invariant-loop : goal.invariant-loop
invariant-loop l = (x : ℕ) → l.products ≡ product_row l.q x → l.value ≡ number l.q (power (symbols l.q) (symbol l.q x) l.counter)
