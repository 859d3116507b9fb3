-- Where a symbol stands is a bijection: each symbol of R rows has one place below 64R, and each such place one symbol.
-- Assumes nothing.
use mathlib.Core.Path.{◌≡◌}
use Prim.Native.Nat.{ℕ, ◌*◌, ◌<◌}
use native.Mathlib.Omega.{arith}
use Rattle.layout.specs.Layout.{row_length, symbol_place, row_at, column_at}

-- `symbol_place` takes the symbols of R rows to the places below 64R, and `row_at` and `column_at` take them back
pub record Bijection (R : ℕ) : Type 0 where
  pub place-below : (r j : ℕ) → r < R → j < row_length → symbol_place r j < row_length * R
  pub row_below : (p : ℕ) → p < row_length * R → row_at p < R
  pub column-below : (p : ℕ) → p < row_length * R → column_at p < row_length
  pub row_back : (r j : ℕ) → r < R → j < row_length → row_at (symbol_place r j) ≡ r
  pub column-back : (r j : ℕ) → r < R → j < row_length → column_at (symbol_place r j) ≡ j
  pub place-back : (p : ℕ) → p < row_length * R → symbol_place (row_at p) (column_at p) ≡ p

pub bijection : (R : ℕ) → Bijection R
unfolding symbol_place row_at column_at
bijection R =
    record {
      place-below = λ r j hr hj. omega arith;
      row_below = λ p hp. omega arith;
      column-below = λ p hp. omega arith;
      row_back = λ r j hr hj. omega arith;
      column-back = λ r j hr hj. omega arith;
      place-back = λ p hp. omega arith;
    }
