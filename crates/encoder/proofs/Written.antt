-- What is written of a row, column after column.
-- Assumes nothing.
use mathlib.Core.Path.{◌≡◌, sym, ap, ◌∙◌}
use mathlib.Core.List.{List, ◌++◌}
use Prim.Native.Nat.{ℕ, ◌+◌, ◌*◌, ◌/◌, ◌≤◌, ◌<◌}
use native.Mathlib.Nat.{zero-add, add-mul, one-mul, div-lt_iff_lt-mul}
use native.Mathlib.Omega.{arith}
use lib.ListN.{length, get_or, drop, replicate}
use Rattle.algebra.specs.Functions.{Fn, value_in}
use Rattle.lists.specs.Tables.{put}
use Rattle.lists.proofs.Put.{put_in, put_same, put-parts, put_front}
use Rattle.symbols.specs.Sizes.{most_q, most_symbols}
use Rattle.symbols.specs.Rule.{Known, symbols, symbol}
use Rattle.symbols.proofs.Bytes.{known-positive, known-high, square-small}
use Rattle.curve.specs.Codes.{point_count}
use Rattle.encoder.specs.Encoding.{row_numbers}
use Rattle.evaluation.specs.Stages.{column_number, fibre_number}
use Rattle.symbols.specs.Tables.{Holds}
use Rattle.encoder.proofs.RowNumbers.{row_number, function, stages, row-numbers}

-- the values of a column are the numbers of symbols
pub column-holds : (q : ℕ) → Known q → (f : Fn (symbols q) q) (width x : ℕ) (values : List ℕ)
    → values ≡ put (replicate most_q 0) 0 q (column_number q f width x)
    → Holds q values q (λ j. value_in (symbols q) q width (f j) (symbol q x))
unfolding column_number
column-holds q k f width x values e =
    record {
      at = λ i h.
          ap (λ l. get_or l i 0) e
          ∙ ap (λ n. get_or (put (replicate most_q 0) 0 q (column_number q f width x)) n 0) (sym (zero-add i))
          ∙ put_in (replicate most_q 0) 0 q (column_number q f width x) i 0 h (omega (arith, known-high q k));
    }

-- no power of x fills more than sixteen places
pub width_small : (q u : ℕ) → Known q → u < point_count q → u / q + 1 ≤ most_symbols
unfolding point_count
width_small q u k h = omega (arith, (div-lt_iff_lt-mul (known-positive q k)).1 h, square-small q k)

module _ (q u : ℕ) (message : List ℕ) (k : Known q) where
  -- one column more
  pub next-column : u < point_count q → (row : List ℕ) (a : ℕ) → a < q * q
      → put (put row 0 (a * q) (row_number q u message)) (a * q) q
      (fibre_number q (λ j. value_in (symbols q) q (u / q + 1) (function q u message k j) (symbol q a)) a)
      ≡ put row 0 ((a + 1) * q) (row_number q u message)
  next-column small row a ha =
      let start : a * q ≡ 0 + a * q = omega arith in
      let end : a * q + q ≡ (a + 1) * q = rw (add-mul, one-mul) in
      put_same (put row 0 (a * q) (row_number q u message)) (a * q) q _ (λ b. row_number q u message (a * q + b))
      (λ b hb. stages q u message k small a b ha hb)
      ∙ ap (λ n. put (put row 0 (a * q) (row_number q u message)) n q (λ b. row_number q u message (a * q + b))) start
      ∙ put-parts row 0 (a * q) q (row_number q u message)
      ∙ ap (λ n. put row 0 n (row_number q u message)) end

  -- all columns are the row, and the rest stays
  pub all-columns : (row : List ℕ) → point_count q ≤ length row
      → put row 0 (q * q * q) (row_number q u message) ≡ row_numbers q u message ++ drop (point_count q) row
  unfolding point_count
  all-columns row room =
      put_front 0 row (q * q * q) (row_number q u message) room
      ∙ ap (λ l. l ++ drop (point_count q) row) (sym (row-numbers q u message k))
