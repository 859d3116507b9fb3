-- Rows as numbers: how long they are, and that they are symbols.
-- Assumes nothing.
use mathlib.Core.Path.{◌≡◌, sym, ap, ◌∙◌}
use mathlib.Core.Bool.{false}
use mathlib.Core.List.{List, map, ◌++◌}
use Prim.Native.Nat.{ℕ}
use lib.ListN.{length, take}
use lib.Seq.{take_at}
use Rattle.lists.proofs.Tables.{length-tab}
use Rattle.symbols.specs.Rule.{Known, symbols, symbol, any_beyond}
use Rattle.symbols.proofs.SymbolLists.{numbers-below}
use Rattle.curve.specs.Codes.{point_count}
use Rattle.curve.specs.Rows.{row_of}
use Rattle.encoder.specs.Encoding.{row_numbers}
use Rattle.encoder.proofs.RowNumbers.{row_number, row-numbers}

module _ (q : ℕ) (known : Known q) (u : ℕ) where
  -- a row has n symbols
  pub length-row_numbers : (message : List ℕ) → length (row_numbers q u message) ≡ point_count q
  length-row_numbers message = ap length (row-numbers q u message known) ∙ length-tab (point_count q) (row_number q u message)

  -- all of them symbols of the field
  pub row-symbols : (message : List ℕ) → any_beyond q (row_numbers q u message) ≡ false
  unfolding row_numbers
  row-symbols message = numbers-below q known (row_of (symbols q) q u (map (symbol q) message))

  -- the first n symbols of what encoding wrote
  pub row_first : (message sent rest : List ℕ) (n : ℕ) → n ≡ point_count q → sent ≡ row_numbers q u message ++ rest → take n sent ≡ row_numbers q u message
  row_first message sent rest n e w = rw w (take_at (row_numbers q u message) rest n (length-row_numbers message ∙ sym e))
