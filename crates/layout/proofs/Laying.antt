-- The block of given rows: it is a block, and its rows are these.
-- Assumes nothing.
use mathlib.Core.Path.{◌≡◌, sym, ap, ap₂, ◌∙◌}
use mathlib.Core.Bool.{true}
use mathlib.Core.List.{List, []}
use Prim.Native.Nat.{ℕ, ◌+◌, ◌*◌, ◌≤◌, ◌<◌}
use native.Mathlib.Omega.{arith}
use lib.ListN.{length, get_or, take, drop, length-append, length-drop}
use lib.Seq.{take_at, drop-drop, get_or-take, get_or-drop, length-take-le}
use borrow.Author.Tests.{eq-eqb}
use Rattle.lists.specs.Tables.{tab}
use Rattle.lists.proofs.Tables.{get_or-tab, tab-is}
use Rattle.packing.specs.Packing.{symbol_in, packed_byte, packed}
use Rattle.layout.specs.Layout.{row_length, row_count, block_length, is_block, header_of, symbol_place, row_at, column_at}
use Rattle.layout.specs.Layout.{block_row, laid_symbol, block_of}
use Rattle.layout.proofs.Places.{bijection}
use Rattle.packing.proofs.Packed.{length-packed, symbol-packed}
use Rattle.layout.proofs.Headers.{header-length, behind-header, header-count, is-header}

-- rows that can be laid: each has 64 symbols, and a symbol is below 16
pub record Symbolic (rows : List (List ℕ)) : Type 0 where
  pub full : (r : ℕ) → r < length rows → length (get_or rows r []) ≡ row_length
  pub small : (r j : ℕ) → r < length rows → j < row_length → get_or (get_or rows r []) j 0 < 16

module _ (rows : List (List ℕ)) where
  -- the symbols behind the header, and their bytes
  abbrev laid : List ℕ
  laid = tab (row_length * length rows) (laid_symbol rows)

  abbrev body : List ℕ
  body = packed laid (32 * length rows)

  -- as many bytes as R rows take
  pub laid-length : length (block_of rows) ≡ block_length (length rows)
  unfolding block_of
  laid-length =
      length-append (header_of (length rows)) body ∙ ap₂ ◌+◌ (header-length (length rows)) (length-packed laid (32 * length rows))

  -- its header stands first
  pub laid-header : take 8 (block_of rows) ≡ header_of (length rows)
  unfolding block_of
  laid-header = take_at (header_of (length rows)) body 8 (header-length (length rows))

  -- R is told
  pub laid-count : length rows ≤ 1024 → row_count (block_of rows) ≡ length rows
  unfolding block_of
  laid-count most = header-count (length rows) body most

  -- it is a block
  pub laid-block : 1 ≤ length rows → length rows ≤ 1024 → is_block (block_of rows) ≡ true
  unfolding is_block block_of
  laid-block some most =
      let long : length (block_of rows) ≡ block_length (row_count (block_of rows)) = laid-length ∙ ap block_length (sym (laid-count most)) in
      rw (eq-eqb (length (block_of rows)) (block_length (row_count (block_of rows))) long) (is-header (length rows) body most some)

  -- a symbol behind the header, by the row and the column of its place
  symbol-laid : (r j : ℕ) → r < length rows → j < row_length → get_or laid (symbol_place r j) 0 ≡ get_or (get_or rows r []) j 0
  unfolding laid_symbol
  symbol-laid r j hr hj =
      let b = bijection (length rows) in
      get_or-tab (row_length * length rows) (laid_symbol rows) (symbol_place r j) 0 (b.place-below r j hr hj)
      ∙ ap₂ (λ a c. get_or (get_or rows a []) c 0) (b.row_back r j hr hj) (b.column-back r j hr hj)

  -- all of them are symbols
  laid-small : Symbolic rows → (p : ℕ) → p < row_length * length rows → get_or laid p 0 < 16
  laid-small s p hp =
      let b = bijection (length rows) in
      let r = b.row_below p hp in
      let j = b.column-below p hp in
      let here : get_or laid p 0 ≡ get_or (get_or rows (row_at p) []) (column_at p) 0 =
      ap (λ i. get_or laid i 0) (sym (b.place-back p hp)) ∙ symbol-laid (row_at p) (column_at p) r j
      in
      rw here (s.small (row_at p) (column_at p) r j)

  -- its rows are these
  pub row_laid : Symbolic rows → (r : ℕ) → r < length rows → block_row (block_of rows) r ≡ get_or rows r []
  unfolding block_row block_of
  row_laid s r hr =
      sym
      (tab-is 0 row_length (λ j. symbol_in (drop 8 (block_of rows)) (symbol_place r j)) (get_or rows r []) (s.full r hr) (λ j hj.
      sym
      (ap (λ (l : List ℕ). symbol_in l (symbol_place r j)) (behind-header (length rows) body)
      ∙ symbol-packed laid (32 * length rows) (symbol_place r j) (omega (arith, (bijection (length rows)).place-below r j hr hj))
      (λ p hp. laid-small s p (omega arith))
      ∙ symbol-laid r j hr hj)))

  -- byte i of row r, 32r bytes behind the header
  byte-laid : (r i : ℕ) → r < length rows → i < 32 → get_or body (32 * r + i) 0 ≡ packed_byte (get_or rows r []) i
  unfolding packed packed_byte symbol_place
  byte-laid r i hr hi =
      let high : 2 * (32 * r + i) ≡ symbol_place r (2 * i) = omega arith in
      let low : 2 * (32 * r + i) + 1 ≡ symbol_place r (2 * i + 1) = omega arith in
      get_or-tab (32 * length rows) (packed_byte laid) (32 * r + i) 0 (omega arith)
      ∙ ap₂ (λ a b. a * 16 + b)
      (ap (λ p. get_or laid p 0) high ∙ symbol-laid r (2 * i) hr (omega arith))
      (ap (λ p. get_or laid p 0) low ∙ symbol-laid r (2 * i + 1) hr (omega arith))

  -- row r stands packed in the 32 bytes from byte 8 + 32r on
  pub row-bytes : (r : ℕ) → r < length rows → take 32 (drop (8 + 32 * r) (block_of rows)) ≡ packed (get_or rows r []) 32
  unfolding packed block_of
  row-bytes r hr =
      let rest = drop (32 * r) body in
      let here : drop (8 + 32 * r) (block_of rows) ≡ rest =
      sym (drop-drop (32 * r) 8 (block_of rows)) ∙ ap (drop (32 * r)) (behind-header (length rows) body)
      in
      let long : 32 ≤ length rest = omega (arith, length-drop (32 * r) body, length-packed laid (32 * length rows)) in
      ap (take 32) here
      ∙ tab-is 0 32 (packed_byte (get_or rows r [])) (take 32 rest) (length-take-le 32 rest long) (λ i hi.
      get_or-take 32 rest i 0 hi ∙ get_or-drop (32 * r) body i 0 ∙ byte-laid r i hr hi)
