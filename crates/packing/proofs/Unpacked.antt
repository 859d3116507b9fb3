-- Unpacked symbols: each stands in one half of its byte, a part of the bytes has a part of the symbols, and every symbol of bytes
-- is one of q = 4.
-- Assumes nothing.
use mathlib.Core.Path.{◌≡◌, refl, sym, ap, ◌∙◌}
use mathlib.Core.Bool.{Bool, true, false}
use mathlib.Core.List.{List, ◌++◌}
use Prim.Native.Nat.{ℕ, zero, suc, ◌+◌, ◌*◌, ◌/◌, ◌%◌, ◌<◌}
use native.Mathlib.Decide.{dec_le}
use native.Mathlib.Omega.{arith}
use lib.ListN.{length, get_or, take, drop, set, get_or-eq_default}
use lib.Seq.{get_or-take, get_or-drop}
use borrow.Author.Tests.{lt-leb, eq-eqb, ne_eqb}
use Rattle.lists.specs.Tables.{from, tab}
use Rattle.symbols.specs.Rule.{any_beyond}
use Rattle.packing.specs.Packing.{symbol_in, unpacked, packed_q}
use Rattle.lists.proofs.Tables.{length-tab}
use Rattle.lists.proofs.Filled.{fill-next, fill-all}

-- an even place has the high four bits of its byte
pub symbol-even : (bytes : List ℕ) (n : ℕ) → n % 2 ≡ 0 → symbol_in bytes n ≡ get_or bytes (n / 2) 0 / 16
unfolding symbol_in
symbol-even bytes n even =
    ap (λ (b : Bool). elim b [ true ↦ get_or bytes (n / 2) 0 / 16 | false ↦ get_or bytes (n / 2) 0 % 16 ])
    (eq-eqb (n % 2) 0 even)

-- an odd place the low four
pub symbol-odd : (bytes : List ℕ) (n : ℕ) → n % 2 ≡ 1 → symbol_in bytes n ≡ get_or bytes (n / 2) 0 % 16
unfolding symbol_in
symbol-odd bytes n odd =
    ap (λ (b : Bool). elim b [ true ↦ get_or bytes (n / 2) 0 / 16 | false ↦ get_or bytes (n / 2) 0 % 16 ])
    (ne_eqb (n % 2) 0 (λ even. omega arith))

-- a place is even or odd
pub halves : {P : Type 0} (n : ℕ) → (n % 2 ≡ 0 → P) → (n % 2 ≡ 1 → P) → P
halves n even odd = elim (dec_le 1 (n % 2)) [ yes l ↦ odd (omega arith) | no l ↦ even (omega arith) ]

-- the first symbol of a byte is its high four bits
pub symbol_high : (bytes : List ℕ) (i : ℕ) → symbol_in bytes (2 * i) ≡ get_or bytes i 0 / 16
symbol_high bytes i =
    let d : 2 * i / 2 ≡ i = omega arith in
    symbol-even bytes (2 * i) (omega arith) ∙ (rw d)

-- and the second its low four bits
pub symbol_low : (bytes : List ℕ) (i : ℕ) → symbol_in bytes (2 * i + 1) ≡ get_or bytes i 0 % 16
symbol_low bytes i =
    let d : (2 * i + 1) / 2 ≡ i = omega arith in
    symbol-odd bytes (2 * i + 1) (omega arith) ∙ (rw d)

-- n symbols are unpacked
pub length-unpacked : (bytes : List ℕ) (n : ℕ) → length (unpacked bytes n) ≡ n
unfolding unpacked
length-unpacked bytes n = length-tab n (symbol_in bytes)

-- one byte more is unpacked by two stores
pub unpack-next : (bytes l filled : List ℕ) (i : ℕ) → 2 * i + 1 < length l
    → filled ≡ tab (2 * i) (symbol_in bytes) ++ drop (2 * i) l
    → set (set filled (2 * i) (get_or bytes i 0 / 16)) (2 * i + 1) (get_or bytes i 0 % 16)
    ≡ tab (2 * (i + 1)) (symbol_in bytes) ++ drop (2 * (i + 1)) l
unpack-next bytes l filled i within is =
    let n : 2 * (i + 1) ≡ 2 * i + 1 + 1 = omega arith in
    let first = rw (symbol_high bytes i) at (fill-next (symbol_in bytes) (2 * i) l (omega arith)) in
    let second = rw (symbol_low bytes i) at (fill-next (symbol_in bytes) (2 * i + 1) l within) in
    rw (is, n, first) second

-- when every byte is unpacked, the list is the bytes' symbols
pub unpack-all : (bytes l filled : List ℕ) (i : ℕ) → length l ≡ 2 * i
    → filled ≡ tab (2 * i) (symbol_in bytes) ++ drop (2 * i) l → filled ≡ unpacked bytes (length l)
unfolding unpacked
unpack-all bytes l filled i long is = rw long (is ∙ fill-all (symbol_in bytes) (2 * i) l (omega arith))

-- a part of m bytes from byte `at` on has the symbols from 2·at on
pub symbol-of-part : (bytes : List ℕ) (at m j place : ℕ) → place ≡ 2 * at + j → j < 2 * m
    → symbol_in bytes place ≡ symbol_in (take m (drop at bytes)) j
symbol-of-part bytes at m j place is within =
    let d : place / 2 ≡ at + j / 2 = omega arith in
    let b : get_or (take m (drop at bytes)) (j / 2) 0 ≡ get_or bytes (at + j / 2) 0 =
    get_or-take m (drop at bytes) (j / 2) 0 (omega arith) ∙ get_or-drop at bytes (j / 2) 0
    in
    halves j
    (λ even. symbol-even bytes place (omega arith) ∙ (rw (d, ← b)) ∙ sym (symbol-even (take m (drop at bytes)) j even))
    (λ odd. symbol-odd bytes place (omega arith) ∙ (rw (d, ← b)) ∙ sym (symbol-odd (take m (drop at bytes)) j odd))

-- a symbol of bytes is below 16
symbol-below : (bytes : List ℕ) (n : ℕ) → get_or bytes (n / 2) 0 < 256 → symbol_in bytes n < 16
symbol-below bytes n byte =
    halves n (λ even. omega (arith, symbol-even bytes n even)) (λ odd. omega (arith, symbol-odd bytes n odd))

-- a table of numbers below 16 has no number beyond
none_from : (f : ℕ → ℕ) (i n : ℕ) → ((j : ℕ) → f j < 16) → any_beyond packed_q (from i n f) ≡ false
unfolding any_beyond from
none_from f i zero below = refl
none_from f i (suc n) below = rw (lt-leb 16 (f i) (below i)) (none_from f (suc i) n below)

-- past the end there are zeros
byte-anywhere : (bytes : List ℕ) → ((i : ℕ) → i < length bytes → get_or bytes i 0 < 256) → (i : ℕ) → get_or bytes i 0 < 256
byte-anywhere bytes byte i =
    elim (dec_le (length bytes) i) [
      | yes past ↦ omega (arith, get_or-eq_default bytes 0 past)
      | no within ↦ byte i (omega arith)
    ]

-- the symbols of bytes are all symbols of q = 4
pub none-beyond : (bytes : List ℕ) (n : ℕ) → ((i : ℕ) → i < length bytes → get_or bytes i 0 < 256)
    → any_beyond packed_q (unpacked bytes n) ≡ false
unfolding unpacked tab
none-beyond bytes n byte = none_from (symbol_in bytes) 0 n (λ j. symbol-below bytes j (byte-anywhere bytes byte (j / 2)))
