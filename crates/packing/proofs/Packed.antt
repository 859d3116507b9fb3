-- Packed symbols: how many bytes they are, and that packing undoes unpacking, and the other way round.
-- Assumes nothing.
use mathlib.Core.Path.{◌≡◌, ap, ◌∙◌}
use mathlib.Core.List.{List}
use Prim.Native.Nat.{ℕ, ◌+◌, ◌*◌, ◌/◌, ◌<◌}
use native.Mathlib.Omega.{arith}
use lib.ListN.{length, get_or}
use Rattle.lists.proofs.Tables.{length-tab, get_or-tab}
use Rattle.packing.specs.Packing.{symbol_in, packed_byte, packed}
use Rattle.packing.proofs.Unpacked.{symbol-even, symbol-odd, symbol_high, symbol_low, halves}

-- n bytes are packed
pub length-packed : (symbols : List ℕ) (n : ℕ) → length (packed symbols n) ≡ n
unfolding packed
length-packed symbols n = length-tab n (packed_byte symbols)

-- the symbol at a place of packed symbols is the one that was packed there
pub symbol-packed : (symbols : List ℕ) (n p : ℕ) → p < 2 * n → ((i : ℕ) → i < 2 * n → get_or symbols i 0 < 16)
    → symbol_in (packed symbols n) p ≡ get_or symbols p 0
unfolding packed packed_byte
symbol-packed symbols n p within small =
    let byte = get_or-tab n (packed_byte symbols) (p / 2) 0 (omega arith) in
    let low = small (2 * (p / 2) + 1) (omega arith) in
    halves p
    (λ even.
    let here : get_or symbols (2 * (p / 2)) 0 ≡ get_or symbols p 0 = ap (λ i. get_or symbols i 0) (omega arith) in
    symbol-even (packed symbols n) p even ∙ (rw byte (omega arith)))
    (λ odd.
    let here : get_or symbols (2 * (p / 2) + 1) 0 ≡ get_or symbols p 0 = ap (λ i. get_or symbols i 0) (omega arith) in
    symbol-odd (packed symbols n) p odd ∙ (rw byte (omega arith)))

-- the byte of two symbols that were unpacked is the byte that they are from
pub byte-back : (bytes symbols : List ℕ) (i : ℕ) → get_or symbols (2 * i) 0 ≡ symbol_in bytes (2 * i)
    → get_or symbols (2 * i + 1) 0 ≡ symbol_in bytes (2 * i + 1) → packed_byte symbols i ≡ get_or bytes i 0
unfolding packed_byte
byte-back bytes symbols i high low = omega (arith, high, low, symbol_high bytes i, symbol_low bytes i)
