-- The symbols of a row of a block, and of a message of a payload, are those of the bytes where they stand.
-- Assumes nothing.
use mathlib.Core.Path.{◌≡◌}
use mathlib.Core.List.{List}
use Prim.Native.Nat.{ℕ, ◌+◌, ◌*◌}
use native.Mathlib.Omega.{arith}
use lib.ListN.{take, drop}
use lib.Seq.{drop-drop}
use Rattle.lists.proofs.Tables.{tab-same}
use Rattle.packing.specs.Packing.{unpacked}
use Rattle.packing.proofs.Unpacked.{symbol-of-part}
use Rattle.layout.specs.Layout.{row_length, message_length, symbol_place, block_row, payload_row}

-- row r of a block is what its 32 bytes from byte 8 + 32r on unpack to
pub row-part : (block : List ℕ) (r : ℕ) → block_row block r ≡ unpacked (take 32 (drop (8 + 32 * r) block)) row_length
unfolding block_row unpacked symbol_place
row-part block r =
    rw (← drop-drop (32 * r) 8 block)
    (tab-same 64 _ _ (λ j within. symbol-of-part (drop 8 block) (32 * r) 32 j (64 * r + j) (omega arith) within))

-- message r of a payload is what its 20 bytes from byte 20r on unpack to
pub message-part : (payload : List ℕ) (r : ℕ) → payload_row payload r ≡ unpacked (take 20 (drop (20 * r) payload)) message_length
unfolding payload_row unpacked
message-part payload r =
    tab-same 40 _ _ (λ j within. symbol-of-part payload (20 * r) 20 j (40 * r + j) (omega arith) within)
