-- The row that a message of a payload becomes, as symbols and as the bytes that are laid. Document 02, Wish 1.
-- Assumes nothing.
use Rattle.std.specs.Prelude.{List, ℕ}
use Rattle.encoder.specs.Encoding.{row_numbers}
use Rattle.packing.specs.Packing.{unpacked, packed}
use Rattle.layout.specs.Layout.{tape_q, tape_u, message_length, row_bytes, payload_row}

-- the row that message r of a payload becomes
unfoldable pub code_row : List ℕ → ℕ → List ℕ
code_row payload r = row_numbers tape_q tape_u (payload_row payload r)

-- what one message of 20 bytes becomes: the 32 bytes of its row
unfoldable pub packed_row : List ℕ → List ℕ
packed_row original = packed (row_numbers tape_q tape_u (unpacked original message_length)) row_bytes
