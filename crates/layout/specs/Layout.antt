-- A block and its payload as bytes: the header, where each symbol of a row stands, the rows of a block, and the block that has
-- given rows. Reading and writing go by the same definitions. Document 01, "Block and verification".
-- Assumes nothing.
use Rattle.std.specs.Prelude.{Bool, ◌&&◌, List, [], ◌∷◌, ◌++◌, ℕ, ◌+◌, ◌*◌, ◌/◌, ◌%◌, leb, eqb, length, get_or, drop}
use Rattle.lists.specs.Tables.{tab}
use Rattle.packing.specs.Packing.{symbol_in, packed}

-- the tape code: q = 4, u = 45, n = 64, k = 40, and it reaches 9 places
abbrev pub tape_q : ℕ
tape_q = 4

abbrev pub tape_u : ℕ
tape_u = 45

abbrev pub row_length : ℕ
row_length = 64

abbrev pub message_length : ℕ
message_length = 40

abbrev pub tape_reach : ℕ
tape_reach = 9

-- bytes of a row and of its message, which have two symbols each, and of the header; and the most rows that a block has
abbrev pub row_bytes : ℕ
row_bytes = row_length / 2

abbrev pub message_bytes : ℕ
message_bytes = message_length / 2

abbrev pub header_bytes : ℕ
header_bytes = 8

abbrev pub most_rows : ℕ
most_rows = 1024

-- the number that two bytes are, the high one first, and that four bytes are
unfoldable pub two_bytes : List ℕ → ℕ → ℕ
two_bytes bytes at = get_or bytes at 0 * 256 + get_or bytes (at + 1) 0

unfoldable pub four_bytes : List ℕ → ℕ → ℕ
four_bytes bytes at = two_bytes bytes at * 65536 + two_bytes bytes (at + 2)

-- the two bytes that a number becomes, and the four
unfoldable pub in_two_bytes : ℕ → List ℕ
in_two_bytes n = n / 256 % 256 ∷ n % 256 ∷ []

unfoldable pub in_four_bytes : ℕ → List ℕ
in_four_bytes n = in_two_bytes (n / 65536) ++ in_two_bytes n

-- R, the count of rows, as the last two bytes of the header say it
unfoldable pub row_count : List ℕ → ℕ
row_count block = two_bytes block 6

-- bytes of a block of R rows
abbrev pub block_length : ℕ → ℕ
block_length R = header_bytes + row_bytes * R

-- whether the first 8 bytes are a header: the length of what follows its own 4 bytes, version 1, u, and R from 1 to 1,024
unfoldable pub is_header : List ℕ → Bool
is_header block =
    eqb (four_bytes block 0) (4 + row_bytes * row_count block)
    && (eqb (get_or block 4 0) 1
    && (eqb (get_or block 5 0) tape_u
    && (leb 1 (row_count block) && leb (row_count block) most_rows)))

-- a block: a header, and behind it R rows and no byte more
unfoldable pub is_block : List ℕ → Bool
is_block block = eqb (length block) (block_length (row_count block)) && is_header block

-- the header of a block of R rows
unfoldable pub header_of : ℕ → List ℕ
header_of R = in_four_bytes (4 + row_bytes * R) ++ (1 ∷ tape_u ∷ in_two_bytes R)

-- where symbol j of row r stands among the symbols behind the header
unfoldable pub symbol_place : ℕ → ℕ → ℕ
symbol_place r j = row_length * r + j

-- and whose symbol stands at a place: the row's number, and the symbol's place in the row
unfoldable pub row_at : ℕ → ℕ
row_at place = place / row_length

unfoldable pub column_at : ℕ → ℕ
column_at place = place % row_length

-- the symbols of row r of a block
unfoldable pub block_row : List ℕ → ℕ → List ℕ
block_row block r = tab row_length (λ j. symbol_in (drop header_bytes block) (symbol_place r j))

-- the message of row r: a payload has 20 bytes for each row
unfoldable pub payload_row : List ℕ → ℕ → List ℕ
payload_row payload r = tab message_length (λ j. symbol_in payload (message_length * r + j))

-- the symbol at a place where these rows are laid
unfoldable pub laid_symbol : List (List ℕ) → ℕ → ℕ
laid_symbol rows place = get_or (get_or rows (row_at place) []) (column_at place) 0

-- the block that has these rows
unfoldable pub block_of : List (List ℕ) → List ℕ
block_of rows = header_of (length rows) ++ packed (tab (row_length * length rows) (laid_symbol rows)) (row_bytes * length rows)
