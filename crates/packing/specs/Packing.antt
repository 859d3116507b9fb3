-- Two symbols in a byte: the symbols that bytes hold, and the bytes that symbols become. Document 01, "Block and verification".
-- Assumes nothing.
use Rattle.std.specs.Prelude.{true, false, List, ℕ, ◌+◌, ◌*◌, ◌/◌, ◌%◌, eqb, get_or}
use Rattle.lists.specs.Tables.{tab}

-- the q whose symbols fill four bits
abbrev pub packed_q : ℕ
packed_q = 4

-- symbol n of bytes: of a byte's two symbols the high four bits are the first
unfoldable pub symbol_in : List ℕ → ℕ → ℕ
symbol_in bytes n = elim (eqb (n % 2) 0) [ true ↦ get_or bytes (n / 2) 0 / 16 | false ↦ get_or bytes (n / 2) 0 % 16 ]

-- the first n symbols of bytes
unfoldable pub unpacked : List ℕ → ℕ → List ℕ
unpacked bytes n = tab n (symbol_in bytes)

-- byte i of symbols, two of them in it
unfoldable pub packed_byte : List ℕ → ℕ → ℕ
packed_byte symbols i = get_or symbols (2 * i) 0 * 16 + get_or symbols (2 * i + 1) 0

-- the first n bytes of symbols
unfoldable pub packed : List ℕ → ℕ → List ℕ
packed symbols n = tab n (packed_byte symbols)
