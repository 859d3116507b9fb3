-- The texts that rowtrace takes, and what they say: q and u on one line, a row on the next. Document 01, the paragraph on rowtrace
-- in "Hand-worked table".
-- Assumes nothing.
use Rattle.std.specs.Prelude.{◌≡◌, Bool, true, false, ◌&&◌, ◌||◌, List, [], ◌∷◌, ◌++◌, map, ℕ, ◌+◌, ◌*◌, ◌-◌, ◌%◌, ◌≤◌, ◌<◌, leb, ltb, eqb, length, get_or, drop}
use Rattle.lists.specs.Same.{same_list}
use Rattle.lines.specs.Text.{digits, spaced}

-- a line: the numbers with single spaces between them, ended by a newline
unfoldable pub line : List ℕ → List ℕ
line [] = 10 ∷ []
line (n ∷ numbers) = digits n ++ (spaced numbers ++ (10 ∷ []))

-- the two lines of a request
unfoldable pub request : ℕ → ℕ → List ℕ → List ℕ
request q u row = line (q ∷ u ∷ []) ++ line row

-- a text is taken, as q, u and a row
pub record Taken (text : List ℕ) (q u : ℕ) (row : List ℕ) : Type 0 where
  pub says : text ≡ request q u row
  -- the row is not empty
  pub some : 0 < length row
  -- no number has more than three digits; `request` writes none with a zero before it
  pub short-q : q ≤ 999
  pub short-u : u ≤ 999
  -- the row's numbers are bytes
  pub bytes : (i : ℕ) → get_or row i 0 ≤ 255
  -- how long a text may be
  pub short : length text ≤ 4096

-- what a text says: q, u and a row, or nothing that is taken
pub data Said : Type 0 where
  asks : ℕ → ℕ → List ℕ → Said
  nothing : Said

-- a text says what it is taken as, and nothing if it is not taken
pub record Means (text : List ℕ) (said : Said) : Type 0 where
  pub taken : (q u : ℕ) (row : List ℕ) → said ≡ asks q u row → Taken text q u row
  pub only : (q u : ℕ) (row : List ℕ) → Taken text q u row → said ≡ asks q u row

-- How a text is read: its numbers are read whatever it looks like, and it is taken exactly if it is the text of what was read.

-- a space or a newline ends a number
unfoldable pub ends_number : ℕ → Bool
ends_number byte = eqb byte 32 || eqb byte 10

-- a number of at most three digits with one more digit
unfoldable pub grown : ℕ → ℕ → ℕ
grown value byte = (value * 10 + (byte - 48)) % 1000

-- the numbers that end in a text, where `value` has been read before it
unfoldable pub numbers_from : ℕ → List ℕ → List ℕ
numbers_from value [] = []
numbers_from value (byte ∷ text) =
    elim (ends_number byte) [ true ↦ value ∷ numbers_from 0 text | false ↦ numbers_from (grown value byte) text ]

-- the row's numbers are read as bytes
unfoldable pub as_byte : ℕ → ℕ
as_byte n = n % 256

-- the text is at most 4,096 bytes, the row has a number, and the text is the one of these numbers
unfoldable pub is_taken : List ℕ → ℕ → ℕ → List ℕ → Bool
is_taken text q u row = leb (length text) 4096 && (ltb 0 (length row) && same_list text (request q u row))

-- what a text says by the test
abbrev pub if_taken : Bool → Said → Said
if_taken true said = said
if_taken false said = nothing

-- what the numbers read from a text say
unfoldable pub said_by : List ℕ → List ℕ → Said
said_by text numbers =
    let q = get_or numbers 0 0 in
    let u = get_or numbers 1 0 in
    let row = map as_byte (drop 2 numbers) in
    if_taken (is_taken text q u row) (asks q u row)

unfoldable pub reading : List ℕ → Said
reading text = said_by text (numbers_from 0 text)
