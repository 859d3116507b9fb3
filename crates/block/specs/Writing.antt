-- What writing a block answers and leaves, for all inputs. Document 02, Wish 1.
-- Assumes nothing.
use Rattle.std.specs.Prelude.{Bool, not, ◌&&◌, List, [], ◌∷◌, ◌++◌, ℕ, ◌*◌, ◌/◌, ◌%◌, leb, eqb, ltb, length, drop, Result, Ok, Err}
use Rattle.refusals.specs.declared.Refusal.{Refusal}
use Rattle.refusals.specs.declared.Refusal.TheVariants.{ShortOutput, WrongPayload}
use Rattle.refusals.specs.Numbers.{Check, ◌if◌, first_of}
use Rattle.lists.specs.Tables.{tab, join}
use Rattle.voting.specs.Voting.{voted}
use Rattle.packing.specs.Packing.{packed}
use Rattle.layout.specs.Layout.{tape_q, tape_u, message_bytes, most_rows, row_count, block_length, block_row, block_of}
use Rattle.laying.specs.Laying.{code_row}

-- how many rows a payload fills
unfoldable pub rows_filled : List ℕ → ℕ
rows_filled payload = length payload / message_bytes

-- a payload that can be written: whole messages of 20 bytes, at least one and at most 1,024
unfoldable pub is_payload : List ℕ → Bool
is_payload payload = eqb (length payload % message_bytes) 0 && (leb 1 (rows_filled payload) && leb (rows_filled payload) most_rows)

-- the rows of all its messages
unfoldable pub code_rows : List ℕ → List (List ℕ)
code_rows payload = tab (rows_filled payload) (code_row payload)

-- the block of a payload
abbrev pub block_for : List ℕ → List ℕ
block_for payload = block_of (code_rows payload)

-- 10, then 7
unfoldable pub write_checks : List ℕ → List ℕ → List Check
write_checks payload block =
    (WrongPayload if not (is_payload payload))
    ∷ (ShortOutput if ltb (length block) (block_length (rows_filled payload)))
    ∷ []

-- the length of the block that was written
unfoldable pub write_answer : List ℕ → List ℕ → Result ℕ Refusal
write_answer payload block = first_of (write_checks payload block) Err (Ok (block_length (rows_filled payload)))

-- the payload's block, and behind it what was there; a refusal writes nothing
unfoldable pub write_block : List ℕ → List ℕ → List ℕ
write_block payload block =
    first_of (write_checks payload block) (λ why. block) (block_for payload ++ drop (block_length (rows_filled payload)) block)

-- the payload that the rows of a block decode to
unfoldable pub payload_of : List ℕ → List ℕ
payload_of block = packed (join (row_count block) (λ r. voted tape_q tape_u (block_row block r))) (message_bytes * row_count block)
