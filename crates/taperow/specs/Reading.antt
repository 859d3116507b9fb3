-- The record of one row: what its symbols decode to, held against its message in the payload. Document 01, "Block and
-- verification".
-- Assumes nothing.
use Rattle.std.specs.Prelude.{List, ℕ}
use Rattle.lists.specs.Same.{same_list}
use Rattle.voting.specs.Voting.{voted}
use Rattle.decoder.specs.Decoding.{decoded}
use Rattle.packing.specs.Packing.{unpacked}
use Rattle.layout.specs.Layout.{tape_q, tape_u, message_length, block_row, payload_row}
use Rattle.rowstate.specs.Outcome.{outcome}
use Rattle.answers.specs.declared.Record.{Record}

-- the record of row r of a block
unfoldable pub row_record : List ℕ → List ℕ → ℕ → Record
row_record block payload r =
    let row = block_row block r in
    outcome (decoded tape_q tape_u row) (same_list (voted tape_q tape_u row) (payload_row payload r))

-- the record of a row's symbols, gathered, and of the 20 bytes of its message in the payload
unfoldable pub judged_record : List ℕ → List ℕ → Record
judged_record row original = outcome (decoded tape_q tape_u row) (same_list (voted tape_q tape_u row) (unpacked original message_length))
