-- A payload can be read back from its block, so two payloads with the same block are the same.
-- Assumes nothing.
use mathlib.Core.Path.{◌≡◌, sym, ap, ◌∙◌}
use mathlib.Core.Bool.{true}
use mathlib.Core.List.{List}
use Prim.Native.Nat.{ℕ, ◌+◌, ◌*◌, ◌/◌, ◌%◌, ◌<◌}
use native.Mathlib.Omega.{arith}
use lib.ListN.{length, get_or}
use Rattle.lists.specs.Tables.{join}
use Rattle.lists.proofs.Tables.{get_or-tab, get_or-join, tab-is}
use Rattle.voting.specs.Voting.{voted}
use Rattle.decoder.proofs.ReadingBack.{voted-row}
use Rattle.voting.proofs.Votes.{voted-count}
use Rattle.packing.specs.Packing.{symbol_in, packed_byte, packed}
use Rattle.layout.specs.Layout.{message_bytes, tape_q, tape_u, message_length, row_count, block_row, payload_row}
use Rattle.packing.proofs.Packed.{byte-back}
use Rattle.laying.specs.Laying.{code_row}
use Rattle.block.specs.Writing.{is_payload, block_for, payload_of}
use Rattle.laying.proofs.TapeCode.{dimension-is}
use Rattle.laying.proofs.CodeRow.{message-of}
use Rattle.block.proofs.CodeRows.{fills}
use Rattle.block.proofs.Unchanged.{written_count, written_row}

module _ (payload : List ℕ) (right : is_payload payload ≡ true) (bytes : (i : ℕ) → get_or payload i 0 < 256) where
  abbrev block : List ℕ
  block = block_for payload

  -- the message that row r decodes to
  abbrev message : ℕ → List ℕ
  message r = voted tape_q tape_u (block_row block r)

  abbrev messages : List ℕ
  messages = join (row_count block) message

  -- each has 40 symbols
  message-length : (r : ℕ) → length (message r) ≡ message_length
  message-length r = voted-count tape_q tape_u (block_row block r) ∙ dimension-is

  -- message r is the payload's
  message-back : (r : ℕ) → r < row_count block → message r ≡ payload_row payload r
  unfolding code_row
  message-back r hr =
      ap (voted tape_q tape_u) (written_row payload right r hr)
      ∙ voted-row tape_q tape_u (payload_row payload r) (message-of payload bytes r)

  -- symbol p of all messages is the payload's
  symbol-back : (p : ℕ) → p < message_length * row_count block → get_or messages p 0 ≡ symbol_in payload p
  unfolding payload_row
  symbol-back p hp =
      let r = p / message_length in
      let j = p % message_length in
      let row : r < row_count block = omega arith in
      let column : j < message_length = omega arith in
      let here : p ≡ r * message_length + j = omega arith in
      let there : message_length * r + j ≡ p = omega arith in
      ap (λ (i : ℕ). get_or messages i 0) here
      ∙ get_or-join (row_count block) message_length message 0 message-length r j row column
      ∙ ap (λ (l : List ℕ). get_or l j 0) (message-back r row)
      ∙ get_or-tab message_length (λ k. symbol_in payload (message_length * r + k)) j 0 column
      ∙ ap (symbol_in payload) there

  -- the payload is what its block decodes to
  pub payload-back : payload_of block ≡ payload
  unfolding payload_of packed
  payload-back =
      sym
      (tab-is 0 (message_bytes * row_count block) (packed_byte messages) payload
      ((fills payload right).whole ∙ ap (λ (n : ℕ). message_bytes * n) (sym (written_count payload right)))
      (λ i hi.
      sym
      (byte-back payload messages i (symbol-back (2 * i) (omega arith)) (symbol-back (2 * i + 1) (omega arith)))))

-- two payloads whose blocks are equal are equal
pub blocks-tell : (payload payload' : List ℕ) → is_payload payload ≡ true → is_payload payload' ≡ true
    → ((i : ℕ) → get_or payload i 0 < 256) → ((i : ℕ) → get_or payload' i 0 < 256)
    → block_for payload ≡ block_for payload' → payload ≡ payload'
blocks-tell payload payload' right right' bytes bytes' same =
    sym (payload-back payload right bytes) ∙ ap payload_of same ∙ payload-back payload' right' bytes'
