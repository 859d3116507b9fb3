-- A payload's message and the row that it becomes: full rows of symbols.
-- Assumes nothing.
use mathlib.Core.Path.{◌≡◌, sym, ◌∙◌}
use mathlib.Core.List.{List}
use Prim.Native.Nat.{ℕ, ◌+◌, ◌*◌, ◌<◌}
use native.Mathlib.Omega.{arith}
use lib.ListN.{length, get_or, take, drop, length-take}
use lib.Seq.{get_or-take, get_or-drop}
use Rattle.lists.proofs.Tables.{length-tab}
use Rattle.symbols.proofs.SymbolLists.{below_all}
use Rattle.curve.specs.Given.{Message}
use Rattle.encoder.proofs.RowSymbols.{length-row_numbers, row-symbols}
use Rattle.packing.specs.Packing.{symbol_in}
use Rattle.layout.specs.Layout.{tape_q, tape_u, row_length, message_length, payload_row}
use Rattle.layout.proofs.Reading.{message-part}
use Rattle.packing.proofs.Unpacked.{none-beyond}
use Rattle.laying.specs.Laying.{code_row}
use Rattle.laying.proofs.TapeCode.{known-tape, a-code, points-are, dimension-is}

module _ (payload : List ℕ) where
  -- a row has 64 symbols
  pub code-length : (r : ℕ) → length (code_row payload r) ≡ row_length
  unfolding code_row
  code-length r = length-row_numbers tape_q known-tape tape_u (payload_row payload r) ∙ points-are

  -- each below 16
  pub code-small : (r j : ℕ) → j < row_length → get_or (code_row payload r) j 0 < 16
  unfolding code_row
  code-small r j hj =
      below_all tape_q (code_row payload r) (row-symbols tape_q known-tape tape_u (payload_row payload r)) j (rw (code-length r) hj)

  module _ (bytes : (i : ℕ) → get_or payload i 0 < 256) where
    -- a payload's symbols are messages
    pub message-of : (r : ℕ) → Message tape_q tape_u (payload_row payload r)
    unfolding payload_row
    message-of r =
        let rest = drop (20 * r) payload in
        record {
          known = known-tape;
          code = a-code;
          whole = length-tab message_length (λ j. symbol_in payload (message_length * r + j)) ∙ sym dimension-is;
          all-symbols =
              rw (message-part payload r)
              (none-beyond (take 20 rest) message_length (λ i within.
              let short : i < 20 = omega (arith, length-take 20 rest) in
              rw (get_or-take 20 rest i 0 short, get_or-drop (20 * r) payload i 0) (bytes (20 * r + i))));
        }
