-- A message of 20 bytes is unpacked, encoded and packed: what each step hands to the next.
-- Assumes nothing.
use mathlib.Core.Path.{◌≡◌, sym, ap, ◌∙◌}
use mathlib.Core.Bool.{false}
use mathlib.Core.List.{List, ◌++◌, append-nil}
use Prim.Native.Nat.{ℕ, ◌*◌, ◌≤◌}
use native.Mathlib.Omega.{arith}
use lib.ListN.{length, take, drop, drop_of_length-le}
use Rattle.symbols.specs.Rule.{any_beyond}
use Rattle.curve.specs.Codes.{Code, point_count}
use Rattle.curve.specs.Answers.{code_of}
use Rattle.curve.specs.Given.{Message}
use Rattle.encoder.specs.Encoding.{row_numbers}
use Rattle.encoder.proofs.RowSymbols.{length-row_numbers, row-symbols}
use Rattle.packing.specs.Packing.{unpacked, packed}
use Rattle.layout.specs.Layout.{tape_q, tape_u, message_length}
use Rattle.layout.proofs.Reading.{message-part}
use Rattle.packing.proofs.Unpacked.{length-unpacked}
use Rattle.laying.specs.Laying.{code_row, packed_row}
use Rattle.laying.proofs.TapeCode.{known-tape, a-code, points-are, dimension-is}

-- what was unpacked can be encoded
pub encodable : (code : Code) (original message row : List ℕ) → code ≡ code_of tape_q tape_u → message ≡ unpacked original message_length
    → any_beyond tape_q message ≡ false → length row ≡ 64
    → record { message : Message code.q code.u message; room : point_count code.q ≤ length row }
encodable code original message row tape is symbolic long =
    rw tape
    (record {
      message = record {
        known = known-tape;
        code = a-code;
        whole = ap length is ∙ length-unpacked original message_length ∙ sym dimension-is;
        all-symbols = symbolic;
      };
      room = omega (arith, points-are);
    })

module _ (code : Code) (message symbols old : List ℕ) (tape : code ≡ code_of tape_q tape_u)
    (wrote : symbols ≡ row_numbers code.q code.u message ++ drop (point_count code.q) old) (long : length old ≡ 64) where
  -- 64 places are filled by a row
  filled : symbols ≡ row_numbers tape_q tape_u message
  filled =
      let short : length old ≤ point_count tape_q = omega (arith, points-are) in
      rw tape at wrote ∙ ap (λ (rest : List ℕ). row_numbers tape_q tape_u message ++ rest) (drop_of_length-le old short) ∙ append-nil _

  pub filled-length : length symbols ≡ 64
  filled-length = ap length filled ∙ length-row_numbers tape_q known-tape tape_u message ∙ points-are

  pub filled-symbols : any_beyond tape_q symbols ≡ false
  filled-symbols = ap (any_beyond tape_q) filled ∙ row-symbols tape_q known-tape tape_u message

  -- packed they are the row of the message
  pub packed-filled : (original : List ℕ) → message ≡ unpacked original message_length → packed symbols 32 ≡ packed_row original
  unfolding packed_row
  packed-filled original is = ap (λ (l : List ℕ). packed l 32) (filled ∙ ap (row_numbers tape_q tape_u) is)

-- the 20 bytes of message r become the packed row r
pub row-packed : (payload : List ℕ) (r : ℕ) → packed_row (take 20 (drop (20 * r) payload)) ≡ packed (code_row payload r) 32
unfolding packed_row code_row
row-packed payload r = ap (λ (l : List ℕ). packed (row_numbers tape_q tape_u l) 32) (sym (message-part payload r))
