-- The record of a row within reach of the row that its message becomes: state 0, and how many places differ. One that is as it
-- was laid has none.
-- Assumes nothing.
use mathlib.Core.Path.{◌≡◌, sym, ap, ◌∙◌}
use mathlib.Core.List.{List}
use Prim.Native.Nat.{ℕ, ◌+◌, ◌*◌, ◌≤◌, ◌<◌}
use native.Mathlib.Omega.{arith}
use lib.ListN.{get_or, take, drop, length-take}
use lib.Seq.{get_or-take, get_or-drop}
use Rattle.lists.proofs.Same.{same-itself}
use Rattle.lists.proofs.Tables.{length-tab}
use Rattle.curve.specs.Codes.{reach}
use Rattle.curve.specs.Given.{Message, Received}
use Rattle.judging.specs.Judging.{count_of}
use Rattle.decoder.proofs.WithinReach.{voted-within, decoded-within}
use Rattle.decoder.proofs.ReadingBack.{row-received, none-differs}
use Rattle.packing.specs.Packing.{symbol_in}
use Rattle.packing.proofs.Unpacked.{none-beyond}
use Rattle.layout.specs.Layout.{tape_q, tape_u, tape_reach, row_length, header_bytes, symbol_place, block_row, payload_row}
use Rattle.layout.proofs.Reading.{row-part}
use Rattle.laying.specs.Laying.{code_row}
use Rattle.laying.proofs.TapeCode.{known-tape, a-code, points-are, reach-is}
use Rattle.taperow.specs.Reading.{row_record}
use Rattle.rowstate.specs.Outcome.{outcome}

-- the symbols of a row of bytes are a full row
pub row_of : (block : List ℕ) → ((i : ℕ) → get_or block i 0 < 256) → (r : ℕ) → Received tape_q tape_u (block_row block r)
unfolding block_row
row_of block bytes r =
    let rest = drop (8 + 32 * r) block in
    record {
      known = known-tape;
      code = a-code;
      whole = length-tab row_length (λ j. symbol_in (drop header_bytes block) (symbol_place r j)) ∙ sym points-are;
      all-symbols =
          rw (row-part block r)
          (none-beyond (take 32 rest) row_length (λ i within.
          let short : i < 32 = omega (arith, length-take 32 rest) in
          rw (get_or-take 32 rest i 0 short, get_or-drop (8 + 32 * r) block i 0) (bytes (8 + 32 * r + i))));
    }

module _ (block payload : List ℕ) (r : ℕ) (message : Message tape_q tape_u (payload_row payload r)) where
  -- how many places differ
  abbrev count : ℕ
  count = count_of tape_q tape_u (payload_row payload r) (block_row block r)

  -- within reach the row is read as its message
  pub near-row : Received tape_q tape_u (block_row block r) → count ≤ tape_reach → row_record block payload r ≡ record { state = 0; count = count }
  unfolding row_record outcome
  near-row row near =
      let within : count ≤ reach tape_q tape_u = omega (arith, reach-is) in
      rw (
        voted-within tape_q tape_u (payload_row payload r) (block_row block r) message row within,
        decoded-within tape_q tape_u (payload_row payload r) (block_row block r) message row within,
        same-itself (payload_row payload r),
      )

  -- as it was laid
  pub unchanged-row : block_row block r ≡ code_row payload r → row_record block payload r ≡ record { state = 0; count = 0 }
  unfolding code_row
  unchanged-row laid =
      let none : count ≡ 0 = rw laid (none-differs tape_q tape_u (payload_row payload r) message) in
      near-row (rw laid (row-received tape_q tape_u (payload_row payload r) message)) (omega (arith, none))
      ∙ ap (λ n. record { state = 0; count = n }) none
