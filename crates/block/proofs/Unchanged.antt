-- A block that was written and not touched: every row decodes to its message with count 0, so verifying answers Copied 0.
-- Assumes nothing.
use mathlib.Core.Path.{◌≡◌, refl, sym, ap, ◌∙◌}
use mathlib.Core.Bool.{true, not}
use mathlib.Core.List.{List, ◌∷◌, ◌++◌}
use Prim.Native.Nat.{ℕ, zero, suc, ◌+◌, ◌*◌, ◌/◌, ◌≤◌, ◌<◌}
use native.Mathlib.Nat.{add-zero}
use native.Mathlib.Omega.{arith}
use lib.ListN.{length, get_or, drop, replicate}
use borrow.Author.Tests.{eq-eqb, le-ltb}
use Rattle.refusals.proofs.Checks.{Passes, done, clear, passed}
use Rattle.lists.proofs.Tables.{tab-const}
use Rattle.published.specs.Picture.{area_size}
use Rattle.layout.specs.Layout.{message_bytes, tape_q, row_count, is_block, block_row}
use Rattle.layout.proofs.Laying.{laid-count, laid-block, row_laid}
use Rattle.taperow.specs.Reading.{row_record}
use Rattle.verifying.specs.Verification.{verdict_from, all_records, verify_checks, verify_answer}
use Rattle.verdict.specs.Checks.{checks_for}
use Rattle.verifying.specs.Verification.{verify_records}
use Rattle.verifying.specs.AsBytes.{record_bytes, byte_checks, verify_bytes_answer, verify_bytes_records}
use Rattle.laying.specs.Laying.{code_row}
use Rattle.block.specs.Writing.{rows_filled, is_payload, code_rows, block_for}
use Rattle.block.specs.Untouched.{unchanged, Untouched}
use Rattle.answers.specs.declared.Record.{Record}
use Rattle.answers.specs.declared.Verdict.TheVariants.{Copied}
use Rattle.std.specs.Prelude.{Ok, Err}
use Rattle.laying.proofs.CodeRow.{message-of}
use Rattle.taperow.proofs.NearRows.{unchanged-row}
use Rattle.block.proofs.CodeRows.{fills, rows-count, row_is, rows-symbolic}

-- rows of which none is changed are Copied with the sum so far
all-copied : (n r total : ℕ) → verdict_from r total (replicate n unchanged) ≡ Copied total
unfolding verdict_from
all-copied zero r total = refl
all-copied (suc n) r total = all-copied n (suc r) (total + 0) ∙ ap Copied (add-zero total)

-- their records are zeros
all-zeros : (n : ℕ) → record_bytes (replicate n unchanged) ≡ replicate (2 * n) 0
unfolding record_bytes
all-zeros zero = refl
all-zeros (suc n) =
    let twice : 2 * suc n ≡ suc (suc (2 * n)) = omega arith in
    rw twice (ap (λ (l : List ℕ). 0 ∷ 0 ∷ l) (all-zeros n))

module _ (payload : List ℕ) (right : is_payload payload ≡ true) where
  abbrev block : List ℕ
  block = block_for payload

  -- it has a row for each message
  pub written_count : row_count block ≡ rows_filled payload
  written_count = laid-count (code_rows payload) (rw rows-count (fills payload right).most) ∙ rows-count payload

  -- it is a block
  pub written-block : is_block block ≡ true
  written-block =
      laid-block (code_rows payload) (rw rows-count (fills payload right).some) (rw rows-count (fills payload right).most)

  -- its rows are those of the messages
  pub written_row : (r : ℕ) → r < row_count block → block_row block r ≡ code_row payload r
  written_row r hr =
      let here : r < rows_filled payload = rw written_count at hr in
      row_laid (code_rows payload) (rows-symbolic payload) r (rw rows-count here) ∙ row_is payload r here

  -- no check of verifying holds, whatever is lent that is long enough
  written-passes : (records work : ℕ) → row_count block ≤ records → area_size tape_q ≤ work → Passes (checks_for block payload records work)
  unfolding checks_for
  written-passes records work enough room =
      let long : length payload ≡ message_bytes * row_count block = (fills payload right).whole ∙ ap (λ (n : ℕ). message_bytes * n) (sym written_count) in
      clear (ap not written-block)
      (clear (ap not (eq-eqb (length payload) (message_bytes * row_count block) long))
      (clear (le-ltb records (row_count block) enough) (clear (le-ltb work (area_size tape_q) room) done)))

  module _ (bytes : (i : ℕ) → get_or payload i 0 < 256) where
    -- every row decodes to its message, with no place changed
    unchanged-all : all_records block payload ≡ replicate (row_count block) unchanged
    unfolding all_records
    unchanged-all = tab-const (row_count block) (row_record block payload) unchanged (λ r hr. unchanged-row block payload r (message-of payload bytes r) (written_row r hr))

    -- the verdict
    verdict-is : verdict_from 0 0 (all_records block payload) ≡ Copied 0
    verdict-is = ap (verdict_from 0 0) unchanged-all ∙ all-copied (row_count block) 0 0

    -- all that is promised of it
    pub untouched : Untouched block payload
    unfolding verify_answer verify_records verify_checks
    untouched =
        record {
          is_block = written-block;
          rows_are = written_row;
          copied =
              λ records work lent.
              passed Err _ (written-passes (length records) (length work) lent.enough lent.room) ∙ ap Ok verdict-is;
          recorded =
              λ records work lent.
              passed (λ why. records) _ (written-passes (length records) (length work) lent.enough lent.room)
              ∙ ap (λ (l : List Record). l ++ drop (row_count block) records) unchanged-all;
        }

    -- the same where a record is two bytes
    module _ (records work : List ℕ) (enough : row_count block ≤ length records / 2) (room : area_size tape_q ≤ length work) where
      pub bytes-copied : verify_bytes_answer block payload records work ≡ Ok (Copied 0)
      unfolding verify_bytes_answer byte_checks
      bytes-copied = passed Err _ (written-passes (length records / 2) (length work) enough room) ∙ ap Ok verdict-is

      pub bytes-recorded : verify_bytes_records block payload records work
          ≡ replicate (2 * row_count block) 0 ++ drop (2 * row_count block) records
      unfolding verify_bytes_records byte_checks
      bytes-recorded =
          passed (λ why. records) _ (written-passes (length records / 2) (length work) enough room)
          ∙ ap (λ (l : List ℕ). l ++ drop (2 * row_count block) records) (ap record_bytes unchanged-all ∙ all-zeros (row_count block))
