-- Copied is answered exactly for near copies: blocks with no row beyond reach of the row that its message becomes.
-- Assumes nothing.
use mathlib.Core.Path.{◌≡◌, sym, ap, ◌∙◌}
use mathlib.Core.Logic.{⊎_elim}
use mathlib.Core.List.{List}
use Prim.Native.Nat.{ℕ, zero, suc, ◌+◌, ◌≤◌, ◌<◌}
use native.Mathlib.Nat.{zero-add}
use native.Mathlib.Omega.{arith}
use lib.Dec.{eqb}
use lib.ListN.{get_or}
use borrow.Author.Tests.{eq-eqb}
use Rattle.std.specs.Prelude.{Result, Ok, Err}
use Rattle.refusals.specs.declared.Refusal.{Refusal}
use Rattle.refusals.specs.Numbers.{first_of}
use Rattle.refusals.proofs.Checks.{refused, passed, decide_checks}
use Rattle.algebra.specs.Totals.{total}
use Rattle.algebra.proofs.NumberSums.{total-cong, total_head}
use Rattle.lists.specs.Tables.{from, tab}
use Rattle.judging.specs.Judging.{count_of}
use Rattle.layout.specs.Layout.{tape_q, tape_u, row_count, block_row, payload_row}
use Rattle.laying.proofs.CodeRow.{message-of}
use Rattle.taperow.specs.Reading.{row_record}
use Rattle.answers.specs.declared.Record.{Record}
use Rattle.taperow.proofs.NearRows.{row_of, near-row}
use Rattle.verifying.specs.Verification.{verdict_from, all_records}
use Rattle.verdict.specs.Checks.{checks_for}
use Rattle.verifying.specs.Copy.{CopyOf, NearCopy, differing_places, CopiedExactly}
use Rattle.answers.specs.declared.Verdict.{Verdict}
use Rattle.answers.specs.declared.Verdict.TheVariants.{Copied}
use Rattle.verdict.proofs.Start.{none-holds}
use Rattle.verdict.proofs.Verdicts.{by_state}
use Rattle.verifying.proofs.Copies.{copied-only}

-- all records from row i on have state 0: Copied, with their counts added up
all-copied : (f : ℕ → Record) (n i r before : ℕ) → ((j : ℕ) → i ≤ j → j < i + n → (f j).state ≡ 0)
    → verdict_from r before (from i n f) ≡ Copied (before + total n (λ k. (f (i + k)).count))
unfolding verdict_from from total
all-copied f zero i r before equal = ap Copied (omega arith)
all-copied f (suc n) i r before equal =
    let later : (k : ℕ) → k < n → (f (suc i + k)).count ≡ (f (i + suc k)).count = λ k hk. ap (λ m. (f m).count) (omega arith) in
    let here : (f (i + 0)).count ≡ (f i).count = ap (λ m. (f m).count) (omega arith) in
    let apart = total_head n (λ k. (f (i + k)).count) in
    let sum = total-cong n later in
    let rest = verdict_from (suc r) (before + (f i).count) (from (suc i) n f) in
    ap (λ zero. by_state zero (eqb (f i).state 1) r rest) (eq-eqb (f i).state 0 (equal i (omega arith) (omega arith)))
    ∙ (all-copied f n (suc i) (suc r) (before + (f i).count) (λ j low high. equal j (omega arith) (omega arith))
    ∙ ap Copied (omega arith))

module _ (block payload : List ℕ) (bytes : (i : ℕ) → get_or block i 0 < 256) (bytes' : (i : ℕ) → get_or payload i 0 < 256) where
  -- the verdict on the rows of a near copy
  verdict-near : NearCopy block payload → verdict_from 0 0 (all_records block payload) ≡ Copied (differing_places block payload)
  unfolding all_records tab differing_places
  verdict-near N =
      all-copied (row_record block payload) (row_count block) 0 0 0 (λ j low high. ap (λ x. x.state) (row j (omega arith)))
      ∙ ap Copied (zero-add _ ∙ total-cong (row_count block) (λ r hr.
      ap (λ m. (row_record block payload m).count) (zero-add r) ∙ ap (λ x. x.count) (row r hr)))
    where
      row : (r : ℕ) → r < row_count block
          → row_record block payload r ≡ record { state = 0; count = count_of tape_q tape_u (payload_row payload r) (block_row block r) }
      row r hr = near-row block payload r (message-of payload bytes' r) (row_of block bytes r) (omega (arith, N.near r hr))

  -- however many records and places are lent
  module _ (records work : ℕ) where
    -- what is answered
    abbrev answer : Result Verdict Refusal
    answer = first_of (checks_for block payload records work) Err (Ok (verdict_from 0 0 (all_records block payload)))

    -- a copy is a near copy
    near-copy : CopyOf block payload → NearCopy block payload
    near-copy copy = record {
      header = copy.header;
      messages = copy.messages;
      near = λ r hr. let read = copy.rows r hr in omega (arith, read.differing, read.within);
    }

    -- where Copied is answered, all places that differ are told
    all_told : NearCopy block payload → (places : ℕ) → answer ≡ Ok (Copied places) → places ≡ differing_places block payload
    all_told N places is =
        ⊎_elim (λ refusing. never refusing.0 (sym (refused Err _ refusing.1) ∙ is))
        (λ passing. same (sym is ∙ passed Err _ passing ∙ ap Ok (verdict-near N)))
        (decide_checks (checks_for block payload records work))
      where
        -- a refusal is not Copied
        never : (why : Refusal) → ◌≡◌ {A = Result Verdict Refusal} (Err why) (Ok (Copied places)) → places ≡ differing_places block payload
        never why e = cc

        same : {n : ℕ} → ◌≡◌ {A = Result Verdict Refusal} (Ok (Copied places)) (Ok (Copied n)) → places ≡ n
        same e = cc

    pub copied-exactly : CopiedExactly block payload records work answer
    copied-exactly = record {
      only = λ places is.
          let N = near-copy (copied-only block payload records work places is) in
          (N, all_told N places is);
      always = λ N enough room.
          passed Err _ (none-holds block payload records work N.header N.messages enough room) ∙ ap Ok (verdict-near N);
    }
