-- Copied means a copy: every row of the block decodes within reach to exactly the payload's symbols.
-- Assumes nothing.
use mathlib.Core.Path.{◌≡◌, refl, sym, ap, ◌∙◌}
use mathlib.Core.Logic.{⊎_elim}
use mathlib.Core.Bool.{Bool, true, false}
use mathlib.Core.List.{List}
use Prim.Native.Nat.{ℕ, zero, suc, ◌+◌, ◌≤◌, ◌<◌, zero-le}
use native.Mathlib.Omega.{arith}
use lib.Dec.{eqb}
use borrow.Author.Tests.{eqb-true, not-false}
use Rattle.std.specs.Prelude.{Result, Ok, Err}
use Rattle.refusals.specs.declared.Refusal.{Refusal}
use Rattle.refusals.specs.Numbers.{first_of}
use Rattle.refusals.proofs.Checks.{Passes, clear, refused, passed, decide_checks}
use Rattle.lists.specs.Tables.{from, tab}
use Rattle.lists.proofs.Numbers.{same_or_not}
use Rattle.lists.proofs.Same.{same_lists}
use Rattle.judging.specs.Judging.{count_of}
use Rattle.voting.specs.Voting.{voted}
use Rattle.decoder.specs.Decoding.{decoded}
use Rattle.layout.specs.Layout.{tape_q, tape_u, row_count, block_row, payload_row}
use Rattle.lists.specs.Same.{same_list}
use Rattle.taperow.specs.Reading.{row_record}
use Rattle.rowstate.specs.Outcome.{outcome}
use Rattle.verifying.specs.Verification.{verdict_from, all_records}
use Rattle.verdict.specs.Checks.{checks_for}
use Rattle.verifying.specs.Copy.{ReadAs, CopyOf}
use Rattle.answers.specs.declared.Record.{Record}
use Rattle.answers.specs.declared.Verdict.{Verdict}
use Rattle.answers.specs.declared.Verdict.TheVariants.{Copied}
use Rattle.verdict.proofs.Verdicts.{by_state}
use Rattle.taperow.proofs.Outcomes.{accepted-within}

-- only an acceptance of the same message has state 0
state-equal : (answer : Result ℕ Refusal) (equal : Bool) → (outcome answer equal).state ≡ 0
    → ((count : ℕ) × (answer ≡ Ok count)) × (equal ≡ true)
unfolding outcome
state-equal (Ok count) true is = ((count, refl), refl)
state-equal (Ok count) false is = absurd (omega (arith, is))
state-equal (Err why) equal is = absurd (omega (arith, is))

-- a row in state 0 decodes to its payload's symbols
equal-reads : (block payload : List ℕ) (r : ℕ) → (row_record block payload r).state ≡ 0
    → ReadAs (block_row block r) (payload_row payload r)
unfolding row_record
equal-reads block payload r is =
    let row = block_row block r in
    let told = state-equal (decoded tape_q tape_u row) (same_list (voted tape_q tape_u row) (payload_row payload r)) is in
    let votes = same_lists (voted tape_q tape_u row) (payload_row payload r) told.1 in
    let reached = accepted-within row told.0.0 told.0.1 in
    record {
      count = told.0.0;
      accepted = told.0.1;
      votes = votes;
      differing = reached.counted ∙ ap (λ (m : List ℕ). count_of tape_q tape_u m row) votes;
      within = reached.reached;
    }

-- a row that settles the verdict otherwise rules Copied out
first-equal : (r total : ℕ) (equal : Verdict) (zero one : Bool) → by_state zero one r equal ≡ Copied total
    → (zero ≡ true) × (equal ≡ Copied total)
first-equal r total equal true one copied = (refl, copied)
first-equal r total equal false true copied = cc
first-equal r total equal false false copied = cc

-- where the verdict over the records from row i on is Copied, each of them has state 0
all-equal : (f : ℕ → Record) (n i r total total' : ℕ) → verdict_from r total (from i n f) ≡ Copied total' → (j : ℕ) → i ≤ j
    → j < i + n → (f j).state ≡ 0
unfolding verdict_from from
all-equal f zero i r total total' copied j low high = absurd (omega arith)
all-equal f (suc n) i r total total' copied j low high =
    let rest = verdict_from (suc r) (total + (f i).count) (from (suc i) n f) in
    let told = first-equal r total' rest (eqb (f i).state 0) (eqb (f i).state 1) copied in
    ⊎_elim (λ same. rw same (eqb-true (f i).state 0 told.0))
    (λ other. all-equal f n (suc i) (suc r) (total + (f i).count) total' told.1 j (omega arith) (omega arith))
    (same_or_not j i)

-- Copied is answered only for a copy, however many records and places are lent
pub copied-only : (block payload : List ℕ) (records work total : ℕ)
    → first_of (checks_for block payload records work) Err (Ok (verdict_from 0 0 (all_records block payload))) ≡ Ok (Copied total)
    → CopyOf block payload
unfolding checks_for all_records tab
copied-only block payload records work total copied =
    ⊎_elim (λ refusing. never refusing.0 (sym (refused Err _ refusing.1) ∙ copied))
    (λ passing. copy passing (same (sym (passed Err _ passing) ∙ copied)))
    (decide_checks (checks_for block payload records work))
  where
    -- a refusal is not Copied
    never : (why : Refusal) → ◌≡◌ {A = Result Verdict Refusal} (Err why) (Ok (Copied total)) → CopyOf block payload
    never why e = cc

    same : {v : Verdict} → ◌≡◌ {A = Result Verdict Refusal} (Ok v) (Ok (Copied total)) → v ≡ Copied total
    same e = cc

    -- where no check holds, every row is in state 0
    copy : Passes (checks_for block payload records work)
        → verdict_from 0 0 (from 0 (row_count block) (row_record block payload)) ≡ Copied total → CopyOf block payload
    copy (clear header (clear messages rest)) all =
        record {
          header = not-false _ header;
          messages = eqb-true _ _ (not-false _ messages);
          rows =
              λ r less.
              equal-reads block payload r
              (all-equal (row_record block payload) (row_count block) 0 0 0 total all r zero-le (omega arith));
        }
