-- What decoding promises, by its checks: a refusal leaves everything as it was, and where no check holds the full row decides.
-- The clause for rows within reach follows from the equations, and that for undamaged rows from it.
-- Assumes nothing.
use mathlib.Core.Path.{◌≡◌, sym, ap, ◌∙◌}
use mathlib.Core.List.{List, ◌++◌}
use Prim.Native.Nat.{ℕ}
use native.Mathlib.Omega.{arith}
use lib.ListN.{take, drop}
use lib.Seq.{take_at}
use Rattle.std.specs.Prelude.{Result, Ok, Err}
use Rattle.refusals.specs.declared.Refusal.{Refusal}
use Rattle.refusals.proofs.Checks.{Refuses, refused, passed}
use Rattle.curve.specs.Codes.{point_count, dimension}
use Rattle.encoder.specs.Encoding.{row_numbers}
use Rattle.published.specs.Picture.{area_size}
use Rattle.judging.specs.Judging.{count_of}
use Rattle.voting.specs.Voting.{voted, cleared}
use Rattle.decoder.specs.Decoding.{decoded, decode_checks, decode_answer, decode_work, decode_message, decode_corrected, if_accepted}
use Rattle.curve.specs.Given.{Received}
use Rattle.decoder.specs.FullRows.{Room, message_after, corrected_after}
use Rattle.decoder.specs.Undamaged.{Undamaged}
use Rattle.decoder.specs.WithinReach.{WithinReach}
use Rattle.encoder.proofs.RowSymbols.{length-row_numbers}
use Rattle.voting.proofs.Votes.{voted-count}
use Rattle.decoder.proofs.WithinReach.{voted-within, decoded-within}
use Rattle.decoder.proofs.ReadingBack.{row-received, none-differs}
use Rattle.decoder.proofs.DecodeChecks.{passes}

module _ (q u : ℕ) (row work message corrected : List ℕ) where
  -- all that is said of a call
  pub record Promised (answer : Result ℕ Refusal) (work' message' corrected' : List ℕ) : Type 0 where
    pub answer-is : answer ≡ decode_answer q u row work message corrected
    pub work-is : work' ≡ decode_work q u row work message corrected
    pub message-is : message' ≡ decode_message q u row work message corrected
    pub corrected-is : corrected' ≡ decode_corrected q u row work message corrected

  -- a refusal writes nothing
  pub refusing : (why : Refusal) → Refuses (decode_checks q u row work message corrected) why → Promised (Err why) work message corrected
  unfolding decode_answer decode_work decode_message decode_corrected if_accepted
  refusing why r =
      let answered = refused Err (decoded q u row) r in
      record {
        answer-is = sym answered;
        work-is = sym (refused (λ why. work) (cleared (area_size q) work) r);
        message-is = sym (ap (λ a. if_accepted a (voted q u row ++ drop (dimension q u) message) message) answered);
        corrected-is = sym (ap (λ a. if_accepted a (row_numbers q u (voted q u row) ++ drop (point_count q) corrected) corrected) answered);
      }

  -- where no check holds, what is answered and left is what the full row decodes to
  module _ (input : Received q u row) (room : Room q u work message corrected) where
    -- the answer is what the row decodes to
    answered : decode_answer q u row work message corrected ≡ decoded q u row
    unfolding decode_answer
    answered = passed Err (decoded q u row) (passes q u row work message corrected input room)

    -- and the message output what it leaves
    message-left : decode_message q u row work message corrected ≡ message_after q u row message
    unfolding decode_message message_after
    message-left = ap (λ a. if_accepted a (voted q u row ++ drop (dimension q u) message) message) answered

    -- and the corrected one
    corrected-left : decode_corrected q u row work message corrected ≡ corrected_after q u row corrected
    unfolding decode_corrected corrected_after
    corrected-left = ap (λ a. if_accepted a (row_numbers q u (voted q u row) ++ drop (point_count q) corrected) corrected) answered

    -- a call that does as much keeps its promise
    pub decoding : {answer : Result ℕ Refusal} {work' message' corrected' : List ℕ} → answer ≡ decoded q u row → work' ≡ cleared (area_size q) work
        → message' ≡ message_after q u row message → corrected' ≡ corrected_after q u row corrected → Promised answer work' message' corrected'
    unfolding decode_work
    decoding a w m c = record {
      answer-is = a ∙ sym answered;
      work-is = w ∙ sym (passed (λ why. work) (cleared (area_size q) work) (passes q u row work message corrected input room));
      message-is = m ∙ sym message-left;
      corrected-is = c ∙ sym corrected-left;
    }

  -- what is answered and left, as the clauses say it
  pub kept : {result : Result ℕ Refusal} {work' message' corrected' : List ℕ} → Promised result work' message' corrected'
      → record {
        answered : result ≡ decode_answer q u row work message corrected;
        work_left : work' ≡ decode_work q u row work message corrected;
        message_left : message' ≡ decode_message q u row work message corrected;
        corrected_left : corrected' ≡ decode_corrected q u row work message corrected;
      }
  kept P = record { answered = P.answer-is; work_left = P.work-is; message_left = P.message-is; corrected_left = P.corrected-is }

  -- a row within reach of a message's row is read as that message
  within-clause : {answer : Result ℕ Refusal} {work' message' corrected' : List ℕ} → Promised answer work' message' corrected'
      → WithinReach q u row work message corrected answer message' corrected'
  unfolding WithinReach message_after corrected_after if_accepted
  within-clause P sent M input near room =
      let votes : voted q u row ≡ sent = voted-within q u sent row M input near in
      let accepted : decoded q u row ≡ Ok (count_of q u sent row) = decoded-within q u sent row M input near in
      record {
        accepted = P.answer-is ∙ answered input room ∙ accepted;
        message-is =
            ap (take (dimension q u)) (P.message-is ∙ message-left input room ∙ ap (λ a. if_accepted a (voted q u row ++ drop (dimension q u) message) message) accepted)
            ∙ take_at (voted q u row) (drop (dimension q u) message) (dimension q u) (voted-count q u row) ∙ votes;
        corrected-is =
            ap (take (point_count q)) (P.corrected-is ∙ corrected-left input room
            ∙ ap (λ a. if_accepted a (row_numbers q u (voted q u row) ++ drop (point_count q) corrected) corrected) accepted)
            ∙ take_at (row_numbers q u (voted q u row)) (drop (point_count q) corrected) (point_count q) (length-row_numbers q M.known u (voted q u row))
            ∙ ap (row_numbers q u) votes;
      }

  -- so an undamaged one is read back: no place differs
  undamaged-clause : {answer : Result ℕ Refusal} {work' message' corrected' : List ℕ} → Promised answer work' message' corrected'
      → Undamaged q u row work message corrected answer message' corrected'
  unfolding Undamaged WithinReach
  undamaged-clause P sent M e room =
      let input : Received q u row = rw e (row-received q u sent M) in
      let none : count_of q u sent row ≡ 0 = rw e (none-differs q u sent M) in
      let read = within-clause P sent M input (omega (arith, none)) room in
      record { accepted = read.accepted ∙ ap Ok none; message-is = read.message-is; corrected-is = read.corrected-is }

  -- and all that the contract says
  pub told : {result : Result ℕ Refusal} {work' message' corrected' : List ℕ} → Promised result work' message' corrected'
      → record {
        answered : result ≡ decode_answer q u row work message corrected;
        work_left : work' ≡ decode_work q u row work message corrected;
        message_left : message' ≡ decode_message q u row work message corrected;
        corrected_left : corrected' ≡ decode_corrected q u row work message corrected;
        undamaged : Undamaged q u row work message corrected result message' corrected';
        within_reach : WithinReach q u row work message corrected result message' corrected';
      }
  told P = record {
    answered = P.answer-is;
    work_left = P.work-is;
    message_left = P.message-is;
    corrected_left = P.corrected-is;
    undamaged = undamaged-clause P;
    within_reach = within-clause P;
  }
