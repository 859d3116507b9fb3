-- The checks of a row, by the tests that the code makes; the start as the area shows it; and the last line from what decoding leaves.
-- Assumes nothing.
use mathlib.Core.Path.{◌≡◌, refl, ap, sym, ◌∙◌}
use mathlib.Core.List.{List, ◌++◌}
use Prim.Native.Nat.{ℕ}
use lib.ListN.{take, drop}
use lib.Seq.{take_at}
use Rattle.refusals.specs.declared.Refusal.{Refusal}
use Rattle.refusals.proofs.Checks.{Refuses, Passes, refused, passed, refuses-front, refuses-behind, passes-both, passes-split}
use Rattle.curve.specs.Codes.{point_count, dimension}
use Rattle.curve.specs.Answers.{code_checks, symbol_checks}
use Rattle.curve.specs.Given.{Received}
use Rattle.curve.proofs.GivenChecks.{code-passes, given-passes, passes-given}
use Rattle.published.specs.Picture.{cell_number, picture}
use Rattle.workarea.specs.Area.{Starts, cells_of, numbers, shown}
use Rattle.steps.specs.Stop.{state_after, picture_after}
use Rattle.std.specs.Prelude.{Result, Ok, Err}
use Rattle.decoder.specs.Decoding.{decoded, if_accepted}
use Rattle.decoder.specs.FullRows.{message_after}
use Rattle.voting.specs.Voting.{voted}
use Rattle.voting.proofs.Votes.{voted-count}
use Rattle.report.specs.Report.{refuse_line}
use Rattle.trace.specs.Trace.{last_line, row_lines, trace_checks, answer}

module _ (q u : ℕ) (row : List ℕ) where
  -- 1, 2: there is no such code
  pub refused-by-code : {why : Refusal} → Refuses (code_checks q u) why → answer q u row ≡ refuse_line why
  unfolding answer trace_checks
  refused-by-code r = refused refuse_line (row_lines q u row) (refuses-front _ r)

  -- 4, 5: the row is not n symbols
  pub refused-by-row : {why : Refusal} → Passes (code_checks q u) → Refuses (symbol_checks q (point_count q) row) why → answer q u row ≡ refuse_line why
  unfolding answer trace_checks
  refused-by-row coded r = refused refuse_line (row_lines q u row) (refuses-behind coded r)

  -- a full row has its lines printed
  pub not-refused : Received q u row → answer q u row ≡ row_lines q u row
  unfolding answer trace_checks
  not-refused full =
      passed refuse_line (row_lines q u row) (passes-both (code-passes q u full.known full.code) (given-passes full))

  -- and a row that passes is full
  pub row-passes : Passes (trace_checks q u row) → Received q u row
  unfolding trace_checks
  row-passes p =
      let both = passes-split (code_checks q u) p in
      passes-given q u (point_count q) row both.0 both.1

  -- the picture after no step shows the start
  pub shows-start : {work : List ℕ} (rest : List ℕ) → work ≡ picture_after q u row 0 ++ rest → Starts q work (cells_of q (state_after q u row 0).polys)
  unfolding picture_after picture cell_number cells_of shown numbers
  shows-start rest e = record { rest = rest; is = e }

  module _ (message after : List ℕ) (left : after ≡ message_after q u row message) {k : ℕ} (size : k ≡ dimension q u) where
    -- the message that was voted for stands in the first places of what an accepted decoding leaves
    accepted-front : {count : ℕ} → decoded q u row ≡ Ok count → take k after ≡ voted q u row
    unfolding message_after if_accepted
    accepted-front e =
        let behind = drop (dimension q u) message in
        let whole : after ≡ voted q u row ++ behind =
        left ∙ ap (λ (d : Result ℕ Refusal). if_accepted d (voted q u row ++ behind) message) e in
        ap (take k) whole ∙ take_at (voted q u row) behind k (voted-count q u row ∙ sym size)

    -- so the last line is made from what decoding answers and leaves
    pub last_line-is : {r : Result ℕ Refusal}
        → r ≡ decoded q u row → last_line r (take k after) ≡ last_line (decoded q u row) (voted q u row)
    last_line-is {r} answered = by_answer r (sym answered) ∙ ap (λ (d : Result ℕ Refusal). last_line d (voted q u row)) answered
      where
        by_answer : (d : Result ℕ Refusal) → decoded q u row ≡ d → last_line d (take k after) ≡ last_line d (voted q u row)
        by_answer (Ok count) e = ap (last_line (Ok count)) (accepted-front e)
        by_answer (Err why) e = unfold last_line in refl
