-- What rowtrace prints: q and u, a line for each step, and the outcome, which is an acceptance or refusal 8; of any other refusal
-- its line alone. Document 01, the end of "Hand-worked table".
-- Assumes nothing.
use Rattle.std.specs.Prelude.{Result, Ok, Err, List, [], ◌∷◌, ◌++◌, ℕ}
use Rattle.refusals.specs.declared.Refusal.{Refusal}
use Rattle.refusals.specs.declared.Refusal.TheVariants.{WrongLength}
use Rattle.refusals.specs.Numbers.{Check, first_of}
use Rattle.curve.specs.Codes.{point_count}
use Rattle.curve.specs.Answers.{code_checks, symbol_checks}
use Rattle.published.specs.Start.{step_count}
use Rattle.voting.specs.Voting.{voted}
use Rattle.decoder.specs.Decoding.{decoded}
use Rattle.request.specs.Request.{line, Said, asks, nothing, reading}
use Rattle.report.specs.Report.{refuse_line, accept_line}
use Rattle.steplines.specs.StepLines.{step_lines}

-- the last line
unfoldable pub last_line : Result ℕ Refusal → List ℕ → List ℕ
last_line (Ok count) message = accept_line count message
last_line (Err why) message = refuse_line why

-- all lines of a full row of symbols
unfoldable pub row_lines : ℕ → ℕ → List ℕ → List ℕ
row_lines q u row = line (q ∷ u ∷ []) ++ step_lines q u row (step_count q) ++ last_line (decoded q u row) (voted q u row)

-- the refusals that leave no trace: 1, 2, 4, 5
unfoldable pub trace_checks : ℕ → ℕ → List ℕ → List Check
trace_checks q u row = code_checks q u ++ symbol_checks q (point_count q) row

-- the line of such a refusal, or all lines
unfoldable pub answer : ℕ → ℕ → List ℕ → List ℕ
answer q u row = first_of (trace_checks q u row) refuse_line (row_lines q u row)

-- a text that says nothing is refused with 4
unfoldable pub answer_to : Said → List ℕ
answer_to (asks q u row) = answer q u row
answer_to nothing = refuse_line WrongLength

-- what is printed for a text
unfoldable pub trace_text : List ℕ → List ℕ
trace_text text = answer_to (reading text)
