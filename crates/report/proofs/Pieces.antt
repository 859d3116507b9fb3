-- How long the lines are by their pieces.
-- Assumes nothing.
use Rattle.std.proofs.Common.{◌≡◌, Option, List, ℕ, ◌+◌, arith, length, length-append}
use Rattle.lines.specs.Text.{ascii, digits, spaced}
use Rattle.refusals.specs.declared.Refusal.{Refusal}
use Rattle.refusals.specs.Numbers.{refusal_number}
use Rattle.report.specs.Report.{refuse_line, accept_line, vote_text, step_text}

pub length-refuse-pieces : (why : Refusal) → length (refuse_line why) ≡ 7 + length (digits (refusal_number why)) + 1
unfolding refuse_line ascii
length-refuse-pieces why = simp length-append (omega arith)

pub length-accept-pieces : (count : ℕ) (message : List ℕ)
    → length (accept_line count message) ≡ 7 + length (digits count) + 2 + length (spaced message) + 1
unfolding accept_line ascii
length-accept-pieces count message = simp length-append (omega arith)

pub length-step-pieces : (s : ℕ) (vote : Option ℕ) (degrees : List ℕ)
    → length (step_text s vote degrees) ≡ length (digits s) + length (vote_text vote) + length (spaced degrees) + 1
unfolding step_text
length-step-pieces s vote degrees = simp length-append
