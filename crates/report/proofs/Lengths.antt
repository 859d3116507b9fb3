-- How long the lines are at most, by the largest numbers that may stand in them.
-- Assumes nothing.
use Rattle.std.proofs.Common.{Option, Some, None, IfSome}
use mathlib.Core.List.{List, []}
use Prim.Native.Nat.{ℕ, suc, ◌+◌, ◌*◌, ◌≤◌, ◌<◌}
use native.Mathlib.Omega.{arith}
use lib.ListN.{length, get_or, length-append}
use Rattle.lines.specs.Text.{ascii, digits, spaced}
use Rattle.lines.proofs.Digits.{length_digits, some-digit, digits-widen, length-spaced}
use Rattle.refusals.specs.declared.Refusal.{Refusal}
use Rattle.refusals.specs.declared.Refusal.TheVariants.{UnknownQ, NoCode, TooManySteps, WrongLength, NoSymbol, ShortWork, ShortOutput, BeyondReach, BadBlock, WrongPayload, FewRecords}
use Rattle.refusals.specs.Numbers.{refusal_number}
use Rattle.report.specs.Report.{refuse_line, accept_line, vote_text, step_text}

-- a refusal's line takes ten bytes at most
refusal-small : (why : Refusal) → refusal_number why < 100
refusal-small UnknownQ = omega arith
refusal-small NoCode = omega arith
refusal-small TooManySteps = omega arith
refusal-small WrongLength = omega arith
refusal-small NoSymbol = omega arith
refusal-small ShortWork = omega arith
refusal-small ShortOutput = omega arith
refusal-small BeyondReach = omega arith
refusal-small BadBlock = omega arith
refusal-small WrongPayload = omega arith
refusal-small FewRecords = omega arith

pub length-refuse : (why : Refusal) → length (refuse_line why) ≤ 10
unfolding refuse_line ascii
length-refuse why = simp length-append (omega (arith, length_digits 1 (refusal_number why) (refusal-small why)))

-- an acceptance's line takes ten bytes, its count and its message
pub length-accept : (most_count most_symbol count : ℕ) (message : List ℕ) → count ≤ most_count
    → ((i : ℕ) → get_or message i 0 ≤ most_symbol) → length (accept_line count message) ≤ 10 + length (digits most_count) + length message * suc (length (digits most_symbol))
unfolding accept_line ascii
length-accept most_count most_symbol count message few all =
    simp length-append (omega (arith, digits-widen count most_count few, length-spaced most_symbol message all))

-- a vote takes a space and its digits, and " -" is not longer
length-vote : (most : ℕ) (vote : Option ℕ) → IfSome vote (λ number. number ≤ most) → length (vote_text vote) ≤ suc (length (digits most))
unfolding vote_text spaced ascii
length-vote most (Some vote) few = omega (arith, digits-widen vote most few, length-append (digits vote) [])
length-vote most None few = omega (arith, some-digit most)

-- a step's line takes its weight, its vote, its degrees and a newline
pub length-step-text : (most_weight most_vote most_degree s : ℕ) (vote : Option ℕ) (degrees : List ℕ) → s ≤ most_weight
    → IfSome vote (λ number. number ≤ most_vote) → ((i : ℕ) → get_or degrees i 0 ≤ most_degree)
    → length (step_text s vote degrees)
    ≤ length (digits most_weight) + suc (length (digits most_vote)) + length degrees * suc (length (digits most_degree)) + 1
unfolding step_text
length-step-text most_weight most_vote most_degree s vote degrees light few low =
    simp length-append
    (omega (arith, digits-widen s most_weight light, length-vote most_vote vote few, length-spaced most_degree degrees low))
