-- What each call answers to a caller in C: one integer, and for verifying a number beside it. include/orbitspinet.h says the
-- same in words. Assumes nothing.
use Rattle.std.proofs.Common.{inl, inr}
use Rattle.std.specs.Prelude.{ℕ, ◌<◌, ◌^◌, Bool, cond, ℤ, pos, neg_ℤ, get_or, Result, Ok, Err}
use Rattle.std.specs.Int.Signed.{le_z}
use Rattle.refusals.specs.declared.Refusal.{Refusal}
use Rattle.refusals.specs.Numbers.{Told, refused_by}
use Rattle.answers.specs.declared.Verdict.{Verdict}
use Rattle.answers.specs.InNumbers.{done_as, count_as, verified_as}

-- the integer of an answer: a refusal's number with a minus; else its first value, 0 if it has none
abbrev pub result_of : Told → ℤ
result_of (inl number) = neg_ℤ (pos number)
result_of (inr values) = pos (get_or values 0 0)

-- the number beside it: the second value; a refusal leaves what was there
abbrev pub beside_of : Told → ℕ → ℕ
beside_of (inl number) old = old
beside_of (inr values) old = get_or values 1 0

abbrev pub refusal_result : Refusal → ℤ
refusal_result why = result_of (refused_by why)

-- encoding and stopping
abbrev pub done_result : Result (Unit {0}) Refusal → ℤ
done_result answer = result_of (done_as answer)

-- decoding and writing
abbrev pub count_result : Result ℕ Refusal → ℤ
count_result answer = result_of (count_as answer)

abbrev pub verify_result : Result Verdict Refusal → ℤ
verify_result answer = result_of (verified_as answer)

abbrev pub verify_at : Result Verdict Refusal → ℕ → ℕ
verify_at answer old = beside_of (verified_as answer) old

-- an integer that decoding answered is an acceptance where it is not negative
abbrev pub was_accepted : ℤ → Bool
was_accepted decoded = le_z (pos 0) decoded

-- the row that is passed on: 1 the corrected one, 0 the received one
abbrev pub row_passed : Bool → ℕ
row_passed accepted = cond accepted 1 0

-- the count of an acceptance, or the length of a block, is a number that the integer can hold
abbrev pub CountFits : Result ℕ Refusal → Type 0
CountFits (Ok count) = count < 2 ^ 63
CountFits (Err why) = Unit {0}
