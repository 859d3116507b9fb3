-- What decoding answers and leaves, for all inputs. Document 01, "The decoder's steps" (its end), "Lent areas", "Refusal
-- numbers".
-- Assumes nothing.
use Rattle.std.specs.Prelude.{true, false, ◌||◌, List, [], ◌∷◌, ◌++◌, ℕ, leb, ltb, length, drop, Result, Ok, Err}
use Rattle.refusals.specs.declared.Refusal.{Refusal}
use Rattle.refusals.specs.declared.Refusal.TheVariants.{ShortWork, ShortOutput, BeyondReach}
use Rattle.refusals.specs.Numbers.{Check, ◌if◌, first_of}
use Rattle.curve.specs.Codes.{point_count, dimension, reach}
use Rattle.curve.specs.Answers.{code_checks, symbol_checks}
use Rattle.encoder.specs.Encoding.{row_numbers}
use Rattle.published.specs.Picture.{area_size}
use Rattle.judging.specs.Judging.{count_of}
use Rattle.voting.specs.Voting.{voted, cleared}

-- accepted if the count is no more than the reach τ
unfoldable pub judgement : ℕ → ℕ → List ℕ → List ℕ → Result ℕ Refusal
judgement q u message row =
    elim (leb (count_of q u message row) (reach q u)) [
      | true ↦ Ok (count_of q u message row)
      | false ↦ Err BeyondReach
    ]

-- what a full row of symbols decodes to
unfoldable pub decoded : ℕ → ℕ → List ℕ → Result ℕ Refusal
decoded q u row = judgement q u (voted q u row) row

-- 1, 2, 4, 5, 6, 7; then `decoded` may give 8
unfoldable pub decode_checks : ℕ → ℕ → List ℕ → List ℕ → List ℕ → List ℕ → List Check
decode_checks q u row work message corrected =
    code_checks q u
    ++ (symbol_checks q (point_count q) row
    ++ ((ShortWork if ltb (length work) (area_size q))
    ∷ (ShortOutput if ltb (length message) (dimension q u) || ltb (length corrected) (point_count q))
    ∷ []))

-- a refusal, or an acceptance and its count
unfoldable pub decode_answer : ℕ → ℕ → List ℕ → List ℕ → List ℕ → List ℕ → Result ℕ Refusal
decode_answer q u row work message corrected =
    first_of (decode_checks q u row work message corrected) Err (decoded q u row)

-- once the votes are taken, the decoder's part of the work area is zero, with 8 too
unfoldable pub decode_work : ℕ → ℕ → List ℕ → List ℕ → List ℕ → List ℕ → List ℕ
decode_work q u row work message corrected =
    first_of (decode_checks q u row work message corrected) (λ why. work) (cleared (area_size q) work)

-- what an acceptance writes, and a refusal leaves
unfoldable pub if_accepted : Result ℕ Refusal → List ℕ → List ℕ → List ℕ
if_accepted (Ok count) written old = written
if_accepted (Err why) written old = old

-- the first k places of the message's output
unfoldable pub decode_message : ℕ → ℕ → List ℕ → List ℕ → List ℕ → List ℕ → List ℕ
decode_message q u row work message corrected =
    if_accepted (decode_answer q u row work message corrected) (voted q u row ++ drop (dimension q u) message) message

-- the first n places of the corrected row's output
unfoldable pub decode_corrected : ℕ → ℕ → List ℕ → List ℕ → List ℕ → List ℕ → List ℕ
decode_corrected q u row work message corrected =
    if_accepted (decode_answer q u row work message corrected)
    (row_numbers q u (voted q u row) ++ drop (point_count q) corrected) corrected
