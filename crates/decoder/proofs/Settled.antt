-- The promises settle what is answered and left: any two results that a promise allows for one call are equal.
-- Assumes nothing.
use mathlib.Core.Path.{◌≡◌, refl, sym, ap, ◌∙◌}
use mathlib.Core.Logic.{inl, inr}
use mathlib.Core.Bool.{Bool, true, false, cond}
use mathlib.Core.List.{List, [], ◌∷◌}
use Prim.Native.Nat.{ℕ}
use lib.Dec.{leb}
use lib.ListN.{length}
use Rattle.std.specs.Prelude.{Result, Ok, Err}
use Rattle.refusals.specs.declared.Refusal.{Refusal}
use Rattle.refusals.specs.declared.Refusal.TheVariants.{BeyondReach}
use Rattle.refusals.specs.Numbers.{Told, Check, refused_by, first_of}
use Rattle.refusals.proofs.Checks.{made_of}
use Rattle.curve.specs.Codes.{reach}
use Rattle.judging.specs.Judging.{count_of}
use Rattle.voting.specs.Voting.{voted}
use Rattle.decoder.specs.Decoding.{judgement, decoded, decode_checks, decode_answer}
use Rattle.answers.specs.InNumbers.{count_as}
use Rattle.decoder.proofs.Promises.{Promised}

-- two results of decoding
pub decode-settled : (q u : ℕ) (row work message corrected : List ℕ) {answer answer' : Result ℕ Refusal} {work₁ work₂ message₁ message₂ corrected₁ corrected₂ : List ℕ}
    → Promised q u row work message corrected answer work₁ message₁ corrected₁ → Promised q u row work message corrected answer' work₂ message₂ corrected₂
    → (answer ≡ answer') × (work₁ ≡ work₂) × (message₁ ≡ message₂) × (corrected₁ ≡ corrected₂)
decode-settled q u row work message corrected P P' =
    (P.answer-is ∙ sym P'.answer-is, P.work-is ∙ sym P'.work-is, P.message-is ∙ sym P'.message-is, P.corrected-is ∙ sym P'.corrected-is)

-- what an area held before does not show in the answer: only their lengths count
pub answer-by-lengths : (q u : ℕ) (row work work' message message' corrected corrected' : List ℕ)
    → length work ≡ length work' → length message ≡ length message' → length corrected ≡ length corrected'
    → decode_answer q u row work message corrected ≡ decode_answer q u row work' message' corrected'
unfolding decode_answer decode_checks
answer-by-lengths q u row work work' message message' corrected corrected' e f g = rw (e, f, g)

-- what a full row of symbols gives in numbers: the count of the places that differ from the votes' row if the reach has so many,
-- else 8
abbrev pub counted_as : ℕ → ℕ → List ℕ → Told
counted_as q u row =
    let count = count_of q u (voted q u row) row in
    cond (leb count (reach q u)) (inr (count ∷ [])) (inl 8)

-- the answer in numbers: that of the first check that holds, else what the row gives
pub decode-told : (q u : ℕ) (row work message corrected : List ℕ) {answer : Result ℕ Refusal} → answer ≡ decode_answer q u row work message corrected
    → count_as answer ≡ first_of (decode_checks q u row work message corrected) refused_by (counted_as q u row)
unfolding decode_answer decoded judgement
decode-told q u row work message corrected e =
    ap count_as e ∙ made_of count_as Err (decoded q u row) checks ∙ ap (first_of checks refused_by) (judged (leb count (reach q u)))
  where
    checks : List Check
    checks = decode_checks q u row work message corrected

    count : ℕ
    count = count_of q u (voted q u row) row

    judged : (within : Bool) → count_as (elim within [ true ↦ Ok count | false ↦ Err BeyondReach ]) ≡ cond within (inr (count ∷ [])) (inl 8)
    judged true = refl
    judged false = refl
