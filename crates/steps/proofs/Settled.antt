-- The promise settles what is answered and left: any two results that it allows for one call are equal.
-- Assumes nothing.
use mathlib.Core.Path.{◌≡◌, sym, ap, ◌∙◌}
use mathlib.Core.Logic.{inr}
use mathlib.Core.List.{List, []}
use Prim.Native.Nat.{ℕ}
use lib.ListN.{length}
use Rattle.std.specs.Prelude.{Result, Ok, Err}
use Rattle.refusals.specs.declared.Refusal.{Refusal}
use Rattle.refusals.specs.Numbers.{refused_by, first_of}
use Rattle.refusals.proofs.Checks.{made_of}
use Rattle.steps.specs.Stop.{stop_checks, stop_answer, stop_work, stop_output}
use Rattle.answers.specs.InNumbers.{done_as}

-- all that is said of a call of `stop`
pub record Stops (q u steps : ℕ) (row work output : List ℕ) (answer : Result (Unit {0}) Refusal) (work' output' : List ℕ) : Type 0 where
  pub answer-is : answer ≡ stop_answer q u steps row work output
  pub work-is : work' ≡ stop_work q u steps row work output
  pub output-is : output' ≡ stop_output q u steps row work output

-- two results of stopping
pub stop-settled : (q u steps : ℕ) (row work output : List ℕ) {answer answer' : Result (Unit {0}) Refusal} {work₁ work₂ output₁ output₂ : List ℕ}
    → Stops q u steps row work output answer work₁ output₁ → Stops q u steps row work output answer' work₂ output₂
    → (answer ≡ answer') × (work₁ ≡ work₂) × (output₁ ≡ output₂)
stop-settled q u steps row work output P P' =
    (P.answer-is ∙ sym P'.answer-is, P.work-is ∙ sym P'.work-is, P.output-is ∙ sym P'.output-is)

-- what an area held before does not show in the answer: only their lengths count
pub answer-by-lengths : (q u steps : ℕ) (row work work' output output' : List ℕ)
    → length work ≡ length work' → length output ≡ length output'
    → stop_answer q u steps row work output ≡ stop_answer q u steps row work' output'
unfolding stop_answer stop_checks
answer-by-lengths q u steps row work work' output output' e f = rw (e, f)

-- the answer in numbers: that of the first check that holds, else no value
pub stop-told : (q u steps : ℕ) (row work output : List ℕ) {answer : Result (Unit {0}) Refusal} → answer ≡ stop_answer q u steps row work output
    → done_as answer ≡ first_of (stop_checks q u steps row work output) refused_by (inr [])
unfolding stop_answer
stop-told q u steps row work output e = ap done_as e ∙ made_of done_as Err (Ok tt) (stop_checks q u steps row work output)
