-- The promise settles what is answered and left: any two results that it allows for one call are equal.
-- Assumes nothing.
use mathlib.Core.Path.{◌≡◌, sym, ap, ◌∙◌}
use mathlib.Core.Logic.{inr}
use mathlib.Core.List.{List, []}
use Prim.Native.Nat.{ℕ}
use lib.ListN.{length}
use Rattle.std.specs.Prelude.{Result, Ok, Err}
use Rattle.refusals.specs.declared.Refusal.{Refusal}
use Rattle.refusals.specs.Numbers.{refused_by, first_of}
use Rattle.refusals.proofs.Checks.{made_of}
use Rattle.encoder.specs.Encoding.{encode_checks, encode_answer, encode_output}
use Rattle.answers.specs.InNumbers.{done_as}

-- two results of encoding
pub encode-settled : (q u : ℕ) (message output : List ℕ) {answer answer' : Result (Unit {0}) Refusal} {output₁ output₂ : List ℕ}
    → answer ≡ encode_answer q u message output → output₁ ≡ encode_output q u message output
    → answer' ≡ encode_answer q u message output → output₂ ≡ encode_output q u message output
    → (answer ≡ answer') × (output₁ ≡ output₂)
encode-settled q u message output e f e' f' = (e ∙ sym e', f ∙ sym f')

-- what an area held before does not show in the answer: only its length counts
pub answer-by-length : (q u : ℕ) (message output output' : List ℕ) → length output ≡ length output'
    → encode_answer q u message output ≡ encode_answer q u message output'
unfolding encode_answer encode_checks
answer-by-length q u message output output' e = rw e

-- the answer in numbers: that of the first check that holds, else no value
pub encode-told : (q u : ℕ) (message output : List ℕ) {answer : Result (Unit {0}) Refusal} → answer ≡ encode_answer q u message output
    → done_as answer ≡ first_of (encode_checks q u message output) refused_by (inr [])
unfolding encode_answer
encode-told q u message output e = ap done_as e ∙ made_of done_as Err (Ok tt) (encode_checks q u message output)
