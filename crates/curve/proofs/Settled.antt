-- The promise settles what q and u name: any two answers that it allows are equal.
-- Assumes nothing.
use mathlib.Core.Path.{◌≡◌, sym, ap, ◌∙◌}
use mathlib.Core.Logic.{inr}
use mathlib.Core.List.{[], ◌∷◌}
use Prim.Native.Nat.{ℕ}
use Rattle.std.specs.Prelude.{Result, Ok, Err}
use Rattle.refusals.specs.declared.Refusal.{Refusal}
use Rattle.refusals.specs.Numbers.{refused_by, first_of}
use Rattle.refusals.proofs.Checks.{made_of}
use Rattle.curve.specs.Codes.{Code, point_count, dimension, reach}
use Rattle.curve.specs.Answers.{named_as, code_of, code_checks, named}

pub code-settled : (q u : ℕ) {answer answer' : Result Code Refusal} → answer ≡ named q u → answer' ≡ named q u → answer ≡ answer'
code-settled q u e e' = e ∙ sym e'

-- the answer in numbers: that of the first check that holds, else those of the code
pub code-told : (q u : ℕ) {answer : Result Code Refusal} → answer ≡ named q u
    → named_as answer ≡ first_of (code_checks q u) refused_by (inr (q ∷ u ∷ point_count q ∷ dimension q u ∷ reach q u ∷ []))
unfolding named
code-told q u e = ap named_as e ∙ made_of named_as Err (Ok (code_of q u)) (code_checks q u)
