-- The promise of `write` settles what is answered and left: any two results that it allows for one call are equal.
-- Assumes nothing.
use mathlib.Core.Path.{◌≡◌, sym, ap, ◌∙◌}
use mathlib.Core.Logic.{inr}
use mathlib.Core.List.{List, [], ◌∷◌}
use Prim.Native.Nat.{ℕ}
use lib.ListN.{length}
use Rattle.refusals.specs.Numbers.{refused_by, first_of}
use Rattle.refusals.proofs.Checks.{made_of}
use Rattle.layout.specs.Layout.{block_length}
use Rattle.std.specs.Prelude.{Result, Ok, Err}
use Rattle.refusals.specs.declared.Refusal.{Refusal}
use Rattle.block.specs.Writing.{rows_filled, write_checks, write_answer, write_block}
use Rattle.answers.specs.InNumbers.{count_as}

-- all that is said of a call of `write`
pub record Writes (payload block : List ℕ) (answer : Result ℕ Refusal) (block' : List ℕ) : Type 0 where
  pub answer-is : answer ≡ write_answer payload block
  pub block-is : block' ≡ write_block payload block

-- two results of writing
pub write-settled : (payload block : List ℕ) {answer answer' : Result ℕ Refusal} {block₁ block₂ : List ℕ}
    → Writes payload block answer block₁ → Writes payload block answer' block₂ → (answer ≡ answer') × (block₁ ≡ block₂)
write-settled payload block P P' = (P.answer-is ∙ sym P'.answer-is, P.block-is ∙ sym P'.block-is)

-- of the area only the length counts
pub write-answer-by-length : (payload block block' : List ℕ) → length block ≡ length block'
    → write_answer payload block ≡ write_answer payload block'
unfolding write_answer write_checks
write-answer-by-length payload block block' e = rw e

-- the answer in numbers: that of the first check that holds, else the length of the payload's block
pub write-told : (payload block : List ℕ) {answer : Result ℕ Refusal} → answer ≡ write_answer payload block
    → count_as answer ≡ first_of (write_checks payload block) refused_by (inr (block_length (rows_filled payload) ∷ []))
unfolding write_answer
write-told payload block e =
    ap count_as e ∙ made_of count_as Err (Ok (block_length (rows_filled payload))) (write_checks payload block)
