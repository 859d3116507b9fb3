-- Each answer in numbers: a refusal is its number, and what is no refusal has its values. The type `()` is `Unit {0}` here, and its
-- value is `tt`.
-- Assumes nothing.
use Rattle.std.specs.Prelude.{List, [], ◌∷◌, ℕ, Result}
use Rattle.refusals.specs.declared.Refusal.{Refusal}
use Rattle.refusals.specs.Numbers.{Told, told_as}
use Rattle.answers.specs.declared.Verdict.{Verdict}
use Rattle.answers.specs.declared.Verdict.TheVariants.{Copied, Differs, Unreadable}

-- encoding and stopping: done has no value
abbrev pub done_as : Result (Unit {0}) Refusal → Told
done_as = told_as (λ _. [])

-- decoding and writing: an acceptance has the count, and a block that was written its length
abbrev pub count_as : Result ℕ Refusal → Told
count_as = told_as (λ count. count ∷ [])

-- the state for which a verdict is named, then the sum of the counts or the row
abbrev pub verdict_values : Verdict → List ℕ
verdict_values (Copied total) = 0 ∷ total ∷ []
verdict_values (Differs row) = 1 ∷ row ∷ []
verdict_values (Unreadable row) = 2 ∷ row ∷ []

-- verifying: the values of the verdict
abbrev pub verified_as : Result Verdict Refusal → Told
verified_as = told_as verdict_values
