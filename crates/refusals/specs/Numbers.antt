-- The refusal numbers, and which refusal a call gives. Document 01, "Refusal numbers".
-- Assumes nothing.
use Rattle.std.specs.Prelude.{Bool, true, false, ◌⊎◌, List, [], ◌∷◌, ℕ, Result, Ok, Err}
use Rattle.std.proofs.Common.{inl, inr}
use Rattle.refusals.specs.declared.Refusal.{Refusal}
use Rattle.refusals.specs.declared.Refusal.TheVariants.{UnknownQ, NoCode, TooManySteps, WrongLength, NoSymbol, ShortWork, ShortOutput, BeyondReach, BadBlock, WrongPayload, FewRecords}

-- the table's first column
abbrev pub refusal_number : Refusal → ℕ
refusal_number UnknownQ = 1
refusal_number NoCode = 2
refusal_number TooManySteps = 3
refusal_number WrongLength = 4
refusal_number NoSymbol = 5
refusal_number ShortWork = 6
refusal_number ShortOutput = 7
refusal_number BeyondReach = 8
refusal_number BadBlock = 9
refusal_number WrongPayload = 10
refusal_number FewRecords = 11

-- an answer in numbers: the number of a refusal, or the values that any other answer has
abbrev pub Told : Type 0
Told = ℕ ⊎ List ℕ

-- "A refusal returns its number only."
abbrev pub refused_by : Refusal → Told
refused_by why = inl (refusal_number why)

-- a call's answer in numbers, where `values` says which numbers it has when it is no refusal
abbrev pub told_as : {A : Type 0} → (A → List ℕ) → Result A Refusal → Told
told_as values (Ok x) = inr (values x)
told_as values (Err why) = refused_by why

-- a refusal, and whether what it is given for holds
pub record Check : Type 0 where
  pub holds : Bool
  pub why : Refusal

infix 20 ◌if◌
abbrev pub ◌if◌ : Refusal → Bool → Check
why if holds = record { holds = holds; why = why }

-- a call lists the checks that it can make in the order of their numbers (verifying a block has an order of its own); the answer is
-- what `refuse` makes of the first check that holds, and `otherwise` where none does
unfoldable pub first_of {ℓ} : {A : Type ℓ} → List Check → (Refusal → A) → A → A
first_of [] refuse otherwise = otherwise
first_of (c ∷ cs) refuse otherwise = elim c.holds [ true ↦ refuse c.why | false ↦ first_of cs refuse otherwise ]
