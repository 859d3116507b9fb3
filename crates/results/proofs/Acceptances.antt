-- What `tape_pass_on` takes from a decoding's integer is whether the row was accepted. Assumes nothing.
use mathlib.Core.Path.{◌≡◌, refl}
use mathlib.Core.Bool.{true, false}
use Prim.Native.Nat.{ℕ, zero-le}
use Rattle.std.specs.Prelude.{Ok, Err}
use borrow.Author.Tests.{le-leb}
use Rattle.refusals.specs.declared.Refusal.{Refusal}
use Rattle.refusals.specs.declared.Refusal.TheVariants.{UnknownQ, NoCode, TooManySteps, WrongLength, NoSymbol, ShortWork, ShortOutput, BeyondReach, BadBlock, WrongPayload, FewRecords}
use Rattle.results.specs.Results.{count_result, was_accepted}

-- every count tells an acceptance
pub count-accepted : (count : ℕ) → was_accepted (count_result (Ok count)) ≡ true
count-accepted count = le-leb 0 count zero-le

-- and no refusal does, since no number is 0
pub refusal-not-accepted : (why : Refusal) → was_accepted (count_result (Err why)) ≡ false
refusal-not-accepted UnknownQ = refl
refusal-not-accepted NoCode = refl
refusal-not-accepted TooManySteps = refl
refusal-not-accepted WrongLength = refl
refusal-not-accepted NoSymbol = refl
refusal-not-accepted ShortWork = refl
refusal-not-accepted ShortOutput = refl
refusal-not-accepted BeyondReach = refl
refusal-not-accepted BadBlock = refl
refusal-not-accepted WrongPayload = refl
refusal-not-accepted FewRecords = refl
