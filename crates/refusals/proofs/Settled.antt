-- The promise settles the number: any two that it allows for one refusal are equal.
-- Assumes nothing.
use mathlib.Core.Path.{◌≡◌, sym, ◌∙◌}
use Prim.Native.Nat.{ℕ}
use Rattle.refusals.specs.declared.Refusal.{Refusal}
use Rattle.refusals.specs.Numbers.{refusal_number}

pub number-settled : (why : Refusal) {number number' : ℕ} → number ≡ refusal_number why → number' ≡ refusal_number why → number ≡ number'
number-settled why e e' = e ∙ sym e'
