-- The promises settle what is answered: any two answers that one allows for one call are equal.
-- Assumes nothing.
use mathlib.Core.Path.{◌≡◌, sym, ◌∙◌}
use mathlib.Core.Bool.{Bool}
use Prim.Native.Nat.{ℕ}
use Rattle.symbols.specs.Rule.{is_known, sum_of, difference_of}

pub known-settled : (q : ℕ) {answer answer' : Bool} → answer ≡ is_known q → answer' ≡ is_known q → answer ≡ answer'
known-settled q e e' = e ∙ sym e'

pub sum-settled : (q a b : ℕ) {answer answer' : ℕ} → answer ≡ sum_of q a b → answer' ≡ sum_of q a b → answer ≡ answer'
sum-settled q a b e e' = e ∙ sym e'

pub difference-settled : (q a b : ℕ) {answer answer' : ℕ} → answer ≡ difference_of q a b → answer' ≡ difference_of q a b → answer ≡ answer'
difference-settled q a b e e' = e ∙ sym e'
