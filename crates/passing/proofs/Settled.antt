-- The promise settles what is passed on: any two parts that it allows for one call are equal.
-- Assumes nothing.
use mathlib.Core.Path.{◌≡◌, sym, ◌∙◌}
use mathlib.Core.Bool.{Bool, cond}
use mathlib.Core.List.{List}
use Prim.Native.Nat.{ℕ}
use Rattle.passing.specs.PassOn.{passed_on}

-- two parts that are passed on: their symbols, and where they start
pub pass-on-settled : (q : ℕ) (accepted : Bool) (received corrected : List ℕ) (start start' : ℕ × ℕ) {part part' : List ℕ} {at at' : ℕ × ℕ}
    → part ≡ passed_on q accepted received corrected → at ≡ cond accepted start' start
    → part' ≡ passed_on q accepted received corrected → at' ≡ cond accepted start' start → (part ≡ part') × (at ≡ at')
pass-on-settled q accepted received corrected start start' e f e' f' = (e ∙ sym e', f ∙ sym f')
