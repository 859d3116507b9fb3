-- What a test tells: it goes one way or the other.
use mathlib.Core.Path.{◌≡◌, refl}
use mathlib.Core.Bool.{Bool, true, false}

-- a test goes one way or the other
pub decided : {X : Type 0} (b : Bool) → (b ≡ true → X) → (b ≡ false → X) → X
decided true holds fails = holds refl
decided false holds fails = fails refl
