-- In how many places two rows differ, as the chain over the pairs of their places counts it.
-- Assumes nothing.
use mathlib.Core.Path.{◌≡◌, refl, sym, ◌∙◌}
use mathlib.Core.Bool.{Bool, true, false, not}
use mathlib.Core.List.{List, [], ◌∷◌}
use Prim.Native.Nat.{ℕ}
use native.Mathlib.Omega.{arith}
use borrow.Author.Tests.{eq-eqb}
use Rattle.std.specs.Prelude.{count_by, filter, zip, eqb, length}
use Rattle.std.proofs.lemmas.List.Sums.{length-filter}
use Rattle.judging.specs.Judging.{differing}

-- the pairs of unlike places
abbrev unlike : ℕ × ℕ → Bool
unlike p = not (eqb p.0 p.1)

-- are as many as the places that differ
unlike-many : (a b : List ℕ) → length (filter unlike (zip a b)) ≡ differing a b
unfolding differing
unlike-many [] b = refl
unlike-many (x ∷ a) [] = refl
unlike-many (x ∷ a) (y ∷ b) = go (unlike-many a b) (eqb x y) refl
  where
    go : length (filter unlike (zip a b)) ≡ differing a b → (t : Bool) → eqb x y ≡ t
        → length (filter unlike (zip (x ∷ a) (y ∷ b))) ≡ differing (x ∷ a) (y ∷ b)
    go rest true e = rw e (omega (arith, rest))
    go rest false e = rw e (omega (arith, rest))

pub pairs-differ : (a b : List ℕ) → count_by unlike (zip a b) ≡ differing a b
pairs-differ a b = sym (length-filter unlike (zip a b)) ∙ unlike-many a b

-- a row differs nowhere from itself
pub differing-self : (a : List ℕ) → differing a a ≡ 0
unfolding differing
differing-self [] = refl
differing-self (x ∷ a) = rw (eq-eqb x x refl, differing-self a)
