-- Lists compare as the same exactly if they are.
-- Assumes nothing.
use mathlib.Core.Path.{◌≡◌, refl, sym, ap₂, subst}
use mathlib.Core.Bool.{Bool, true, false, false≢true, and-eq-true_iff}
use mathlib.Core.List.{List, [], ◌∷◌}
use Prim.Native.Nat.{ℕ}
use lib.Dec.{eqb}
use borrow.Author.Tests.{eqb-true, eq-eqb}
use Rattle.lists.specs.Same.{same_list}

-- lists that compare as the same are the same, and a list compares so with itself
pub same_lists : (xs ys : List ℕ) → same_list xs ys ≡ true → xs ≡ ys
unfolding same_list
same_lists [] [] same = refl
same_lists [] (y ∷ ys) same = absurd (false≢true same)
same_lists (x ∷ xs) [] same = absurd (false≢true same)
same_lists (x ∷ xs) (y ∷ ys) same =
    let halves = (and-eq-true_iff (eqb x y) (same_list xs ys)).0 same in
    ap₂ ◌∷◌ (eqb-true x y halves.0) (same_lists xs ys halves.1)

pub same-itself : (xs : List ℕ) → same_list xs xs ≡ true
unfolding same_list
same-itself [] = refl
same-itself (x ∷ xs) = rw (eq-eqb x x refl) (same-itself xs)

-- an answer that is true exactly if two lists are the same is what the comparison says
pub tells-same : (xs ys : List ℕ) (r : Bool) → (r ≡ true → xs ≡ ys) × (xs ≡ ys → r ≡ true) → r ≡ same_list xs ys
tells-same xs ys true h = sym (subst (λ (l : List ℕ). same_list xs l ≡ true) (h.0 refl) (same-itself xs))
tells-same xs ys false h = by (same_list xs ys) refl
  where
    by : (t : Bool) → same_list xs ys ≡ t → false ≡ same_list xs ys
    by true e = absurd (false≢true (h.1 (same_lists xs ys e)))
    by false e = sym e
