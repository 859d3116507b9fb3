-- The points from sets of ordinates. Document 01, "Fields and curve", gives the sets of q = 4: 0, 1, 6, 7 above an x with x⁵ = 0;
-- 2, 3, 4, 5 above 1; 10, 11, 12, 13 above 6; 8, 9, 14, 15 above 7.
-- Assumes nothing.
use Rattle.std.specs.Prelude.{cond, List, [], ◌∷◌, ℕ, ◌+◌, ◌%◌, eqb, get_or}
use Rattle.algebra.specs.Symbols.{power}
use Rattle.symbols.specs.Rule.{symbols, number, symbol}

-- the four sets for q = 4
unfoldable pub sets4 : List (List ℕ)
sets4 = (0 ∷ 1 ∷ 6 ∷ 7 ∷ []) ∷ (2 ∷ 3 ∷ 4 ∷ 5 ∷ []) ∷ (10 ∷ 11 ∷ 12 ∷ 13 ∷ []) ∷ (8 ∷ 9 ∷ 14 ∷ 15 ∷ []) ∷ []

-- the place among them of the one that belongs to x⁵
unfoldable pub set_place : ℕ → ℕ
set_place norm = cond (eqb norm 0) 0 (cond (eqb norm 1) 1 (cond (eqb norm 6) 2 3))

-- the two sets for q = 2, with zeros up to four places: x³ = 0: 0, 1; x³ = 1: 2, 3
unfoldable pub sets2 : List (List ℕ)
sets2 = (0 ∷ 1 ∷ 0 ∷ 0 ∷ []) ∷ (2 ∷ 3 ∷ 0 ∷ 0 ∷ []) ∷ []

-- the set that belongs to x^(q+1)
unfoldable pub ordinate_set : ℕ → ℕ → List ℕ
ordinate_set q norm = cond (eqb q 4) (get_or sets4 (set_place norm) []) (get_or sets2 (norm % 2) [])

-- the ordinates above x
unfoldable pub ordinates_above : ℕ → ℕ → List ℕ
ordinates_above q x = ordinate_set q (number q (power (symbols q) (symbol q x) (q + 1)))
