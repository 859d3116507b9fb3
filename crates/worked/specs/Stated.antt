-- Numbers that document 01 states outside its hand-worked table, as one record over the definitions.
-- Assumes nothing.
use Rattle.std.specs.Prelude.{◌≡◌, List, [], ◌∷◌, map, ℕ, eqb}
use Rattle.algebra.specs.Symbols.{power}
use Rattle.algebra.specs.Weights.{gap}
use Rattle.lists.specs.Tables.{tab, keep}
use Rattle.symbols.specs.Rule.{symbols, number, symbol}
use Rattle.curve.specs.Points.{points}
use Rattle.curve.specs.Codes.{point_count, dimension, reach}
use Rattle.published.specs.Start.{start_weight, step_count}
use Rattle.published.specs.Picture.{area_size}

-- the product of two symbols of q = 2, as numbers
unfoldable pub product2 : ℕ → ℕ → ℕ
product2 a b = number 2 ((symbols 2).◌⊗◌ (symbol 2 a) (symbol 2 b))

-- a^n for a = 2 and q = 4
unfoldable pub power_of2 : ℕ → ℕ
power_of2 n = number 4 (power (symbols 4) (symbol 4 2) n)

-- the gaps below q³
unfoldable pub gaps : ℕ → List ℕ
gaps q = keep (gap q) (tab (point_count q) (λ s. s))

-- the ordinates above x for q = 4
unfoldable pub ordinates : ℕ → List ℕ
ordinates x = map (λ P. number 4 P.y) (keep (λ P. eqb (number 4 P.x) x) (points (symbols 4) 4))

pub record Stated : Type 0 where
  -- products for q = 2
  pub two-two : product2 2 2 ≡ 3
  pub two-three : product2 2 3 ≡ 1
  pub three-three : product2 3 3 ≡ 2
  -- the powers of a
  pub powers-of-a : tab 15 power_of2 ≡ 1 ∷ 2 ∷ 4 ∷ 8 ∷ 3 ∷ 6 ∷ 12 ∷ 11 ∷ 5 ∷ 10 ∷ 7 ∷ 14 ∷ 15 ∷ 13 ∷ 9 ∷ []
  -- the gaps
  pub gaps-2 : gaps 2 ≡ 1 ∷ []
  pub gaps-4 : gaps 4 ≡ 1 ∷ 2 ∷ 3 ∷ 6 ∷ 7 ∷ 11 ∷ []
  -- the four sets of ordinates, for x⁵ = 0, 1, 6, 7; one x of each kind
  pub above-0 : ordinates 0 ≡ 0 ∷ 1 ∷ 6 ∷ 7 ∷ []
  pub above-1 : ordinates 1 ≡ 2 ∷ 3 ∷ 4 ∷ 5 ∷ []
  pub above-2 : ordinates 2 ≡ 10 ∷ 11 ∷ 12 ∷ 13 ∷ []
  pub above-4 : ordinates 4 ≡ 8 ∷ 9 ∷ 14 ∷ 15 ∷ []
  -- the tape code's n, k and τ
  pub tape-n : point_count 4 ≡ 64
  pub tape-k : dimension 4 45 ≡ 40
  pub tape-reach : reach 4 45 ≡ 9
  -- start weights, steps and sizes of the work area
  pub start-2 : start_weight 2 ≡ 9
  pub start-4 : start_weight 4 ≡ 75
  pub steps-2 : step_count 2 ≡ 10
  pub steps-4 : step_count 4 ≡ 76
  pub area-2 : area_size 2 ≡ 112
  pub area-4 : area_size 4 ≡ 1472
