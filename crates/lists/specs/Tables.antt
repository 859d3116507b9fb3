-- Lists made from functions: tables, joins, what a test keeps, and a list with a run of its places replaced.
-- Assumes nothing.
use Rattle.std.specs.Prelude.{Bool, true, false, List, [], ◌∷◌, ◌++◌, ℕ, zero, suc, ◌+◌, set}

module _ {ℓ} {A : Type ℓ} where
  -- f i, f (i + 1), ..: n of them
  unfoldable pub from : ℕ → ℕ → (ℕ → A) → List A
  from i zero f = []
  from i (suc n) f = f i ∷ from (suc i) n f

  -- f 0 to f (n - 1)
  unfoldable pub tab : ℕ → (ℕ → A) → List A
  tab n f = from 0 n f

  -- g i ++ g (i + 1) ++ ..: n of them
  unfoldable pub join_from : ℕ → ℕ → (ℕ → List A) → List A
  join_from i zero g = []
  join_from i (suc n) g = g i ++ join_from (suc i) n g

  -- g 0 ++ .. ++ g (n - 1)
  unfoldable pub join : ℕ → (ℕ → List A) → List A
  join n g = join_from 0 n g

  -- the elements that pass the test, in their order
  unfoldable pub keep : (A → Bool) → List A → List A
  keep test [] = []
  keep test (x ∷ xs) = elim (test x) [ true ↦ x ∷ keep test xs | false ↦ keep test xs ]

  -- l with its n places from `at` on replaced by f 0 to f (n - 1)
  unfoldable pub put : List A → ℕ → ℕ → (ℕ → A) → List A
  put l at zero f = l
  put l at (suc n) f = set (put l at n f) (at + n) (f n)
