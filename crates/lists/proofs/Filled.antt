-- A list whose first n places are a table and whose others are as they were: filled from the front, one store at a time.
-- Assumes nothing.
use mathlib.Core.Path.{◌≡◌, refl, sym, ◌∙◌}
use mathlib.Core.List.{List, [], ◌∷◌, ◌++◌, append_assoc, append-nil}
use Prim.Native.Nat.{ℕ, suc, ◌+◌, ◌≤◌, ◌<◌}
use native.Mathlib.Numerals.{add-one}
use native.Mathlib.Omega.{arith}
use lib.ListN.{length, drop, set, length-append, length-drop, drop_of_length-le}
use lib.Seq.{drop-cons, set_at}
use Rattle.lists.specs.Tables.{from, tab}
use Rattle.lists.proofs.Tables.{length-tab, tab-more}

module _ {ℓ} {A : Type ℓ} where
  -- none are filled
  pub fill_none : (f : ℕ → A) (l : List A) → tab 0 f ++ drop 0 l ≡ l
  unfolding tab from
  fill_none f l = refl

  -- one place more is one store
  pub fill-next : (f : ℕ → A) (n : ℕ) (l : List A) → n < length l
      → set (tab n f ++ drop n l) n (f n) ≡ tab (n + 1) f ++ drop (n + 1) l
  fill-next f n l less =
      rw (drop-cons l n (f n), tab-more n f, add-one n)
      (set_at (tab n f) _ _ (f n) n (length-tab n f) ∙ sym (append_assoc (tab n f) (f n ∷ []) (drop (suc n) l)))

  -- all are filled
  pub fill-all : (f : ℕ → A) (n : ℕ) (l : List A) → length l ≤ n → tab n f ++ drop n l ≡ tab n f
  fill-all f n l all = rw (drop_of_length-le l all) (append-nil (tab n f))

  -- the length stays
  pub fill-length : (f : ℕ → A) (n : ℕ) (l : List A) → n ≤ length l → length (tab n f ++ drop n l) ≡ length l
  fill-length f n l fits = omega (arith, length-append (tab n f) (drop n l), length-tab n f, length-drop n l)
