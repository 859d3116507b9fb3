-- What a test keeps of a list: of two lists after one another, and of a table with one element more.
-- Assumes nothing.
use mathlib.Core.Path.{◌≡◌, refl, ap, subst, sym, ◌∙◌}
use mathlib.Core.Bool.{Bool, true, false}
use mathlib.Core.List.{List, [], ◌∷◌, ◌++◌, append-nil}
use Prim.Native.Nat.{ℕ, suc, ◌+◌, ◌≤◌}
use native.Mathlib.Omega.{arith}
use lib.ListN.{length}
use Rattle.lists.specs.Tables.{tab, keep}
use Rattle.lists.proofs.Tables.{tab-more}

module _ {ℓ} {A : Type ℓ} (test : A → Bool) where
  -- an element that passes is kept
  pub keep-yes : (x : A) (xs : List A) → test x ≡ true → keep test (x ∷ xs) ≡ x ∷ keep test xs
  unfolding keep
  keep-yes x xs e = subst (λ (t : Bool). ◌≡◌ {A = List A} (elim t [ true ↦ x ∷ keep test xs | false ↦ keep test xs ]) (x ∷ keep test xs)) (sym e) refl

  -- an element that does not pass is left out
  pub keep-no : (x : A) (xs : List A) → test x ≡ false → keep test (x ∷ xs) ≡ keep test xs
  unfolding keep
  keep-no x xs e = subst (λ (t : Bool). ◌≡◌ {A = List A} (elim t [ true ↦ x ∷ keep test xs | false ↦ keep test xs ]) (keep test xs)) (sym e) refl

  -- of nothing, nothing
  pub keep-nil : keep test [] ≡ []
  unfolding keep
  keep-nil = refl

  -- what is kept of two lists
  pub keep_append : (xs ys : List A) → keep test (xs ++ ys) ≡ keep test xs ++ keep test ys
  keep_append [] ys = rw keep-nil
  keep_append (x ∷ xs) ys = go (keep_append xs ys) (test x) refl
    where
      go : keep test (xs ++ ys) ≡ keep test xs ++ keep test ys → (t : Bool) → test x ≡ t
          → keep test (x ∷ (xs ++ ys)) ≡ keep test (x ∷ xs) ++ keep test ys
      go h true e = rw (keep-yes x (xs ++ ys) e, keep-yes x xs e) (ap (λ (l : List A). x ∷ l) h)
      go h false e = rw (keep-no x (xs ++ ys) e, keep-no x xs e) h

  -- a test keeps no more than there is
  pub length-keep : (xs : List A) → length (keep test xs) ≤ length xs
  length-keep [] = rw keep-nil (omega arith)
  length-keep (x ∷ xs) = go (length-keep xs) (test x) refl
    where
      go : length (keep test xs) ≤ length xs → (t : Bool) → test x ≡ t → length (keep test (x ∷ xs)) ≤ suc (length xs)
      go h true e = rw (keep-yes x xs e) (omega arith)
      go h false e = rw (keep-no x xs e) (omega arith)

  -- the table's next element passes
  pub keep-more : (n : ℕ) (f : ℕ → A) → test (f n) ≡ true → keep test (tab (n + 1) f) ≡ keep test (tab n f) ++ (f n ∷ [])
  keep-more n f e = rw (tab-more n f) (keep_append (tab n f) (f n ∷ []) ∙ (rw (keep-yes (f n) [] e, keep-nil)))

  -- the table's next element does not pass
  pub keep_same : (n : ℕ) (f : ℕ → A) → test (f n) ≡ false → keep test (tab (n + 1) f) ≡ keep test (tab n f)
  keep_same n f e = rw (tab-more n f) (keep_append (tab n f) (f n ∷ []) ∙ (rw (keep-no (f n) [] e, keep-nil)) ∙ append-nil (keep test (tab n f)))
