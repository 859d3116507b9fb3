-- A list with a run of its places replaced: its length, what stands where, and how runs and stores follow one another.
-- Assumes nothing.
use mathlib.Core.Path.{◌≡◌, refl, ap, ap₂, sym, ◌∙◌}
use mathlib.Core.Logic.{◌⊎◌, inl, inr, ⊎_elim}
use mathlib.Core.List.{List, ◌++◌}
use Prim.Native.Nat.{ℕ, zero, suc, ◌+◌, ◌-◌, ◌≤◌, ◌<◌}
use native.Mathlib.Nat.{not-suc-le-zero, zero-add, add-zero, add-suc, add_assoc}
use native.Mathlib.Numerals.{add-one}
use native.Mathlib.Omega.{arith}
use lib.ListN.{length, get_or, set, drop, length-set, length-append, length-drop, get_or-append}
use lib.Seq.{get_or-set_same, get_or-set_other, set_comm, set-append_left, set-get_or, ext_get_or, get_or-append-add, get_or-drop}
use Rattle.lists.specs.Tables.{tab, put}
use Rattle.lists.proofs.Numbers.{lt-or-ge}
use Rattle.lists.proofs.Tables.{length-tab, get_or-tab}

module _ {ℓ} {A : Type ℓ} where
  -- the length stays
  pub length-put : (l : List A) (at n : ℕ) (f : ℕ → A) → length (put l at n f) ≡ length l
  unfolding put
  length-put l at zero f = refl
  length-put l at (suc n) f = length-set (put l at n f) (at + n) (f n) ∙ length-put l at n f

  -- no place replaced
  pub put-none : (l : List A) (at : ℕ) (f : ℕ → A) → put l at 0 f ≡ l
  unfolding put
  put-none l at f = refl

  -- one place more
  pub put-more : (l : List A) (at n : ℕ) (f : ℕ → A) → set (put l at n f) (at + n) (f n) ≡ put l at (n + 1) f
  unfolding put
  put-more l at n f = rw add-one

  -- one place more of a run from the first place on
  pub put_next : (l : List A) (n : ℕ) (f : ℕ → A) (v : A) → v ≡ f n → set (put l 0 n f) n v ≡ put l 0 (n + 1) f
  put_next l n f v e = ap₂ (λ (i : ℕ) (a : A). set (put l 0 n f) i a) (sym (zero-add n)) e ∙ put-more l 0 n f

  -- outside the run nothing changes
  pub put-out : (l : List A) (at n : ℕ) (f : ℕ → A) (k : ℕ) (d : A) → (k < at) ⊎ (at + n ≤ k) → get_or (put l at n f) k d ≡ get_or l k d
  unfolding put
  put-out l at zero f k d h = refl
  put-out l at (suc n) f k d h =
      get_or-set_other (put l at n f) (at + n) k (f n) d (λ e. ⊎_elim (λ p. omega arith) (λ p. omega arith) h)
      ∙ put-out l at n f k d (⊎_elim (λ p. inl p) (λ p. inr (omega arith)) h)

  -- inside it the new elements stand
  pub put_in : (l : List A) (at n : ℕ) (f : ℕ → A) (i : ℕ) (d : A) → i < n → at + n ≤ length l → get_or (put l at n f) (at + i) d ≡ f i
  unfolding put
  put_in l at zero f i d h fit = absurd (not-suc-le-zero h)
  put_in l at (suc n) f i d h fit =
      ⊎_elim
      (λ (b : i < n). get_or-set_other (put l at n f) (at + n) (at + i) (f n) d (λ e. omega arith) ∙ put_in l at n f i d b (omega arith))
      (λ (b : n ≤ i). let e : i ≡ n = omega arith in rw e (get_or-set_same (put l at n f) (at + n) (f n) d (rw length-put (omega arith))))
      (lt-or-ge i n)

  -- a run in the first of two lists
  pub put-append : (l m : List A) (at n : ℕ) (f : ℕ → A) → at + n ≤ length l → put (l ++ m) at n f ≡ put l at n f ++ m
  unfolding put
  put-append l m at zero f h = refl
  put-append l m at (suc n) f h =
      rw (put-append l m at n f (omega arith)) (set-append_left (put l at n f) m (at + n) (f n) (rw length-put (omega arith)))

  -- a store outside the run may come before it
  pub set-put : (l : List A) (at n : ℕ) (f : ℕ → A) (k : ℕ) (v : A) → (k < at) ⊎ (at + n ≤ k) → set (put l at n f) k v ≡ put (set l k v) at n f
  unfolding put
  set-put l at zero f k v h = refl
  set-put l at (suc n) f k v h =
      set_comm (put l at n f) (at + n) k (f n) v (λ e. ⊎_elim (λ p. omega arith) (λ p. omega arith) h)
      ∙ (rw (set-put l at n f k v (⊎_elim (λ p. inl p) (λ p. inr (omega arith)) h)))

  -- a run of what stands there changes nothing
  pub put-kept : (l : List A) (at n : ℕ) (f : ℕ → A) (d : A) → ((i : ℕ) → i < n → f i ≡ get_or l (at + i) d) → put l at n f ≡ l
  unfolding put
  put-kept l at zero f d h = refl
  put-kept l at (suc n) f d h = rw (put-kept l at n f d (λ i b. h i (omega arith)), h n (omega arith)) (set-get_or l (at + n) d)

  -- two runs that are apart may come in either order
  pub put-put : (l : List A) (at n : ℕ) (f : ℕ → A) (at' n' : ℕ) (f' : ℕ → A) → (at + n ≤ at') ⊎ (at' + n' ≤ at)
      → put (put l at n f) at' n' f' ≡ put (put l at' n' f') at n f
  unfolding put
  put-put l at n f at' zero f' h = refl
  put-put l at n f at' (suc n') f' h =
      rw (put-put l at n f at' n' f' (⊎_elim (λ p. inl p) (λ p. inr (omega arith)) h))
      (set-put (put l at' n' f') at n f (at' + n') (f' n') (⊎_elim (λ p. inr (omega arith)) (λ p. inl (omega arith)) h))

  -- a run in two parts, the first part first
  pub put-parts : (l : List A) (at m n : ℕ) (f : ℕ → A) → put (put l at m f) (at + m) n (λ i. f (m + i)) ≡ put l at (m + n) f
  unfolding put
  put-parts l at m zero f = rw add-zero
  put-parts l at m (suc n) f = rw (put-parts l at m n f, add-suc m n, ← add_assoc at m n)

  -- a run in two parts, the second part first
  pub put-parts-back : (l : List A) (at m n : ℕ) (f : ℕ → A) → put (put l (at + m) n (λ i. f (m + i))) at m f ≡ put l at (m + n) f
  put-parts-back l at m n f = put-put l (at + m) n (λ i. f (m + i)) at m f (inr (omega arith)) ∙ put-parts l at m n f

  -- runs of functions that agree below n
  pub put_same : (l : List A) (at n : ℕ) (f g : ℕ → A) → ((i : ℕ) → i < n → f i ≡ g i) → put l at n f ≡ put l at n g
  unfolding put
  put_same l at zero f g h = refl
  put_same l at (suc n) f g h = rw (put_same l at n f g (λ i b. h i (omega arith)), h n (omega arith))

  -- a run from the first place on is a table, and the rest stays
  pub put_front : (d : A) (l : List A) (n : ℕ) (f : ℕ → A) → n ≤ length l → put l 0 n f ≡ tab n f ++ drop n l
  put_front d l n f h =
      let long : length (tab n f ++ drop n l) ≡ length l = rw (length-append, length-tab, length-drop) (omega arith) in
      ext_get_or d (put l 0 n f) (tab n f ++ drop n l) (length-put l 0 n f ∙ sym long) (λ k b. at k (rw length-put at b))
    where
      at : (k : ℕ) → k < length l → get_or (put l 0 n f) k d ≡ get_or (tab n f ++ drop n l) k d
      at k b =
          ⊎_elim
          (λ (c : k < n).
          ap (λ (i : ℕ). get_or (put l 0 n f) i d) (sym (zero-add k))
          ∙ put_in l 0 n f k d c (omega arith)
          ∙ sym (get_or-append (tab n f) (drop n l) d k (rw length-tab c) ∙ get_or-tab n f k d c))
          (λ (c : n ≤ k).
          let e : k ≡ length (tab n f) + (k - n) = rw length-tab (omega arith) in
          put-out l 0 n f k d (inr (omega arith))
          ∙ sym
          (ap (λ (i : ℕ). get_or (tab n f ++ drop n l) i d) e
          ∙ get_or-append-add (tab n f) (drop n l) (k - n) d
          ∙ get_or-drop n l (k - n) d
          ∙ ap (λ (i : ℕ). get_or l i d) (omega arith)))
          (lt-or-ge k n)
