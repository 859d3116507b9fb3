-- Tables and joins: how long they are and what stands where.
-- Assumes nothing.
use mathlib.Core.Path.{◌≡◌, refl, ap, sym, ◌∙◌}
use mathlib.Core.List.{List, [], ◌∷◌, ◌++◌, map}
use mathlib.Core.Logic.{⊎_elim}
use Prim.Native.Nat.{ℕ, zero, suc, ◌+◌, ◌*◌, ◌<◌, ◌≤◌}
use native.Mathlib.Nat.{suc-mul, zero-mul, not-suc-le-zero, zero-add, add-suc, suc-add, add-zero}
use native.Mathlib.Numerals.{add-one}
use native.Mathlib.Omega.{arith}
use lib.ListN.{length, get_or, replicate, length-append, length-replicate, get_or-replicate, get_or-append, get_or-eq_default}
use lib.Seq.{ext_get_or, get_or-append-add}
use Rattle.lists.specs.Tables.{from, tab, join_from, join}
use Rattle.lists.proofs.Numbers.{lt-or-ge}

module _ {ℓ} {A : Type ℓ} where
  -- a table that starts at i has as many elements as asked for
  length_from : (i n : ℕ) (f : ℕ → A) → length (from i n f) ≡ n
  unfolding from
  length_from i zero f = refl
  length_from i (suc n) f = ap suc (length_from (suc i) n f)

  -- its element k
  get_or-from : (i n : ℕ) (f : ℕ → A) (k : ℕ) (d : A) → k < n → get_or (from i n f) k d ≡ f (i + k)
  unfolding from
  get_or-from i zero f k d h = absurd (not-suc-le-zero h)
  get_or-from i (suc n) f zero d h = rw add-zero
  get_or-from i (suc n) f (suc k) d h = get_or-from (suc i) n f k d (omega arith) ∙ (rw (suc-add, add-suc))

  -- it has one more element at its end
  from_more : (i n : ℕ) (f : ℕ → A) → from i (suc n) f ≡ from i n f ++ (f (i + n) ∷ [])
  unfolding from
  from_more i zero f = rw add-zero
  from_more i (suc n) f = ap (λ (l : List A). f i ∷ l) (from_more (suc i) n f ∙ (rw (suc-add, add-suc)))

  -- a table has as many elements as asked for
  pub length-tab : (n : ℕ) (f : ℕ → A) → length (tab n f) ≡ n
  unfolding tab
  length-tab n f = length_from 0 n f

  -- element k of a table
  pub get_or-tab : (n : ℕ) (f : ℕ → A) (k : ℕ) (d : A) → k < n → get_or (tab n f) k d ≡ f k
  unfolding tab
  get_or-tab n f k d h = get_or-from 0 n f k d h ∙ (rw zero-add)

  -- a table with one more element has it at its end
  pub tab-more : (n : ℕ) (f : ℕ → A) → tab (n + 1) f ≡ tab n f ++ (f n ∷ [])
  unfolding tab
  tab-more n f = rw add-one (from_more 0 n f ∙ (rw zero-add))

  -- a list of a table's length and elements is the table
  pub tab-is : (d : A) (n : ℕ) (f : ℕ → A) (l : List A) → length l ≡ n → ((k : ℕ) → k < n → get_or l k d ≡ f k) → l ≡ tab n f
  tab-is d n f l len h =
      ext_get_or d l (tab n f) (len ∙ sym (length-tab n f)) (λ k b. h k (rw len at b) ∙ sym (get_or-tab n f k d (rw len at b)))

  -- a list is the table of its elements
  pub tab-of : (d : A) (l : List A) → l ≡ tab (length l) (λ k. get_or l k d)
  tab-of d l = tab-is d (length l) (λ k. get_or l k d) l refl (λ k b. refl)

  -- a table of one element again and again
  pub tab-const : (n : ℕ) (f : ℕ → A) (a : A) → ((k : ℕ) → k < n → f k ≡ a) → tab n f ≡ replicate n a
  tab-const n f a h =
      sym (tab-is a n f (replicate n a) (length-replicate n a) (λ k b. get_or-replicate n k a a b ∙ sym (h k b)))

  -- a list of one element again and again has it wherever it is read, past its end too
  pub replicate-at : (n k : ℕ) (a : A) → get_or (replicate n a) k a ≡ a
  replicate-at n k a =
      ⊎_elim
      (λ (h : k < n). get_or-replicate n k a a h)
      (λ (h : n ≤ k). get_or-eq_default (replicate n a) a (rw (length-replicate {A = A} n a) h))
      (lt-or-ge k n)

  -- tables that start at i, of functions that agree below their end
  from-same : (i n : ℕ) (f g : ℕ → A) → ((k : ℕ) → k < i + n → f k ≡ g k) → from i n f ≡ from i n g
  unfolding from
  from-same i zero f g h = refl
  from-same i (suc n) f g h = rw (h i (omega arith), from-same (suc i) n f g (λ k b. h k (omega arith)))

  -- tables of functions that agree below n
  pub tab-same : (n : ℕ) (f g : ℕ → A) → ((k : ℕ) → k < n → f k ≡ g k) → tab n f ≡ tab n g
  unfolding tab
  tab-same n f g h = from-same 0 n f g (λ k b. h k (rw zero-add at b))

  -- a join that starts at i of n lists of m elements
  length-join_from : (i n m : ℕ) (g : ℕ → List A) → ((k : ℕ) → length (g k) ≡ m) → length (join_from i n g) ≡ n * m
  unfolding join_from
  length-join_from i zero m g h = rw zero-mul
  length-join_from i (suc n) m g h = rw (length-append, h i, length-join_from (suc i) n m g h, suc-mul) (omega arith)

  -- element x of its list k
  get_or-join_from : (i n m : ℕ) (g : ℕ → List A) (d : A) → ((k : ℕ) → length (g k) ≡ m) → (k x : ℕ) → k < n → x < m
      → get_or (join_from i n g) (k * m + x) d ≡ get_or (g (i + k)) x d
  unfolding join_from
  get_or-join_from i zero m g d h k x a b = absurd (not-suc-le-zero a)
  get_or-join_from i (suc n) m g d h zero x a b =
      let e : zero * m + x ≡ x = rw zero-mul (omega arith) in
      rw (e, add-zero) (get_or-append (g i) (join_from (suc i) n g) d x (rw h b))
  get_or-join_from i (suc n) m g d h (suc k) x a b =
      let e : suc k * m + x ≡ length (g i) + (k * m + x) = rw (suc-mul, h i) (omega arith) in
      rw (e, get_or-append-add (g i) (join_from (suc i) n g) (k * m + x) d, get_or-join_from (suc i) n m g d h k x (omega arith) b, suc-add, add-suc)

  -- a join of n lists of m elements
  pub length-join : (n m : ℕ) (g : ℕ → List A) → ((k : ℕ) → length (g k) ≡ m) → length (join n g) ≡ n * m
  unfolding join
  length-join n m g h = length-join_from 0 n m g h

  -- element x of list k of a join
  pub get_or-join : (n m : ℕ) (g : ℕ → List A) (d : A) → ((k : ℕ) → length (g k) ≡ m) → (k x : ℕ) → k < n → x < m
      → get_or (join n g) (k * m + x) d ≡ get_or (g k) x d
  unfolding join
  get_or-join n m g d h k x a b = get_or-join_from 0 n m g d h k x a b ∙ (rw zero-add)

module _ {ℓ ℓ'} {A : Type ℓ} {B : Type ℓ'} where
  -- a function of each element of a table that starts at i
  map-from : (e : A → B) (i n : ℕ) (f : ℕ → A) → map e (from i n f) ≡ from i n (λ k. e (f k))
  unfolding from
  map-from e i zero f = refl
  map-from e i (suc n) f = ap (λ (l : List B). e (f i) ∷ l) (map-from e (suc i) n f)

  -- a function of each element of a table
  pub map-tab : (e : A → B) (n : ℕ) (f : ℕ → A) → map e (tab n f) ≡ tab n (λ k. e (f k))
  unfolding tab
  map-tab e n f = map-from e 0 n f

  -- what a mapped list holds in a place that it has
  pub get_d_map : (e : A → B) (l : List A) (m : ℕ) (d : B) (d' : A) → m < length l → get_or (map e l) m d ≡ e (get_or l m d')
  get_d_map e [] m d d' h = absurd (not-suc-le-zero h)
  get_d_map e (a ∷ l) zero d d' h = refl
  get_d_map e (a ∷ l) (suc m) d d' h = get_d_map e l m d d' (omega arith)
