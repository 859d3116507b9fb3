-- A list laid out in P groups of R rows of W elements: what stands where, and what a new row does to it.
-- Assumes nothing.
use mathlib.Core.Path.{◌≡◌, ap, sym, ◌∙◌}
use mathlib.Core.List.{List, ◌++◌}
use mathlib.Core.Logic.{◌⊎◌, inl, inr, ⊎_elim}
use Prim.Native.Nat.{ℕ, ◌+◌, ◌*◌, ◌/◌, ◌%◌, ◌≤◌, ◌<◌}
use native.Mathlib.Nat.{add-mul, mul_assoc, div-add-mod', mod-lt, div-lt_iff_lt-mul}
use native.Mathlib.Omega.{arith}
use lib.ListN.{length, get_or, get_or-append}
use lib.Seq.{ext_get_or}
use Rattle.lists.specs.Tables.{tab, join, put}
use Rattle.lists.proofs.Numbers.{same-or-apart, same_or_not, row_fits, factor-positive}
use Rattle.lists.proofs.Tables.{length-tab, get_or-tab, length-join, get_or-join}
use Rattle.lists.proofs.Put.{length-put, put_in, put-out, put-append}

module _ (P R W : ℕ) where
  -- a row of the grid ends within it
  pub row_within : (p r : ℕ) → p < P → r < R → (p * R + r) * W + W ≤ P * (R * W)
  row_within p r hp hr =
      let a : p * R + R ≤ P * R = row_fits R hp in
      let b : p * R + r < P * R = omega arith in
      rw (← mul_assoc P R W) (row_fits W b)

  -- two rows of the grid are apart
  pub rows_apart : (p r p' r' : ℕ) → r < R → r' < R → (p ≡ p' → r ≡ r' → ⊥)
      → ((p * R + r) * W + W ≤ (p' * R + r') * W) ⊎ ((p' * R + r') * W + W ≤ (p * R + r) * W)
  rows_apart p r p' r' hr hr' ne =
      ⊎_elim
      (λ (e : p ≡ p'). ⊎_elim
      (λ (d : r ≡ r'). absurd (ne e d))
      (λ d. ⊎_elim
      (λ (h : r < r'). inl (row_fits W (let z : p * R ≡ p' * R = ap (λ (n : ℕ). n * R) e in omega arith)))
      (λ (h : r' < r). inr (row_fits W (let z : p * R ≡ p' * R = ap (λ (n : ℕ). n * R) e in omega arith)))
      d)
      (same-or-apart r r'))
      (λ d. ⊎_elim
      (λ (h : p < p'). inl (row_fits W (let z = row_fits R h in omega arith)))
      (λ (h : p' < p). inr (row_fits W (let z = row_fits R h in omega arith)))
      d)
      (same-or-apart p p')

module _ {ℓ} {A : Type ℓ} (P R W : ℕ) where
  -- G p r x is element x of row r of group p
  unfoldable pub grid : (ℕ → ℕ → ℕ → A) → List A
  grid G = join P (λ p. join R (λ r. tab W (G p r)))

  -- how long a group is
  length-group : (G : ℕ → ℕ → ℕ → A) (p : ℕ) → length (join R (λ r. tab W (G p r))) ≡ R * W
  length-group G p = length-join R W (λ r. tab W (G p r)) (λ r. length-tab W (G p r))

  -- how long a grid is
  pub length-grid : (G : ℕ → ℕ → ℕ → A) → length (grid G) ≡ P * (R * W)
  unfolding grid
  length-grid G = length-join P (R * W) (λ p. join R (λ r. tab W (G p r))) (length-group G)

  -- what stands at element x of row r of group p
  pub grid-at : (d : A) (G : ℕ → ℕ → ℕ → A) (p r x : ℕ) → p < P → r < R → x < W → get_or (grid G) ((p * R + r) * W + x) d ≡ G p r x
  unfolding grid
  grid-at d G p r x hp hr hx =
      let e : (p * R + r) * W + x ≡ p * (R * W) + (r * W + x) = rw (add-mul, mul_assoc) (omega arith) in
      let f = row_fits W hr in
      rw e
      (get_or-join P (R * W) (λ p. join R (λ r. tab W (G p r))) d (length-group G) p (r * W + x) hp (omega arith)
      ∙ get_or-join R W (λ r. tab W (G p r)) d (λ r. length-tab W (G p r)) r x hr hx
      ∙ get_or-tab W (G p r) x d hx)

  -- the same in a list that starts with the grid
  pub grid-read : (d : A) (G : ℕ → ℕ → ℕ → A) (l rest : List A) → l ≡ grid G ++ rest → (p r x : ℕ) → p < P → r < R → x < W
      → get_or l ((p * R + r) * W + x) d ≡ G p r x
  grid-read d G l rest e p r x hp hr hx =
      let fits = row_within P R W p r hp hr in
      rw e
      (get_or-append (grid G) rest d ((p * R + r) * W + x) (rw length-grid (omega arith))
      ∙ grid-at d G p r x hp hr hx)

  -- a list of a grid's length and elements is the grid
  pub grid-is : (d : A) (l : List A) (G : ℕ → ℕ → ℕ → A) → length l ≡ P * (R * W)
      → ((p r x : ℕ) → p < P → r < R → x < W → get_or l ((p * R + r) * W + x) d ≡ G p r x) → l ≡ grid G
  grid-is d l G len h =
      ext_get_or d l (grid G) (len ∙ sym (length-grid G)) (λ k b. at k (rw len at b))
    where
      here : {i j : ℕ} → i ≡ j → get_or l j d ≡ get_or (grid G) j d → get_or l i d ≡ get_or (grid G) i d
      here e h = rw e h

      at : (k : ℕ) → k < P * (R * W) → get_or l k d ≡ get_or (grid G) k d
      at k b =
          let b' : k < P * R * W = rw mul_assoc b in
          let w : 0 < W = factor-positive (P * R) W k b' in
          let n : k / W < P * R = (div-lt_iff_lt-mul w).1 b' in
          let u : 0 < R = factor-positive P R (k / W) n in
          let p : k / W / R < P = (div-lt_iff_lt-mul u).1 n in
          let r = mod-lt (k / W) u in
          let x = mod-lt k w in
          let e : k ≡ (k / W / R * R + k / W % R) * W + k % W = rw (div-add-mod' (k / W) R, div-add-mod' k W) in
          here e (h (k / W / R) (k / W % R) (k % W) p r x ∙ sym (grid-at d G (k / W / R) (k / W % R) (k % W) p r x))

  -- grids with the same elements
  pub grid-same : (d : A) (G G' : ℕ → ℕ → ℕ → A) → ((p r x : ℕ) → p < P → r < R → x < W → G p r x ≡ G' p r x) → grid G ≡ grid G'
  grid-same d G G' h =
      grid-is d (grid G) G' (length-grid G) (λ p r x hp hr hx. grid-at d G p r x hp hr hx ∙ h p r x hp hr hx)

  -- a new row, in a list that starts with the grid
  pub grid-put : (d : A) (G G' : ℕ → ℕ → ℕ → A) (rest : List A) (p r : ℕ) (v : ℕ → A) → p < P → r < R
      → ((x : ℕ) → x < W → v x ≡ G' p r x)
      → ((p' r' x : ℕ) → (p' ≡ p → r' ≡ r → ⊥) → G' p' r' x ≡ G p' r' x)
      → put (grid G ++ rest) ((p * R + r) * W) W v ≡ grid G' ++ rest
  grid-put d G G' rest p r v hp hr new old =
      put-append (grid G) rest ((p * R + r) * W) W v (rw length-grid (row_within P R W p r hp hr))
      ∙ ap (λ (l : List A). l ++ rest) (grid-is d (put (grid G) ((p * R + r) * W) W v) G' (rw (length-put, length-grid)) at)
    where
      at : (p' r' x : ℕ) → p' < P → r' < R → x < W → get_or (put (grid G) ((p * R + r) * W) W v) ((p' * R + r') * W + x) d ≡ G' p' r' x
      at p' r' x hp' hr' hx =
          ⊎_elim
          (λ (e : p' ≡ p). ⊎_elim (λ (f : r' ≡ r). here e f) (λ f. there (λ z y. f y)) (same_or_not r' r))
          (λ f. there (λ z y. f z))
          (same_or_not p' p)
        where
          here : p' ≡ p → r' ≡ r → get_or (put (grid G) ((p * R + r) * W) W v) ((p' * R + r') * W + x) d ≡ G' p' r' x
          here e f =
              rw (e, f) (put_in (grid G) ((p * R + r) * W) W v x d hx (rw length-grid (row_within P R W p r hp hr)) ∙ new x hx)

          there : (p' ≡ p → r' ≡ r → ⊥) → get_or (put (grid G) ((p * R + r) * W) W v) ((p' * R + r') * W + x) d ≡ G' p' r' x
          there ne =
              put-out (grid G) ((p * R + r) * W) W v ((p' * R + r') * W + x) d
              (⊎_elim (λ h. inl (omega arith)) (λ h. inr (omega arith)) (rows_apart P R W p' r' p r hr' hr ne))
              ∙ grid-at d G p' r' x hp' hr' hx
              ∙ sym (old p' r' x ne)
