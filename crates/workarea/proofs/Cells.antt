-- The cells and the bytes that show them: what is read, what a new row does, and cells with some rows replaced.
-- Assumes nothing.
use mathlib.Core.Path.{◌≡◌, refl, sym, ap, ◌∙◌, subst}
use mathlib.Core.Bool.{Bool, true, false, ◌&&◌}
use mathlib.Core.List.{List, ◌++◌}
use mathlib.Core.Logic.{◌⊎◌, inl, inr, ⊎_elim}
use Prim.Native.Nat.{ℕ, ◌+◌, ◌-◌, ◌*◌, ◌<◌, ◌≤◌}
use native.Mathlib.Nat.{mul_assoc, mul_comm}
use native.Mathlib.Omega.{arith}
use lib.Dec.{eqb, leb, ltb}
use lib.ListN.{get_or}
use borrow.Author.Tests.{eq-eqb, ne_eqb, le-leb, lt-leb, lt-ltb, le-ltb}
use Rattle.lists.specs.Tables.{put}
use Rattle.lists.proofs.Numbers.{lt-or-ge, same_or_not}
use Rattle.lists.proofs.Grid.{grid, row_within, rows_apart, grid-read, grid-same, grid-put}
use Rattle.symbols.specs.Rule.{symbols, Sym, number}
use Rattle.published.specs.Start.{Polynomials, width}
use Rattle.published.specs.Picture.{area_size, layout, cell_number, picture}
use Rattle.workarea.specs.Area.{Area, row_place, Cells, cells_of, numbers, shown, Turns, with_rows}

-- the area's size as rows of rows
pub size_is : (q : ℕ) → area_size q ≡ 2 * q * (2 * q * width q)
unfolding area_size
size_is q =
    let square : 2 * q * (2 * q) ≡ 4 * (q * q) = mul_assoc 2 q (2 * q) ∙ (rw (mul_comm q (2 * q), mul_assoc 2 q q) (omega arith)) in
    ap (λ (n : ℕ). n * width q) (sym square) ∙ mul_assoc (2 * q) (2 * q) (width q)

-- a row of the area ends within it
pub row_fits : {q n : ℕ} (p r : ℕ) → Area q n → p < 2 * q → r < 2 * q → row_place q p r + width q ≤ n
unfolding row_place
row_fits {q} p r area hp hr = omega (arith, area.room, size_is q, row_within (2 * q) (2 * q) (width q) p r hp hr)

-- two rows of the area are apart
pub rows_differ : (q p r p' r' : ℕ) → r < 2 * q → r' < 2 * q → (p ≡ p' → r ≡ r' → ⊥)
    → (row_place q p r + width q ≤ row_place q p' r') ⊎ (row_place q p' r' + width q ≤ row_place q p r)
unfolding row_place
rows_differ q p r p' r' = rows_apart (2 * q) (2 * q) (width q) p r p' r'

-- another list of the same length has the same room
pub still : {q n m : ℕ} → Area q n → m ≡ n → Area q m
still a e = rw e a

module _ (q : ℕ) where
  -- the cells as a grid
  shown-grid : (S : Cells q) → shown q S ≡ grid (2 * q) (2 * q) (width q) (numbers q S)
  unfolding shown layout grid
  shown-grid S = refl

  -- the picture of the decoder's polynomials shows their cells
  pub picture-is : (S : Polynomials (symbols q) q) → picture (symbols q) q S ≡ shown q (cells_of q S)
  unfolding picture cell_number shown numbers cells_of
  picture-is S = refl

  -- what is read in the bytes
  pub shown_read : (S : Cells q) (l rest : List ℕ) → l ≡ shown q S ++ rest → (p r i : ℕ) → p < 2 * q → r < 2 * q → i < width q
      → get_or l (row_place q p r + i) 0 ≡ number q (S p r i)
  unfolding row_place numbers
  shown_read S l rest e = grid-read (2 * q) (2 * q) (width q) 0 (numbers q S) l rest (e ∙ (rw (shown-grid S)))

  -- the same symbols show the same bytes
  pub shown-same : (S T : Cells q) → ((p r i : ℕ) → p < 2 * q → r < 2 * q → i < width q → S p r i ≡ T p r i) → shown q S ≡ shown q T
  unfolding numbers
  shown-same S T h =
      shown-grid S
      ∙ grid-same (2 * q) (2 * q) (width q) 0 (numbers q S) (numbers q T) (λ p r i hp hr hi. ap (number q) (h p r i hp hr hi))
      ∙ sym (shown-grid T)

  -- ---- rows replaced

  -- row r of polynomial p' is among the replaced ones
  abbrev inside : ℕ → ℕ → ℕ → ℕ → ℕ → Bool
  inside p d n p' r = eqb p' p && (leb d r && ltb r (d + n))

  inside-yes : (p d n r : ℕ) → d ≤ r → r < d + n → inside p d n p r ≡ true
  inside-yes p d n r h k = rw (eq-eqb p p refl, le-leb d r h, lt-ltb r (d + n) k)

  inside-no : (p d n p' r : ℕ) → (p' ≡ p → (r < d) ⊎ (d + n ≤ r)) → inside p d n p' r ≡ false
  inside-no p d n p' r out =
      ⊎_elim
      (λ (e : p' ≡ p). ⊎_elim
      (λ (h : r < d). rw (eq-eqb p' p e, lt-leb d r h))
      (λ (h : d + n ≤ r). rw (eq-eqb p' p e, le-leb d r (omega arith), le-ltb r (d + n) h))
      (out e))
      (λ ne. rw (ne_eqb p' p ne))
      (same_or_not p' p)

  module _ (p d n : ℕ) (F : ℕ → ℕ → Sym q) (S : Cells q) where
    -- a replaced row
    pub rows_in : (j i : ℕ) → j < n → with_rows q p d n F S p (d + j) i ≡ F j i
    unfolding with_rows
    rows_in j i h =
        subst (λ (t : Bool). ◌≡◌ {A = Sym q} (elim t [ true ↦ F (d + j - d) i | false ↦ S p (d + j) i ]) (F (d + j - d) i))
        (sym (inside-yes p d n (d + j) (omega arith) (omega arith))) refl
        ∙ ap (λ (k : ℕ). F k i) (omega arith)

    -- a row that is not replaced
    pub rows_out : (p' r i : ℕ) → (p' ≡ p → (r < d) ⊎ (d + n ≤ r)) → with_rows q p d n F S p' r i ≡ S p' r i
    unfolding with_rows
    rows_out p' r i out =
        subst (λ (t : Bool). ◌≡◌ {A = Sym q} (elim t [ true ↦ F (r - d) i | false ↦ S p' r i ]) (S p' r i)) (sym (inside-no p d n p' r out)) refl

    -- cells with those rows, and with the others as they were
    pub rows_are : (T : Cells q) → ((j i : ℕ) → j < n → T p (d + j) i ≡ F j i)
        → ((p' r i : ℕ) → (p' ≡ p → (r < d) ⊎ (d + n ≤ r)) → T p' r i ≡ S p' r i) → (p' r i : ℕ) → T p' r i ≡ with_rows q p d n F S p' r i
    rows_are T new old p' r i =
        ⊎_elim
        (λ (e : p' ≡ p). ⊎_elim
        (λ (h : r < d). outside (λ z. inl h))
        (λ (h : d ≤ r). ⊎_elim (λ (k : r < d + n). within e h k) (λ (k : d + n ≤ r). outside (λ z. inr k)) (lt-or-ge r (d + n)))
        (lt-or-ge r d))
        (λ ne. outside (λ z. absurd (ne z)))
        (same_or_not p' p)
      where
        outside : (p' ≡ p → (r < d) ⊎ (d + n ≤ r)) → T p' r i ≡ with_rows q p d n F S p' r i
        outside out = old p' r i out ∙ sym (rows_out p' r i out)

        within : p' ≡ p → d ≤ r → r < d + n → T p' r i ≡ with_rows q p d n F S p' r i
        within e h k =
            let z : r ≡ d + (r - d) = omega arith in
            rw (e, z) (new (r - d) i (omega arith) ∙ sym (rows_in (r - d) i (omega arith)))

  -- a row of a polynomial whose rows are all replaced
  pub all-rows : (p : ℕ) (F : ℕ → ℕ → Sym q) (S : Cells q) (r i : ℕ) → r < 2 * q → with_rows q p 0 (2 * q) F S p r i ≡ F r i
  all-rows p F S r i hr =
      let z : 0 + r ≡ r = omega arith in
      ap (λ (k : ℕ). with_rows q p 0 (2 * q) F S p k i) (sym z) ∙ rows_in p 0 (2 * q) F S r i hr

  -- one replaced row
  pub row_here : (p r : ℕ) (F : ℕ → Sym q) (S : Cells q) (i : ℕ) → with_rows q p r 1 (λ n. F) S p r i ≡ F i
  row_here p r F S i =
      let z : r ≡ r + 0 = omega arith in
      ap (λ (k : ℕ). with_rows q p r 1 (λ n. F) S p k i) z ∙ rows_in p r 1 (λ n. F) S 0 i (omega arith)

  -- the other rows
  pub row-there : (p r : ℕ) (F : ℕ → Sym q) (S : Cells q) (p' r' i : ℕ) → (p' ≡ p → r' ≡ r → ⊥) → with_rows q p r 1 (λ n. F) S p' r' i ≡ S p' r' i
  row-there p r F S p' r' i ne = rows_out p r 1 (λ n. F) S p' r' i (λ e. ⊎_elim (λ (h : r' < r). inl h) (λ (h : r ≤ r'). inr (next e h)) (lt-or-ge r' r))
    where
      next : p' ≡ p → r ≤ r' → r + 1 ≤ r'
      next e h = ⊎_elim (λ (k : r < r'). omega arith) (λ (k : r' ≤ r). absurd (ne e (omega arith))) (lt-or-ge r r')

  -- cells with that row, and with the others as they were
  pub row_is : (p r : ℕ) (F : ℕ → Sym q) (S T : Cells q) → ((i : ℕ) → T p r i ≡ F i)
      → ((p' r' i : ℕ) → (p' ≡ p → r' ≡ r → ⊥) → T p' r' i ≡ S p' r' i) → (p' r' i : ℕ) → T p' r' i ≡ with_rows q p r 1 (λ n. F) S p' r' i
  row_is p r F S T new old =
      rows_are p r 1 (λ n. F) S T
      (λ j i h. let z : r + j ≡ r = omega arith in rw z (new i))
      (λ p' r' i out. old p' r' i (λ e d. ⊎_elim (λ (h : r' < r). omega arith) (λ (h : r + 1 ≤ r'). omega arith) (out e)))

  -- new symbols in one row
  pub shown-put : (S : Cells q) (l rest : List ℕ) → l ≡ shown q S ++ rest → (p r : ℕ) (v : ℕ → ℕ) (F : ℕ → Sym q) → p < 2 * q → r < 2 * q
      → ((i : ℕ) → i < width q → v i ≡ number q (F i))
      → put l (row_place q p r) (width q) v ≡ shown q (with_rows q p r 1 (λ n. F) S) ++ rest
  unfolding row_place numbers
  shown-put S l rest e p r v F hp hr new =
      let T = with_rows q p r 1 (λ n. F) S in
      let start : l ≡ grid (2 * q) (2 * q) (width q) (numbers q S) ++ rest = rw (← shown-grid S) e in
      rw start
      (grid-put (2 * q) (2 * q) (width q) 0 (numbers q S) (numbers q T) rest p r v hp hr
      (λ i hi. new i hi ∙ ap (number q) (sym (row_here p r F S i)))
      (λ p' r' i ne. ap (number q) (row-there p r F S p' r' i ne))
      ∙ (rw (shown-grid T)))

  -- ---- changes one after the other

  -- no change
  pub turns-none : {before : List ℕ} → Turns q before before (λ S. S)
  turns-none = record { shows = λ S rest e. e }

  -- a change that makes the same cells
  pub turns_same : {before after : List ℕ} {change change' : Cells q → Cells q}
      → ((S : Cells q) (p r i : ℕ) → p < 2 * q → r < 2 * q → i < width q → change S p r i ≡ change' S p r i)
      → Turns q before after change → Turns q before after change'
  turns_same {change = change} {change' = change'} h t =
      record { shows = λ S rest e. t.shows S rest e ∙ ap (λ (l : List ℕ). l ++ rest) (shown-same (change S) (change' S) (h S)) }

  -- two changes
  pub turns-both : {before between after : List ℕ} {change change' : Cells q → Cells q}
      → Turns q before between change → Turns q between after change' → Turns q before after (λ S. change' (change S))
  turns-both {change = change} t t' = record { shows = λ S rest e. t'.shows (change S) rest (t.shows S rest e) }
