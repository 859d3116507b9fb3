-- What a pair does to the polynomials, in each of the three cases of document 01, is what the code does to the cells; and the update
-- of all pairs.
-- Assumes nothing.
use mathlib.Core.Path.{◌≡◌, refl, sym, ap, ◌∙◌, subst}
use mathlib.Core.Bool.{Bool, true, false}
use mathlib.Core.List.{List, []}
use mathlib.Core.Logic.{⊎_elim}
use Prim.Native.Nat.{ℕ, ◌+◌, ◌*◌, ◌<◌, ◌≤◌}
use native.Mathlib.Numerals.{add-one}
use native.Mathlib.Omega.{arith}
use lib.Dec.{eqb, ltb}
use lib.ListN.{get_or}
use borrow.Author.Tests.{eq-eqb, ne_eqb, le-ltb}
use Rattle.algebra.specs.Symbols.{same}
use Rattle.algebra.specs.Functions.{times_x}
use Rattle.lists.specs.Tables.{tab}
use Rattle.lists.proofs.Numbers.{lt-or-ge, same_or_not}
use Rattle.lists.proofs.Tables.{get_or-tab}
use Rattle.symbols.specs.Rule.{Known, difference_of, symbols, Sym, number, symbol}
use Rattle.symbols.proofs.FieldLaws.{laws-of}
use Rattle.symbols.proofs.Bytes.{number-of-difference}
use Rattle.published.specs.Start.{Polynomial, Polynomials, polynomial, width}
use Rattle.published.specs.Pairing.{Pairing, positive_part, negative_part}
use Rattle.published.specs.Steps.{raised_part, reduced_part, replaced, exchanged, no_pair, ratio, changed, updated}
use Rattle.workarea.specs.Area.{Cells, cells_of, with_rows, first_symbols, minus_multiple, raised_minus}
use Rattle.updates.specs.Updates.{row_height, polynomial_reduced, polynomials_exchanged}
use Rattle.workarea.proofs.Cells.{rows_out, all-rows}
use Rattle.workarea.proofs.FirstSymbols.{first-in, first-all}
use Rattle.updates.proofs.UpdateCells.{height-upper, height-lower}
use Rattle.workarea.proofs.RowLaws.{multiple-is, raised_is}
use Rattle.algebra.proofs.Shifts.{shift-cong}
use Rattle.workarea.proofs.Coefficients.{held, cell-held, held-polynomial}

module _ (q : ℕ) (known : Known q) (S : Polynomials (symbols q) q) where
  infixl 65 ◌⊖◌
  infixl 70 ◌⊗◌
  open symbols q use {K, ◌⊖◌, ◌⊗◌}

  -- a polynomial of a table of polynomials
  in_table : (G : ℕ → Polynomial (symbols q) q) (p r n : ℕ) → p < 2 * q → cells_of q (tab (2 * q) G) p r n ≡ held q (G p) r n
  in_table G p r n hp = cell-held q (tab (2 * q) G) p r n ∙ ap (λ (F : Polynomial (symbols q) q). held q F r n) (get_or-tab (2 * q) G p [] hp)

  -- nothing is left out of a row that is subtracted, where the upper rows have no more than h symbols
  all-subtracted : (g h : ℕ) → ((r n : ℕ) → r < q → n < width q → h ≤ n → cells_of q S g r n ≡ (symbols q).𝟘) → (r n : ℕ) → n < width q
      → first_symbols q (row_height q h r) (cells_of q S g r) n ≡ cells_of q S g r n
  all-subtracted g h short r n hn =
      ⊎_elim
      (λ (l : r < q). rw (height-upper q h r l) (first-all q h (cells_of q S g r) n (short r n l hn)))
      (λ (l : q ≤ r). rw (height-lower q h r l) (first-in q (width q) (cells_of q S g r) n hn))
      (lt-or-ge r q)

  -- a cell of f_i - ρ·x^c·g
  reduced-cell : (i g h c : ℕ) (ρ : K) → ((r n : ℕ) → r < q → n < width q → h ≤ n → cells_of q S g r n ≡ (symbols q).𝟘) → (r n : ℕ) → r < 2 * q → n < width q
      → minus_multiple q (cells_of q S (q + i) r) ρ c (first_symbols q (row_height q h r) (cells_of q S g r)) n
      ≡ held q (polynomial (symbols q) q (reduced_part (symbols q) q S i g c ρ)) r n
  unfolding reduced_part times_x cells_of
  reduced-cell i g h c ρ short r n hr hn =
      multiple-is q known ◌⊖◌ (cells_of q S (q + i) r) ρ c (first_symbols q (row_height q h r) (cells_of q S g r)) n
      ∙ ap (λ (y : K). cells_of q S (q + i) r n ⊖ ρ ⊗ y) (shift-cong (symbols q) q c n (λ m l. all-subtracted g h short r m (omega arith)))
      ∙ sym (held-polynomial q (reduced_part (symbols q) q S i g c ρ) r n hr hn)

  -- a cell of x^c·f_i - ρ·g
  raised-cell : (i g c : ℕ) (ρ : K) (r n : ℕ) → r < 2 * q → n < width q
      → raised_minus q (cells_of q S (q + i) r) ρ c (cells_of q S g r) n ≡ held q (polynomial (symbols q) q (raised_part (symbols q) q S i g c ρ)) r n
  unfolding raised_part times_x cells_of
  raised-cell i g c ρ r n hr hn =
      raised_is q known (cells_of q S (q + i) r) ρ c (cells_of q S g r) n
      ∙ sym (held-polynomial q (raised_part (symbols q) q S i g c ρ) r n hr hn)

  -- f_i - r·x^(-c)·g_i' in the place of f_i
  pub replaced-cells : (i g h c : ℕ) (ρ : K) → ((r n : ℕ) → r < q → n < width q → h ≤ n → cells_of q S g r n ≡ (symbols q).𝟘)
      → (p r n : ℕ) → p < 2 * q → r < 2 * q → n < width q
      → polynomial_reduced q (q + i) g h c ρ (2 * q) (cells_of q S) p r n
      ≡ cells_of q (replaced (symbols q) q i (polynomial (symbols q) q (reduced_part (symbols q) q S i g c ρ)) S) p r n
  unfolding polynomial_reduced replaced
  replaced-cells i g h c ρ short p r n hp hr hn =
      ⊎_elim
      (λ (e : p ≡ q + i).
      rw e
      (all-rows q (q + i) F (cells_of q S) r n hr
      ∙ reduced-cell i g h c ρ short r n hr hn
      ∙ sym (chosen (q + i) true (eq-eqb (q + i) (q + i) refl))
      ∙ sym (in_table new (q + i) r n (rw e at hp))))
      (λ ne.
      rows_out q (q + i) 0 (2 * q) F (cells_of q S) p r n (λ e. absurd (ne e))
      ∙ cell-held q S p r n
      ∙ sym (chosen p false (ne_eqb p (q + i) ne))
      ∙ sym (in_table new p r n hp))
      (same_or_not p (q + i))
    where
      F : ℕ → ℕ → K
      F r = minus_multiple q (cells_of q S (q + i) r) ρ c (first_symbols q (row_height q h r) (cells_of q S g r))

      made : Polynomial (symbols q) q
      made = polynomial (symbols q) q (reduced_part (symbols q) q S i g c ρ)

      pick : ℕ → Bool → Polynomial (symbols q) q
      pick p t = elim t [ true ↦ made | false ↦ get_or S p [] ]

      new : ℕ → Polynomial (symbols q) q
      new p = pick p (eqb p (q + i))

      chosen : (p : ℕ) (t : Bool) → eqb p (q + i) ≡ t → held q (new p) r n ≡ held q (pick p t) r n
      chosen p t e = ap (λ (b : Bool). held q (pick p b) r n) e

  -- f_i in the place of g_i', and x^c f_i - r·g_i' in its own
  pub exchanged-cells : (i g c : ℕ) (ρ : K) → g < q → (p r n : ℕ) → p < 2 * q → r < 2 * q → n < width q
      → polynomials_exchanged q (q + i) g c ρ (2 * q) (cells_of q S) p r n
      ≡ cells_of q (exchanged (symbols q) q i g (polynomial (symbols q) q (raised_part (symbols q) q S i g c ρ)) S) p r n
  unfolding polynomials_exchanged exchanged
  exchanged-cells i g c ρ hg p r n hp hr hn =
      ⊎_elim
      (λ (e : p ≡ q + i).
      rw e
      (rows_out q g 0 (2 * q) (cells_of q S (q + i)) above (q + i) r n (λ z. absurd (omega arith))
      ∙ all-rows q (q + i) F (cells_of q S) r n hr
      ∙ raised-cell i g c ρ r n hr hn
      ∙ sym (chosen (q + i) true (eqb (q + i) g) (eq-eqb (q + i) (q + i) refl) refl)
      ∙ sym (in_table new (q + i) r n (rw e at hp))))
      (λ ne. ⊎_elim
      (λ (e : p ≡ g).
      rw e
      (all-rows q g (cells_of q S (q + i)) above r n hr
      ∙ cell-held q S (q + i) r n
      ∙ sym (chosen g false true (ne_eqb g (q + i) (λ z. omega arith)) (eq-eqb g g refl))
      ∙ sym (in_table new g r n (rw e at hp))))
      (λ ng.
      rows_out q g 0 (2 * q) (cells_of q S (q + i)) above p r n (λ e. absurd (ng e))
      ∙ rows_out q (q + i) 0 (2 * q) F (cells_of q S) p r n (λ e. absurd (ne e))
      ∙ cell-held q S p r n
      ∙ sym (chosen p false false (ne_eqb p (q + i) ne) (ne_eqb p g ng))
      ∙ sym (in_table new p r n hp))
      (same_or_not p g))
      (same_or_not p (q + i))
    where
      F : ℕ → ℕ → K
      F r = raised_minus q (cells_of q S (q + i) r) ρ c (cells_of q S g r)

      above : Cells q
      above = with_rows q (q + i) 0 (2 * q) F (cells_of q S)

      made : Polynomial (symbols q) q
      made = polynomial (symbols q) q (raised_part (symbols q) q S i g c ρ)

      pick : ℕ → Bool → Bool → Polynomial (symbols q) q
      pick p t t' = elim t [ true ↦ made | false ↦ elim t' [ true ↦ get_or S (q + i) [] | false ↦ get_or S p [] ] ]

      new : ℕ → Polynomial (symbols q) q
      new p = pick p (eqb p (q + i)) (eqb p g)

      chosen : (p : ℕ) (t t' : Bool) → eqb p (q + i) ≡ t → eqb p g ≡ t' → held q (new p) r n ≡ held q (pick p t t') r n
      chosen p t t' e e' = ap (λ (b : Bool). held q (pick p b (eqb p g)) r n) e ∙ ap (λ (b : Bool). held q (pick p t b) r n) e'

  module _ (ω : K) (i : ℕ) (P : Pairing (symbols q) q) where
    abbrev chosen : Bool → Bool → Polynomials (symbols q) q
    chosen t t' =
        elim t [
          | true ↦ S
          | false ↦ elim t' [
            | true ↦ exchanged (symbols q) q i P.partner (polynomial (symbols q) q (raised_part (symbols q) q S i P.partner (positive_part P.c) (ratio (symbols q) q ω P))) S
            | false ↦ replaced (symbols q) q i (polynomial (symbols q) q (reduced_part (symbols q) q S i P.partner (negative_part P.c) (ratio (symbols q) q ω P))) S
          ]
        ]

    changed-is : (t t' : Bool) → eqb (number q P.w) (number q ω) ≡ t → ltb 0 (positive_part P.c) ≡ t' → changed (symbols q) q ω i P S ≡ chosen t t'
    unfolding changed same
    changed-is t t' e e' =
        subst (λ (b : Bool). changed (symbols q) q ω i P S ≡ chosen b t') e
        (subst (λ (b : Bool). changed (symbols q) q ω i P S ≡ chosen (eqb (number q P.w) (number q ω)) b) e' refl)

    -- w_i = w: all stay
    pub unchanged : number q P.w ≡ number q ω → changed (symbols q) q ω i P S ≡ S
    unchanged e = changed-is true (ltb 0 (positive_part P.c)) (eq-eqb _ _ e) refl

    -- w_i ≠ w, c > 0: an exchange
    pub changed-raised : (number q P.w ≡ number q ω → ⊥) → ltb 0 (positive_part P.c) ≡ true → P.partner < q
        → (p r n : ℕ) → p < 2 * q → r < 2 * q → n < width q
        → polynomials_exchanged q (q + i) P.partner (positive_part P.c) (ratio (symbols q) q ω P) (2 * q) (cells_of q S) p r n
        ≡ cells_of q (changed (symbols q) q ω i P S) p r n
    changed-raised ne up hg p r n hp hr hn =
        exchanged-cells i P.partner (positive_part P.c) (ratio (symbols q) q ω P) hg p r n hp hr hn
        ∙ ap (λ (T : Polynomials (symbols q) q). cells_of q T p r n) (sym (changed-is false true (ne_eqb _ _ ne) up))

    -- w_i ≠ w, c ≤ 0: f_i alone
    pub changed-reduced : (h : ℕ) → ((r n : ℕ) → r < q → n < width q → h ≤ n → cells_of q S P.partner r n ≡ (symbols q).𝟘)
        → (number q P.w ≡ number q ω → ⊥) → positive_part P.c ≡ 0 → (p r n : ℕ) → p < 2 * q → r < 2 * q → n < width q
        → polynomial_reduced q (q + i) P.partner h (negative_part P.c) (ratio (symbols q) q ω P) (2 * q) (cells_of q S) p r n
        ≡ cells_of q (changed (symbols q) q ω i P S) p r n
    changed-reduced h short ne none p r n hp hr hn =
        replaced-cells i P.partner h (negative_part P.c) (ratio (symbols q) q ω P) short p r n hp hr hn
        ∙ ap (λ (T : Polynomials (symbols q) q). cells_of q T p r n) (sym (changed-is false false (ne_eqb _ _ ne) (le-ltb 0 (positive_part P.c) (omega arith))))

-- the code's r
pub ratio-is : (q : ℕ) → Known q → (ω : Sym q) (P : Pairing (symbols q) q) (vote w mu nu difference product inverse r : ℕ)
    → vote ≡ number q ω → w ≡ number q P.w → mu ≡ number q P.μ → nu ≡ number q P.ν
    → difference ≡ difference_of q vote w
    → product ≡ number q ((symbols q).◌⊗◌ (symbol q mu) (symbol q difference))
    → inverse ≡ number q ((symbols q).inverse (symbol q nu))
    → r ≡ number q ((symbols q).◌⊗◌ (symbol q product) (symbol q inverse))
    → r ≡ number q (ratio (symbols q) q ω P)
unfolding ratio
ratio-is q known ω P vote w mu nu difference product inverse r ev ew eu en ed ep ei er =
    let back = (laws-of q known).symbol-number in
    er
    ∙ (rw (ep, ei, eu, en, ed, ev, ew, number-of-difference q known ω P.w, back P.μ, back P.ν, back ((symbols q).◌⊖◌ ω P.w), back ((symbols q).inverse P.ν), back ((symbols q).◌⊗◌ P.μ ((symbols q).◌⊖◌ ω P.w))))

module _ (q : ℕ) (S : Polynomials (symbols q) q) where
  open symbols q use {K}

  -- no pair yet, and one pair more
  pub updated_none : (ω : K) (Ps : List (Pairing (symbols q) q)) → updated (symbols q) q ω Ps S 0 ≡ S
  unfolding updated
  updated_none ω Ps = refl

  pub updated-more : (ω : K) (P : ℕ → Pairing (symbols q) q) (i : ℕ) → i < q
      → changed (symbols q) q ω i (P i) (updated (symbols q) q ω (tab q P) S i) ≡ updated (symbols q) q ω (tab q P) S (i + 1)
  unfolding updated
  updated-more ω P i h =
      rw (add-one i)
      (ap (λ (Q : Pairing (symbols q) q). changed (symbols q) q ω i Q (updated (symbols q) q ω (tab q P) S i)) (sym (get_or-tab q P i (no_pair (symbols q) q) h)))
