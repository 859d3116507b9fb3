-- Rows of cells with rows subtracted: one row after the other, and rows subtracted twice.
-- Assumes nothing.
use mathlib.Core.Path.{◌≡◌, refl, sym, ap, ◌∙◌}
use mathlib.Core.Logic.{inl, inr, ⊎_elim}
use Prim.Native.Nat.{ℕ, ◌+◌, ◌<◌, ◌≤◌}
use native.Mathlib.Omega.{arith}
use Rattle.algebra.proofs.Ring.{ring}
use Rattle.lists.proofs.Numbers.{lt-or-ge}
use Rattle.symbols.specs.Rule.{Known, symbols}
use Rattle.symbols.proofs.FieldLaws.{laws-of}
use Rattle.workarea.specs.Area.{Cells, with_rows}
use Rattle.startarea.specs.StartArea.{rows_minus}
use Rattle.workarea.proofs.Cells.{rows_in, rows_out, rows_are, row_here, row-there}

module _ (q : ℕ) (known : Known q) where
  infixl 65 ◌⊕◌ ◌⊖◌
  open symbols q use {K, 𝟘, ◌⊕◌, ◌⊖◌}

  module _ (p d : ℕ) where
    -- no row yet
    pub minus-none : (G : ℕ → ℕ → K) (S : Cells q) (p' r i : ℕ) → S p' r i ≡ rows_minus q p d 0 G S p' r i
    unfolding rows_minus
    minus-none G S p' r i =
        sym (rows_out q p d 0 (λ j i. S p (d + j) i ⊖ G j i) S p' r i
        (λ e. ⊎_elim (λ (h : r < d). inl h) (λ (h : d ≤ r). inr (omega arith)) (lt-or-ge r d)))

    -- one row more
    pub minus-more : (G : ℕ → ℕ → K) (S : Cells q) (n p' r i : ℕ)
        → with_rows q p (d + n) 1 (λ m i. rows_minus q p d n G S p (d + n) i ⊖ G n i) (rows_minus q p d n G S) p' r i ≡ rows_minus q p d (n + 1) G S p' r i
    unfolding rows_minus
    minus-more G S n =
        rows_are q p d (n + 1) F S (with_rows q p (d + n) 1 (λ m. new) done)
        (λ j i h. ⊎_elim
        (λ (l : j < n). row-there q p (d + n) new done p (d + j) i (λ e z. omega arith) ∙ rows_in q p d n F S j i l)
        (λ (l : n ≤ j).
        let z : j ≡ n = omega arith in
        rw z (row_here q p (d + n) new done i ∙ ap (λ (y : K). y ⊖ G n i) (rows_out q p d n F S p (d + n) i (λ e. inr (omega arith)))))
        (lt-or-ge j n))
        (λ p' r i out.
        row-there q p (d + n) new done p' r i (λ e z. ⊎_elim (λ (h : r < d). omega arith) (λ (h : d + (n + 1) ≤ r). omega arith) (out e))
        ∙ rows_out q p d n F S p' r i (λ e. ⊎_elim (λ (h : r < d). inl h) (λ (h : d + (n + 1) ≤ r). inr (omega arith)) (out e)))
      where
        F : ℕ → ℕ → K
        F j i = S p (d + j) i ⊖ G j i

        done : Cells q
        done = with_rows q p d n F S

        new : ℕ → K
        new i = done p (d + n) i ⊖ G n i

    -- rows of zeros subtracted
    pub minus-zeros : (n : ℕ) (G : ℕ → ℕ → K) (S : Cells q) → ((j i : ℕ) → G j i ≡ 𝟘) → (p' r i : ℕ) → S p' r i ≡ rows_minus q p d n G S p' r i
    unfolding rows_minus
    minus-zeros n G S zero =
        rows_are q p d n (λ j i. S p (d + j) i ⊖ G j i) S S
        (λ j i h. sym (ap (λ (y : K). S p (d + j) i ⊖ y) (zero j i) ∙ simp (ring, laws-of q known)))
        (λ p' r i out. refl)

    -- rows subtracted twice
    pub minus_minus : (n : ℕ) (G H Gh : ℕ → ℕ → K) (S : Cells q) → ((j i : ℕ) → G j i ⊕ H j i ≡ Gh j i) → (p' r i : ℕ)
        → rows_minus q p d n H (rows_minus q p d n G S) p' r i ≡ rows_minus q p d n Gh S p' r i
    unfolding rows_minus
    minus_minus n G H Gh S both =
        rows_are q p d n (λ j i. S p (d + j) i ⊖ Gh j i) S (with_rows q p d n (λ j i. first p (d + j) i ⊖ H j i) first)
        (λ j i l.
        rows_in q p d n (λ j i. first p (d + j) i ⊖ H j i) first j i l
        ∙ ap (λ (y : K). y ⊖ H j i) (rows_in q p d n (λ j i. S p (d + j) i ⊖ G j i) S j i l)
        ∙ together (S p (d + j) i) (G j i) (H j i)
        ∙ ap (λ (y : K). S p (d + j) i ⊖ y) (both j i))
        (λ p' r i out.
        rows_out q p d n (λ j i. first p (d + j) i ⊖ H j i) first p' r i out
        ∙ rows_out q p d n (λ j i. S p (d + j) i ⊖ G j i) S p' r i out)
      where
        together : (x y z : K) → x ⊖ y ⊖ z ≡ x ⊖ (y ⊕ z)
        together x y z = simp (ring, laws-of q known)

        first : Cells q
        first = with_rows q p d n (λ j i. S p (d + j) i ⊖ G j i) S
