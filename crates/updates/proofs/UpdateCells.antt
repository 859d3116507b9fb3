-- The update of a pair of polynomials cell by cell: what the rows done one by one make of both.
-- Assumes nothing.
use mathlib.Core.Path.{◌≡◌, refl, sym, ap, ◌∙◌, subst}
use borrow.Author.Tests.{lt-ltb, le-ltb}
use mathlib.Core.Bool.{Bool, true, false}
use Rattle.published.specs.Start.{width}
use mathlib.Core.Logic.{◌⊎◌, inl, inr, ⊎_elim}
use Prim.Native.Nat.{ℕ, ◌+◌, ◌<◌, ◌≤◌}
use native.Mathlib.Omega.{arith}
use Rattle.algebra.specs.Functions.{shift}
use Rattle.lists.proofs.Numbers.{lt-or-ge, same_or_not}
use Rattle.symbols.specs.Rule.{Known, symbols}
use Rattle.workarea.specs.Area.{Cells, with_rows, first_symbols, minus_multiple, raised_minus, row_made, row_subtracted, row_exchanged}
use Rattle.updates.specs.Updates.{row_height, polynomial_reduced, polynomials_exchanged}
use Rattle.workarea.proofs.Cells.{rows_in, rows_out, rows_are, row_here, row-there}
use Rattle.workarea.proofs.FirstSymbols.{first_cong}
use Rattle.workarea.proofs.RowLaws.{multiple-is, raised_is}
use Rattle.algebra.proofs.Shifts.{shift-cong}

module _ (q : ℕ) where
  -- how many symbols of an upper row are subtracted, and of a lower one
  pub height-upper : (h r : ℕ) → r < q → row_height q h r ≡ h
  unfolding row_height
  height-upper h r l = subst (λ (t : Bool). ◌≡◌ {A = ℕ} (elim t [ true ↦ h | false ↦ width q ]) h) (sym (lt-ltb r q l)) refl

  pub height-lower : (h r : ℕ) → q ≤ r → row_height q h r ≡ width q
  unfolding row_height
  height-lower h r l = subst (λ (t : Bool). ◌≡◌ {A = ℕ} (elim t [ true ↦ h | false ↦ width q ]) (width q)) (sym (le-ltb r q l)) refl

-- no row lies in none
none : (d r : ℕ) → (r < d) ⊎ (d + 0 ≤ r)
none d r = ⊎_elim (λ (h : r < d). inl h) (λ (h : d ≤ r). inr (omega arith)) (lt-or-ge r d)

module _ (q : ℕ) (known : Known q) (f g c : ℕ) (apart : f ≡ g → ⊥) (ρ : (symbols q).K) where
  infixl 65 ◌⊖◌
  infixl 70 ◌⊗◌
  open symbols q use {K, ◌⊖◌, ◌⊗◌}

  -- differences of equal rows
  minus-cong : (a a' b b' : ℕ → K) (i : ℕ) → a i ≡ a' i → ((n : ℕ) → b n ≡ b' n) → minus_multiple q a ρ c b i ≡ minus_multiple q a' ρ c b' i
  minus-cong a a' b b' i ea eb =
      multiple-is q known ◌⊖◌ a ρ c b i
      ∙ ap (λ (y : K). y ⊖ ρ ⊗ shift (symbols q) q c b i) ea
      ∙ ap (λ (y : K). a' i ⊖ ρ ⊗ y) (shift-cong (symbols q) q c i (λ n l. eb n))
      ∙ sym (multiple-is q known ◌⊖◌ a' ρ c b' i)

  raised-cong : (a a' b b' : ℕ → K) (i : ℕ) → ((n : ℕ) → a n ≡ a' n) → b i ≡ b' i → raised_minus q a ρ c b i ≡ raised_minus q a' ρ c b' i
  raised-cong a a' b b' i ea eb =
      raised_is q known a ρ c b i
      ∙ ap (λ (y : K). y ⊖ ρ ⊗ b i) (shift-cong (symbols q) q c i (λ n l. ea n))
      ∙ ap (λ (y : K). shift (symbols q) q c a' i ⊖ ρ ⊗ y) eb
      ∙ sym (raised_is q known a' ρ c b' i)

  module _ (S : Cells q) where
    -- f - ρ·x^c·g: no row yet, and one row more
    pub reduced-none : (height p r i : ℕ) → S p r i ≡ polynomial_reduced q f g height c ρ 0 S p r i
    unfolding polynomial_reduced
    reduced-none height p r i =
        sym (rows_out q f 0 0 (λ r. minus_multiple q (S f r) ρ c (first_symbols q (row_height q height r) (S g r))) S p r i (λ e. none 0 r))

    pub reduced-more : (height n p r i : ℕ)
        → row_subtracted q f n g n (row_height q height n) c ρ (polynomial_reduced q f g height c ρ n S) p r i ≡ polynomial_reduced q f g height c ρ (n + 1) S p r i
    unfolding polynomial_reduced row_made
    reduced-more height n =
        rows_are q f 0 (n + 1) F S (with_rows q f n 1 (λ m. new) done)
        (λ j i h. ⊎_elim
        (λ (l : j < n). row-there q f n new done f (0 + j) i (λ e z. omega arith) ∙ rows_in q f 0 n F S j i l)
        (λ (l : n ≤ j).
        let z : j ≡ n = omega arith in
        let y : 0 + n ≡ n = omega arith in
        rw (z, y)
        (row_here q f n new done i
        ∙ minus-cong (done f n) (S f n) (first (done g n)) (first (S g n)) i (old f n i (λ e. inr (omega arith)))
        (λ m. first_cong q (row_height q height n) (done g n) (S g n) m (old g n m (λ e. absurd (apart (sym e)))))))
        (lt-or-ge j n))
        (λ p r i out.
        row-there q f n new done p r i (λ e z. ⊎_elim (λ (h : r < 0). omega arith) (λ (h : 0 + (n + 1) ≤ r). omega arith) (out e))
        ∙ old p r i (λ e. ⊎_elim (λ (h : r < 0). inl h) (λ (h : 0 + (n + 1) ≤ r). inr (omega arith)) (out e)))
      where
        F : ℕ → ℕ → K
        F r = minus_multiple q (S f r) ρ c (first_symbols q (row_height q height r) (S g r))

        first : (ℕ → K) → ℕ → K
        first = first_symbols q (row_height q height n)

        done : Cells q
        done = with_rows q f 0 n F S

        new : ℕ → K
        new = minus_multiple q (done f n) ρ c (first (done g n))

        old : (p r i : ℕ) → (p ≡ f → (r < 0) ⊎ (0 + n ≤ r)) → done p r i ≡ S p r i
        old = rows_out q f 0 n F S

    -- x^c·f - ρ·g, and f in the place of g: no row yet, and one row more
    pub exchanged-none : (p r i : ℕ) → S p r i ≡ polynomials_exchanged q f g c ρ 0 S p r i
    unfolding polynomials_exchanged
    exchanged-none p r i =
        sym (rows_out q g 0 0 (S f) (with_rows q f 0 0 (λ r. raised_minus q (S f r) ρ c (S g r)) S) p r i (λ e. none 0 r)
        ∙ rows_out q f 0 0 (λ r. raised_minus q (S f r) ρ c (S g r)) S p r i (λ e. none 0 r))

    pub exchanged-more : (n p r i : ℕ)
        → row_exchanged q f g n c ρ (polynomials_exchanged q f g c ρ n S) p r i ≡ polynomials_exchanged q f g c ρ (n + 1) S p r i
    unfolding polynomials_exchanged row_exchanged
    exchanged-more n =
        rows_are q g 0 (n + 1) (S f) above T
        (λ j i h. ⊎_elim
        (λ (l : j < n). still g (0 + j) i (λ e z. omega arith) (λ e z. omega arith) ∙ rows_in q g 0 n (S f) inner j i l)
        (λ (l : n ≤ j). let z : j ≡ n = omega arith in let y : 0 + n ≡ n = omega arith in rw (z, y) (row_here q g n (done f n) mid i ∙ at_f n i (omega arith)))
        (lt-or-ge j n))
        (λ p r i out. ⊎_elim (λ (e : p ≡ f). rw e (first r i)) (λ ne. other p r i ne out) (same_or_not p f))
      where
        F : ℕ → ℕ → K
        F r = raised_minus q (S f r) ρ c (S g r)

        inner : Cells q
        inner = with_rows q f 0 n F S

        done : Cells q
        done = with_rows q g 0 n (S f) inner

        new : ℕ → K
        new = raised_minus q (done f n) ρ c (done g n)

        mid : Cells q
        mid = with_rows q f n 1 (λ m. new) done

        T : Cells q
        T = with_rows q g n 1 (λ m. done f n) mid

        above : Cells q
        above = with_rows q f 0 (n + 1) F S

        still : (p r i : ℕ) → (p ≡ g → r ≡ n → ⊥) → (p ≡ f → r ≡ n → ⊥) → T p r i ≡ done p r i
        still p r i ng nf = row-there q g n (done f n) mid p r i ng ∙ row-there q f n new done p r i nf

        at_f : (r i : ℕ) → n ≤ r → done f r i ≡ S f r i
        at_f r i h = rows_out q g 0 n (S f) inner f r i (λ e. absurd (apart e)) ∙ rows_out q f 0 n F S f r i (λ e. inr (omega arith))

        at_g : (r i : ℕ) → n ≤ r → done g r i ≡ S g r i
        at_g r i h = rows_out q g 0 n (S f) inner g r i (λ e. inr (omega arith)) ∙ rows_out q f 0 n F S g r i (λ e. absurd (apart (sym e)))

        within : (m r i : ℕ) → r < m → with_rows q f 0 m F S f r i ≡ F r i
        within m r i h = let y : 0 + r ≡ r = omega arith in ap (λ (k : ℕ). with_rows q f 0 m F S f k i) (sym y) ∙ rows_in q f 0 m F S r i h

        first : (r i : ℕ) → T f r i ≡ above f r i
        first r i =
            row-there q g n (done f n) mid f r i (λ e z. apart e)
            ∙ ⊎_elim
            (λ (h : r < n + 1). ⊎_elim
            (λ (l : r < n).
            row-there q f n new done f r i (λ e z. omega arith)
            ∙ rows_out q g 0 n (S f) inner f r i (λ e. absurd (apart e))
            ∙ within n r i l)
            (λ (l : n ≤ r).
            let z : r ≡ n = omega arith in
            rw z (row_here q f n new done i ∙ raised-cong (done f n) (S f n) (done g n) (S g n) i (λ m. at_f n m (omega arith)) (at_g n i (omega arith))))
            (lt-or-ge r n)
            ∙ sym (within (n + 1) r i h))
            (λ (h : n + 1 ≤ r).
            row-there q f n new done f r i (λ e z. omega arith) ∙ at_f r i (omega arith) ∙ sym (rows_out q f 0 (n + 1) F S f r i (λ e. inr (omega arith))))
            (lt-or-ge r (n + 1))

        other : (p r i : ℕ) → (p ≡ f → ⊥) → (p ≡ g → (r < 0) ⊎ (0 + (n + 1) ≤ r)) → T p r i ≡ above p r i
        other p r i ne out =
            still p r i (λ e z. ⊎_elim (λ (h : r < 0). omega arith) (λ (h : 0 + (n + 1) ≤ r). omega arith) (out e)) (λ e z. ne e)
            ∙ rows_out q g 0 n (S f) inner p r i (λ e. ⊎_elim (λ (h : r < 0). inl h) (λ (h : 0 + (n + 1) ≤ r). inr (omega arith)) (out e))
            ∙ rows_out q f 0 n F S p r i (λ e. absurd (ne e))
            ∙ sym (rows_out q f 0 (n + 1) F S p r i (λ e. absurd (ne e)))
