-- No state that is reached has a symbol but zero past the width.
-- Assumes nothing.
use mathlib.Core.Path.{◌≡◌, refl, sym, ap, ◌∙◌, subst}
use mathlib.Core.Bool.{Bool, true, false}
use mathlib.Core.List.{List, []}
use mathlib.Core.Logic.{⊎_elim}
use Prim.Native.Nat.{ℕ, zero, suc, ◌+◌, ◌*◌, ◌/◌, ◌%◌, ◌<◌, ◌≤◌}
use native.Mathlib.Omega.{arith}
use lib.Dec.{eqb, ltb}
use lib.ListN.{get_or, get_or-eq_default}
use Rattle.algebra.specs.Symbols.{same}
use Rattle.algebra.specs.Functions.{Fn}
use Rattle.lists.specs.Tables.{tab}
use Rattle.lists.proofs.Numbers.{lt-or-ge}
use Rattle.lists.proofs.Tables.{length-tab, get_or-tab}
use Rattle.symbols.specs.Rule.{symbols, Sym, number}
use Rattle.published.specs.Start.{Polynomial, Polynomials, polynomial, polynomials, width, start, start_part, table, h}
use Rattle.published.specs.Pairing.{Pairing, positive_part, negative_part}
use Rattle.published.specs.Steps.{substituted_part, substituted, raised_part, reduced_part, replaced, exchanged, ratio, changed, no_pair, updated, step, after}
use Rattle.workarea.specs.Area.{cells_of, Narrow}
use Rattle.steps.specs.Stop.{state_after}
use Rattle.workarea.proofs.Coefficients.{held, cell-held}

module _ (q : ℕ) where
  -- a polynomial, and polynomials, with nothing past the width
  abbrev Short : Polynomial (symbols q) q → Type 0
  Short F = (r i : ℕ) → width q ≤ i → held q F r i ≡ (symbols q).𝟘

  abbrev AllShort : Polynomials (symbols q) q → Type 0
  AllShort S = (p : ℕ) → Short (get_or S p [])

  none : Short []
  none r i h = refl

  in_table : (G : ℕ → Polynomial (symbols q) q) → ((p : ℕ) → Short (G p)) → AllShort (tab (2 * q) G)
  in_table G short p =
      ⊎_elim
      (λ (b : p < 2 * q). subst Short (sym (get_or-tab (2 * q) G p [] b)) (short p))
      (λ (b : 2 * q ≤ p). subst Short (sym (get_or-eq_default (tab (2 * q) G) [] (omega (arith, length-tab (2 * q) G)))) none)
      (lt-or-ge p (2 * q))

  short-polynomial : (F : ℕ → Fn (symbols q) q) → Short (polynomial (symbols q) q F)
  unfolding polynomial
  short-polynomial F r i h =
      ⊎_elim
      (λ (b : r < 2 * q).
      ap (λ (l : List (Sym q)). get_or l i (symbols q).𝟘) (get_or-tab (2 * q) row r [] b)
      ∙ get_or-eq_default (row r) (symbols q).𝟘 (omega (arith, length-tab (width q) (F (r / q) (r % q)))))
      (λ (b : 2 * q ≤ r).
      ap (λ (l : List (Sym q)). get_or l i (symbols q).𝟘) (get_or-eq_default (tab (2 * q) row) [] (omega (arith, length-tab (2 * q) row))))
      (lt-or-ge r (2 * q))
    where
      row : ℕ → List (Sym q)
      row r = tab (width q) (F (r / q) (r % q))

  short-polynomials : (F : ℕ → ℕ → Fn (symbols q) q) → AllShort (polynomials (symbols q) q F)
  unfolding polynomials
  short-polynomials F = in_table (λ p. polynomial (symbols q) q (F p)) (λ p. short-polynomial (F p))

  short-substituted : (s : ℕ) (w : Sym q) (S : Polynomials (symbols q) q) → AllShort S → AllShort (substituted (symbols q) q s w S)
  unfolding substituted
  short-substituted s w S short = go (eqb (number q w) 0)
    where
      go : (t : Bool) → AllShort (elim t [ true ↦ S | false ↦ polynomials (symbols q) q (substituted_part (symbols q) q s w S) ])
      go true = short
      go false = short-polynomials (substituted_part (symbols q) q s w S)

  short-replaced : (i : ℕ) (F : Polynomial (symbols q) q) (S : Polynomials (symbols q) q) → Short F → AllShort S → AllShort (replaced (symbols q) q i F S)
  unfolding replaced
  short-replaced i F S new short = in_table (λ p. elim (eqb p (q + i)) [ true ↦ F | false ↦ get_or S p [] ]) (λ p. go p (eqb p (q + i)))
    where
      go : (p : ℕ) (t : Bool) → Short (elim t [ true ↦ F | false ↦ get_or S p [] ])
      go p true = new
      go p false = short p

  short-exchanged : (i g : ℕ) (F : Polynomial (symbols q) q) (S : Polynomials (symbols q) q) → Short F → AllShort S → AllShort (exchanged (symbols q) q i g F S)
  unfolding exchanged
  short-exchanged i g F S new short =
      in_table (λ p. elim (eqb p (q + i)) [ true ↦ F | false ↦ elim (eqb p g) [ true ↦ get_or S (q + i) [] | false ↦ get_or S p [] ] ]) (λ p. go p (eqb p (q + i)) (eqb p g))
    where
      go : (p : ℕ) (t t' : Bool) → Short (elim t [ true ↦ F | false ↦ elim t' [ true ↦ get_or S (q + i) [] | false ↦ get_or S p [] ] ])
      go p true t' = new
      go p false true = short (q + i)
      go p false false = short p

  short-changed : (w : Sym q) (i : ℕ) (P : Pairing (symbols q) q) (S : Polynomials (symbols q) q) → AllShort S → AllShort (changed (symbols q) q w i P S)
  unfolding changed same
  short-changed w i P S short =
      go (eqb (number q P.w) (number q w)) (ltb 0 (positive_part P.c))
      (raised_part (symbols q) q S i P.partner (positive_part P.c) (ratio (symbols q) q w P))
      (reduced_part (symbols q) q S i P.partner (negative_part P.c) (ratio (symbols q) q w P))
    where
      go : (t t' : Bool) (F G : ℕ → Fn (symbols q) q)
          → AllShort (elim t [ true ↦ S | false ↦ elim t' [ true ↦ exchanged (symbols q) q i P.partner (polynomial (symbols q) q F) S | false ↦ replaced (symbols q) q i (polynomial (symbols q) q G) S ] ])
      go true t' F G = short
      go false true F G = short-exchanged i P.partner (polynomial (symbols q) q F) S (short-polynomial F) short
      go false false F G = short-replaced i (polynomial (symbols q) q G) S (short-polynomial G) short

  short-updated : (w : Sym q) (Ps : List (Pairing (symbols q) q)) (S : Polynomials (symbols q) q) (n : ℕ) → AllShort S → AllShort (updated (symbols q) q w Ps S n)
  unfolding updated
  short-updated w Ps S zero short = short
  short-updated w Ps S (suc n) short = short-changed w n (get_or Ps n (no_pair (symbols q) q)) (updated (symbols q) q w Ps S n) (short-updated w Ps S n short)

  short-after : (u : ℕ) (row : List (Sym q)) (t : ℕ) → AllShort (after (symbols q) q u row t).polys
  unfolding after step start
  short-after u row zero = short-polynomials (start_part (symbols q) q (table (symbols q) q (h (symbols q) q row)))
  short-after u row (suc t) = short-updated _ _ _ q (short-substituted _ _ (after (symbols q) q u row t).polys (short-after u row t))

  -- the state after t steps
  pub narrow-after : (u : ℕ) (row : List ℕ) (t : ℕ) → Narrow q (cells_of q (state_after q u row t).polys)
  unfolding state_after
  narrow-after u row t = record { past = λ p r i h. cell-held q (state_after q u row t).polys p r i ∙ short-after u _ t p r i h }
