-- The substitution for z cell by cell: what the products added polynomial by polynomial make of all.
-- Assumes nothing.
use mathlib.Core.Path.{◌≡◌, refl, sym, ◌∙◌, subst}
use mathlib.Core.Bool.{Bool, true, false}
use mathlib.Core.List.{List}
use mathlib.Core.Logic.{◌⊎◌, inl, inr, ⊎_elim}
use Prim.Native.Nat.{ℕ, ◌+◌, ◌-◌, ◌<◌, ◌≤◌}
use native.Mathlib.Omega.{arith}
use lib.ListN.{get_or}
use borrow.Author.Tests.{lt-ltb, le-ltb}
use Rattle.lists.proofs.Numbers.{lt-or-ge, same_or_not}
use Rattle.symbols.specs.Rule.{Known, symbols}
use Rattle.substitution.specs.Products.{plus_product, product_added, upper_of, lower_of, replaced_z}
use Rattle.workarea.specs.Area.{Cells, with_rows}
use Rattle.workarea.proofs.Cells.{rows_in, rows_out}
use Rattle.substitution.proofs.ProductCells.{plus_product-cong}

module _ (q : ℕ) (known : Known q) where
  open symbols q use {K}

  module _ (heights : List ℕ) (a b : ℕ) (ρ : K) where
    -- in polynomial p the product for z looks at polynomial p alone
    lower-cong : (height : ℕ) (S T : Cells q) (p : ℕ) → ((r i : ℕ) → S p r i ≡ T p r i) → (r i : ℕ)
        → product_added q (lower_of q p) (upper_of q p) height a b ρ q S p r i ≡ product_added q (lower_of q p) (upper_of q p) height a b ρ q T p r i
    unfolding product_added
    lower-cong height S T p h r i =
        ⊎_elim
        (λ (l : r < q). outside (inl l))
        (λ (l : q ≤ r). ⊎_elim
        (λ (k : r < q + q).
        let z : r ≡ q + (r - q) = omega arith in
        rw z
        (rows_in q p q q (F S) S (r - q) i (omega arith)
        ∙ plus_product-cong q known (lower_of q p) (upper_of q p) height a b ρ S T (r - q) i (omega arith) (h (q + (r - q)) i) (λ k n hk. h (0 + k) n)
        ∙ sym (rows_in q p q q (F T) T (r - q) i (omega arith))))
        (λ (k : q + q ≤ r). outside (inr k))
        (lt-or-ge r (q + q)))
        (lt-or-ge r q)
      where
        F : Cells q → ℕ → ℕ → K
        F = plus_product q (lower_of q p) (upper_of q p) height a b ρ

        outside : (r < q) ⊎ (q + q ≤ r) → with_rows q p q q (F S) S p r i ≡ with_rows q p q q (F T) T p r i
        outside o = rows_out q p q q (F S) S p r i (λ e. o) ∙ h r i ∙ sym (rows_out q p q q (F T) T p r i (λ e. o))

    module _ (n : ℕ) (S : Cells q) where
      -- a polynomial in which z is replaced
      pub replaced-yes : (p r i : ℕ) → p < n → replaced_z q heights a b ρ n S p r i ≡ product_added q (lower_of q p) (upper_of q p) (get_or heights p 0) a b ρ q S p r i
      unfolding replaced_z
      replaced-yes p r i h =
          subst (λ (t : Bool). ◌≡◌ {A = K} (elim t [ true ↦ new | false ↦ S p r i ]) new) (sym (lt-ltb p n h)) refl
        where
          new : K
          new = product_added q (lower_of q p) (upper_of q p) (get_or heights p 0) a b ρ q S p r i

      -- a polynomial in which it is not yet
      pub replaced-no : (p r i : ℕ) → n ≤ p → replaced_z q heights a b ρ n S p r i ≡ S p r i
      unfolding replaced_z
      replaced-no p r i h =
          subst (λ (t : Bool). ◌≡◌ {A = K} (elim t [ true ↦ new | false ↦ S p r i ]) (S p r i)) (sym (le-ltb p n h)) refl
        where
          new : K
          new = product_added q (lower_of q p) (upper_of q p) (get_or heights p 0) a b ρ q S p r i

    -- in no polynomial yet
    pub replaced-none : (S : Cells q) (p r i : ℕ) → S p r i ≡ replaced_z q heights a b ρ 0 S p r i
    replaced-none S p r i = sym (replaced-no 0 S p r i (omega arith))

    -- in one polynomial more
    pub replaced-more : (n : ℕ) (S : Cells q) (p r i : ℕ)
        → product_added q (lower_of q n) (upper_of q n) (get_or heights n 0) a b ρ q (replaced_z q heights a b ρ n S) p r i ≡ replaced_z q heights a b ρ (n + 1) S p r i
    unfolding product_added
    replaced-more n S p r i =
        ⊎_elim
        (λ (e : p ≡ n).
        rw e
        (lower-cong (get_or heights n 0) (replaced_z q heights a b ρ n S) S n (λ r i. replaced-no n S n r i (omega arith)) r i
        ∙ sym (replaced-yes (n + 1) S n r i (omega arith))))
        (λ ne. other ne ∙ ⊎_elim
        (λ (h : p < n). replaced-yes n S p r i h ∙ sym (replaced-yes (n + 1) S p r i (omega arith)))
        (λ (h : n ≤ p). replaced-no n S p r i h ∙ sym (replaced-no (n + 1) S p r i (above ne h)))
        (lt-or-ge p n))
        (same_or_not p n)
      where
        other : (p ≡ n → ⊥) → product_added q (lower_of q n) (upper_of q n) (get_or heights n 0) a b ρ q (replaced_z q heights a b ρ n S) p r i ≡ replaced_z q heights a b ρ n S p r i
        other ne = rows_out q n q q (plus_product q (lower_of q n) (upper_of q n) (get_or heights n 0) a b ρ (replaced_z q heights a b ρ n S)) (replaced_z q heights a b ρ n S) p r i (λ e. absurd (ne e))

        above : (p ≡ n → ⊥) → n ≤ p → n + 1 ≤ p
        above ne h = ⊎_elim (λ (k : n < p). omega arith) (λ (k : p ≤ n). absurd (ne (omega arith))) (lt-or-ge n p)
