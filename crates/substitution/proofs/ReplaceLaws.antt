-- The substitution for z as the definition has it, with the heights of the upper parts, which it does not change.
-- Assumes nothing.
use mathlib.Core.Path.{◌≡◌, refl, sym, ap, ◌∙◌, subst}
use mathlib.Core.Bool.{Bool, true, false}
use mathlib.Core.List.{List}
use mathlib.Core.Logic.{inl, ⊎_elim}
use Prim.Native.Nat.{ℕ, ◌+◌, ◌-◌, ◌*◌, ◌/◌, ◌%◌, ◌<◌, ◌≤◌}
use native.Mathlib.Nat.{mod-lt, div-le_self}
use native.Mathlib.Omega.{arith}
use lib.Dec.{eqb}
use lib.ListN.{get_or}
use borrow.Author.Tests.{eq-eqb, ne_eqb}
use Rattle.algebra.specs.Weights.{x_power, y_power}
use Rattle.algebra.specs.Functions.{times_x, times_ys, times_monomial}
use Rattle.lists.proofs.Numbers.{lt-or-ge, same_or_not}
use Rattle.symbols.specs.Rule.{Known, symbols, number}
use Rattle.published.specs.Start.{Polynomials, coefficient, polynomials, width, upper, lower}
use Rattle.published.specs.Steps.{substituted_part, substituted}
use Rattle.workarea.specs.Area.{cells_of, Cells}
use Rattle.substitution.specs.Products.{low_function_of, plus_product, product_added, upper_of, lower_of, replaced_z}
use Rattle.workarea.specs.Heights.{WithinHeights}
use Rattle.workarea.proofs.Becoming.{below-same}
use Rattle.workarea.proofs.FirstSymbols.{first-all}
use Rattle.workarea.proofs.Cells.{rows_in, rows_out}
use Rattle.substitution.proofs.ProductCells.{product-cong, plus_product-is}
use Rattle.substitution.proofs.ReplaceCells.{replaced-yes}
use Rattle.workarea.proofs.Coefficients.{upper-cell, lower-cell, upper-row, lower-row, cell-polynomials}

-- the powers of a weight are small
pub powers-small : (q s : ℕ) → 0 < q → (y_power q s < q) × (x_power q s ≤ s)
unfolding x_power y_power
powers-small q s h = (mod-lt s h, omega (arith, div-le_self (s - (q + 1) * (s % q)) q))

module _ (q : ℕ) (known : Known q) (S : Polynomials (symbols q) q) where
  infixl 65 ◌⊕◌
  infixl 70 ◌⊗◌
  open symbols q use {K, ◌⊕◌, ◌⊗◌}

  module _ (heights : List ℕ) (below : WithinHeights q heights (cells_of q S)) (s : ℕ) (ω : K) where
    lower-is : (p j i : ℕ) → substituted_part (symbols q) q s ω S p lower j i
        ≡ coefficient (symbols q) q S p lower j i ⊕ ω ⊗ times_monomial (symbols q) q s (coefficient (symbols q) q S p upper) j i
    unfolding substituted_part
    lower-is p j i = refl

    upper_is : (p j i : ℕ) → substituted_part (symbols q) q s ω S p upper j i ≡ coefficient (symbols q) q S p upper j i
    unfolding substituted_part
    upper_is p j i = refl

    -- a row of the upper part, and of the lower one
    upper-new : (p r i : ℕ) → r < q → product_added q (lower_of q p) (upper_of q p) (get_or heights p 0) (x_power q s) (y_power q s) ω q (cells_of q S) p r i
        ≡ substituted_part (symbols q) q s ω S p (r / q) (r % q) i
    unfolding product_added
    upper-new p r i h =
        rows_out q p q q (plus_product q (lower_of q p) (upper_of q p) (get_or heights p 0) (x_power q s) (y_power q s) ω (cells_of q S)) (cells_of q S) p r i (λ e. inl h)
        ∙ sym (upper-cell q S p r i)
        ∙ sym (upper_is p r i)
        ∙ (rw ((upper-row q r h).0, (upper-row q r h).1))

    lower-new : (p j i : ℕ) → p < 2 * q → j < q → i < width q → product_added q (lower_of q p) (upper_of q p) (get_or heights p 0) (x_power q s) (y_power q s) ω q (cells_of q S) p (q + j) i
        ≡ substituted_part (symbols q) q s ω S p ((q + j) / q) ((q + j) % q) i
    unfolding product_added times_monomial
    lower-new p j i hp h hi =
        rows_in q p q q (plus_product q (lower_of q p) (upper_of q p) (get_or heights p 0) (x_power q s) (y_power q s) ω (cells_of q S)) (cells_of q S) j i h
        ∙ plus_product-is q known (lower_of q p) (upper_of q p) (get_or heights p 0) (x_power q s) (y_power q s) ω (cells_of q S) j i
        ∙ ap (λ (y : K). y ⊕ ω ⊗ times_x (symbols q) q (x_power q s) (times_ys (symbols q) q (y_power q s) (low_function_of q (get_or heights p 0) (upper_of q p) (cells_of q S))) j i) (sym (lower-cell q S p j i))
        ∙ ap (λ (y : K). coefficient (symbols q) q S p lower j i ⊕ ω ⊗ y)
        (product-cong q known (x_power q s) (y_power q s) (low_function_of q (get_or heights p 0) (upper_of q p) (cells_of q S)) (coefficient (symbols q) q S p upper) j i
        (λ k n hk l.
        let z : 0 + k ≡ k = omega arith in
        first-all q (get_or heights p 0) (cells_of q S p (0 + k)) n (λ past. below.above p (0 + k) n hp (omega arith) (omega arith) past)
        ∙ ap (λ (m : ℕ). cells_of q S p m n) z ∙ sym (upper-cell q S p k n)) h)
        ∙ sym (lower-is p j i)
        ∙ (rw ((lower-row q j h).0, (lower-row q j h).1))

    chosen : Bool → Polynomials (symbols q) q
    chosen t = elim t [ true ↦ S | false ↦ polynomials (symbols q) q (substituted_part (symbols q) q s ω S) ]

    substituted-is : (t : Bool) → eqb (number q ω) 0 ≡ t → substituted (symbols q) q s ω S ≡ chosen t
    unfolding substituted chosen
    substituted-is t e = subst (λ (b : Bool). substituted (symbols q) q s ω S ≡ chosen b) e refl

    -- with w = 0 nothing is replaced
    pub substituted-none : number q ω ≡ 0 → substituted (symbols q) q s ω S ≡ S
    unfolding chosen
    substituted-none e = substituted-is true (eq-eqb _ _ e)

    -- with any other w the code's cells are those of the rule
    pub substituted-cells : (number q ω ≡ 0 → ⊥) → (p r i : ℕ) → p < 2 * q → r < 2 * q → i < width q
        → replaced_z q heights (x_power q s) (y_power q s) ω (2 * q) (cells_of q S) p r i ≡ cells_of q (substituted (symbols q) q s ω S) p r i
    unfolding chosen
    substituted-cells ne p r i hp hr hi =
        replaced-yes q known heights (x_power q s) (y_power q s) ω (2 * q) (cells_of q S) p r i hp
        ∙ ⊎_elim
        (λ (h : r < q). upper-new p r i h)
        (λ (h : q ≤ r). let z : r ≡ q + (r - q) = omega arith in rw z (lower-new p (r - q) i hp (omega arith) hi))
        (lt-or-ge r q)
        ∙ sym (cell-polynomials q (substituted_part (symbols q) q s ω S) p r i hp hr hi)
        ∙ ap (λ (T : Polynomials (symbols q) q). cells_of q T p r i) (sym (substituted-is false (ne_eqb _ _ ne)))

module _ (q : ℕ) (known : Known q) where
  open symbols q use {K}

  -- the substitution for z changes no upper part
  pub below-replaced : (heights : List ℕ) (S : Cells q) → WithinHeights q heights S → (a b : ℕ) (ρ : K) → WithinHeights q heights (replaced_z q heights a b ρ (2 * q) S)
  unfolding product_added
  below-replaced heights S below a b ρ =
      record {
        above = λ p r i hp hr hi past.
            replaced-yes q known heights a b ρ (2 * q) S p r i hp
            ∙ rows_out q p q q (plus_product q (lower_of q p) (upper_of q p) (get_or heights p 0) a b ρ S) S p r i (λ e. inl hr)
            ∙ below.above p r i hp hr hi past;
      }

  pub below-substituted : (heights : List ℕ) (S : Polynomials (symbols q) q) → WithinHeights q heights (cells_of q S) → (s : ℕ) (ω : K)
      → WithinHeights q heights (cells_of q (substituted (symbols q) q s ω S))
  below-substituted heights S below s ω =
      ⊎_elim
      (λ (e : number q ω ≡ 0). rw (substituted-none q known S heights below s ω e) below)
      (λ ne. below-same q heights _ _ (substituted-cells q known S heights below s ω ne) (below-replaced heights (cells_of q S) below (x_power q s) (y_power q s) ω))
      (same_or_not (number q ω) 0)
