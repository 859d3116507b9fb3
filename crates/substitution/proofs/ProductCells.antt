-- Products by monomials cell by cell: what the rows added one by one make of a part, and of all polynomials.
-- Assumes nothing.
use mathlib.Core.Path.{◌≡◌, refl, sym, ap, ◌∙◌}
use mathlib.Core.Logic.{◌⊎◌, inl, inr, ⊎_elim}
use Prim.Native.Nat.{ℕ, ◌+◌, ◌-◌, ◌<◌, ◌≤◌}
use native.Mathlib.Omega.{arith}
use Rattle.algebra.specs.Functions.{shift, times_x, times_ys}
use Rattle.algebra.proofs.Ring.{ring, add-zero, mul-zero}
use Rattle.lists.proofs.Numbers.{lt-or-ge}
use Rattle.symbols.specs.Rule.{Known, symbols}
use Rattle.symbols.proofs.FieldLaws.{laws-of}
use Rattle.substitution.specs.Products.{Apart, source_row, source_shift, function_of, low_function_of, plus_product, product_row_added, product_added}
use Rattle.workarea.specs.declared.area.Row.{Row}
use Rattle.workarea.specs.Area.{Cells, with_rows, plus_multiple, minus_multiple, row_made, row_added, row_subtracted}
use Rattle.workarea.proofs.Cells.{rows_in, rows_out, rows_are, row_here, row-there, row_is}
use Rattle.workarea.proofs.FirstSymbols.{first_cong, first_out}
use Rattle.workarea.proofs.RowLaws.{multiple-is}
use Rattle.algebra.proofs.Polynomials.{shift_none}
use Rattle.algebra.proofs.Shifts.{shift-cong}
use Rattle.substitution.proofs.Turned.{times_ys-cong, times_ys-zeros, product-plain, product-round}

module _ (q : ℕ) (known : Known q) where
  infixl 65 ◌⊕◌ ◌⊖◌
  infixl 70 ◌⊗◌
  open symbols q use {K, 𝟘, ◌⊕◌, ◌⊖◌, ◌⊗◌}

  -- x^a·y^b times functions that agree in the powers of y below q, as far as they are looked at
  pub product-cong : (a b : ℕ) (F G : ℕ → ℕ → K) (j i : ℕ) → ((k n : ℕ) → k < q → n ≤ i → F k n ≡ G k n) → j < q
      → times_x (symbols q) q a (times_ys (symbols q) q b F) j i ≡ times_x (symbols q) q a (times_ys (symbols q) q b G) j i
  unfolding times_x
  product-cong a b F G j i h hj =
      shift-cong (symbols q) q a i (λ n l. times_ys-cong (symbols q) q F G b j n (λ k m hk hm. h k m hk (omega arith)) hj)

  module _ (to from : Row) (height a b : ℕ) (ρ : K) where
    -- a row of a part plus a product
    pub plus_product-is : (S : Cells q) (j i : ℕ) → plus_product q to from height a b ρ S j i
        ≡ function_of q to S j i ⊕ ρ ⊗ times_x (symbols q) q a (times_ys (symbols q) q b (low_function_of q height from S)) j i
    unfolding plus_product
    plus_product-is S j i = refl

    -- equal rows to add to, and equal rows to multiply
    pub plus_product-cong : (S T : Cells q) (j i : ℕ) → j < q → function_of q to S j i ≡ function_of q to T j i
        → ((k n : ℕ) → k < q → function_of q from S k n ≡ function_of q from T k n) → plus_product q to from height a b ρ S j i ≡ plus_product q to from height a b ρ T j i
    plus_product-cong S T j i hj here there =
        plus_product-is S j i
        ∙ ap (λ (y : K). y ⊕ ρ ⊗ times_x (symbols q) q a (times_ys (symbols q) q b (low_function_of q height from S)) j i) here
        ∙ ap (λ (y : K). function_of q to T j i ⊕ ρ ⊗ y)
        (product-cong a b (low_function_of q height from S) (low_function_of q height from T) j i
        (λ k n hk l. first_cong q height (function_of q from S k) (function_of q from T k) n (there k n hk)) hj)
        ∙ sym (plus_product-is T j i)

    module _ (S : Cells q) (j : ℕ) (hb : b < q) (hj : j < q) where
      abbrev first : Cells q
      first = row_added q to.polynomial (to.row + j) from.polynomial (from.row + source_row q b j) height (a + source_shift q b j) ρ S

      abbrev main : ℕ → K
      main i = shift (symbols q) q (a + source_shift q b j) (low_function_of q height from S (source_row q b j)) i

      first-here : (i : ℕ) → first to.polynomial (to.row + j) i ≡ function_of q to S j i ⊕ ρ ⊗ main i
      unfolding row_made
      first-here i =
          row_here q to.polynomial (to.row + j) (plus_multiple q (function_of q to S j) ρ (a + source_shift q b j) (low_function_of q height from S (source_row q b j))) S i
          ∙ multiple-is q known ◌⊕◌ (function_of q to S j) ρ (a + source_shift q b j) (low_function_of q height from S (source_row q b j)) i

      first-there : (p r i : ℕ) → (p ≡ to.polynomial → r ≡ to.row + j → ⊥) → first p r i ≡ S p r i
      unfolding row_made
      first-there = row-there q to.polynomial (to.row + j) (plus_multiple q (function_of q to S j) ρ (a + source_shift q b j) (low_function_of q height from S (source_row q b j))) S

      -- one row added makes the row of the product where no y comes round
      pub once : (j ≡ 0) ⊎ (b < j) → (p r i : ℕ) → first p r i ≡ product_row_added q to from j height a b ρ S p r i
      unfolding product_row_added
      once o =
          row_is q to.polynomial (to.row + j) (plus_product q to from height a b ρ S j) S first
          (λ i. first-here i
          ∙ ap (λ (y : K). function_of q to S j i ⊕ ρ ⊗ y) (sym (product-plain (symbols q) q (low_function_of q height from S) a b j i hb hj o))
          ∙ sym (plus_product-is S j i))
          first-there

      -- one row added and one subtracted make it where a y comes round
      pub twice : Apart q to from → 0 < j → j ≤ b → (p r i : ℕ)
          → row_subtracted q to.polynomial (to.row + j) from.polynomial (from.row + (j + q - b - 1)) height a ρ first p r i ≡ product_row_added q to from j height a b ρ S p r i
      unfolding product_row_added row_made
      twice apart some low =
          row_is q p₀ r₀ (plus_product q to from height a b ρ S j) S (with_rows q p₀ r₀ 1 (λ n. more) first)
          (λ i.
          row_here q p₀ r₀ more first i
          ∙ multiple-is q known ◌⊖◌ (first p₀ r₀) ρ a (low_function_of q height from first (j + q - b - 1)) i
          ∙ ap (λ (y : K). y ⊖ ρ ⊗ shift (symbols q) q a (low_function_of q height from first (j + q - b - 1)) i) (first-here i)
          ∙ ap (λ (y : K). function_of q to S j i ⊕ ρ ⊗ main i ⊖ ρ ⊗ y) (shift-cong (symbols q) q a i (λ n l. other n))
          ∙ together (function_of q to S j i) (main i) (round i)
          ∙ ap (λ (y : K). function_of q to S j i ⊕ ρ ⊗ y)
          (sym (product-round (symbols q) q (low_function_of q height from S) (laws-of q known) a b j i hb some low))
          ∙ sym (plus_product-is S j i))
          (λ p r i ne. row-there q p₀ r₀ more first p r i ne ∙ first-there p r i ne)
        where
          p₀ : ℕ
          p₀ = to.polynomial

          r₀ : ℕ
          r₀ = to.row + j

          more : ℕ → K
          more = minus_multiple q (first p₀ r₀) ρ a (low_function_of q height from first (j + q - b - 1))

          together : (x y z : K) → x ⊕ ρ ⊗ y ⊖ ρ ⊗ z ≡ x ⊕ ρ ⊗ (y ⊖ z)
          together x y z = simp (ring, laws-of q known)

          round : ℕ → K
          round i = shift (symbols q) q a (low_function_of q height from S (j + q - b - 1)) i

          other : (n : ℕ) → low_function_of q height from first (j + q - b - 1) n ≡ low_function_of q height from S (j + q - b - 1) n
          other n = first_cong q height (function_of q from first (j + q - b - 1)) (function_of q from S (j + q - b - 1)) n
              (first-there from.polynomial (from.row + (j + q - b - 1)) n (λ e d. apart.rows j (j + q - b - 1) hj (omega arith) (sym e) (sym d)))

    module _ (apart : Apart q to from) (S : Cells q) (n : ℕ) where
      abbrev done : Cells q
      done = product_added q to from height a b ρ n S

      -- the rows to multiply are as they were
      untouched : (k i : ℕ) → n ≤ q → k < q → function_of q from done k i ≡ function_of q from S k i
      unfolding product_added
      untouched k i hn hk =
          rows_out q to.polynomial to.row n (plus_product q to from height a b ρ S) S from.polynomial (from.row + k) i
          (λ e. ⊎_elim
          (λ (h : from.row + k < to.row). inl h)
          (λ (h : to.row ≤ from.row + k). ⊎_elim
          (λ (l : from.row + k < to.row + n). absurd (apart.rows (from.row + k - to.row) k (omega arith) hk (sym e) (omega arith)))
          (λ (l : to.row + n ≤ from.row + k). inr l)
          (lt-or-ge (from.row + k) (to.row + n)))
          (lt-or-ge (from.row + k) to.row))

      -- one more row of the part
      pub product-more : n < q → (p r i : ℕ) → product_row_added q to from n height a b ρ done p r i ≡ product_added q to from height a b ρ (n + 1) S p r i
      unfolding product_row_added product_added
      product-more hn =
          rows_are q p₀ d (n + 1) F S (with_rows q p₀ (d + n) 1 (λ m. plus_product q to from height a b ρ done n) done)
          (λ j i h. ⊎_elim
          (λ (l : j < n). row-there q p₀ (d + n) (plus_product q to from height a b ρ done n) done p₀ (d + j) i (λ e z. omega arith) ∙ rows_in q p₀ d n F S j i l)
          (λ (l : n ≤ j).
          let z : j ≡ n = omega arith in
          rw z
          (row_here q p₀ (d + n) (plus_product q to from height a b ρ done n) done i
          ∙ plus_product-cong done S n i hn (rows_out q p₀ d n F S p₀ (d + n) i (λ e. inr (omega arith))) (λ k m hk. untouched k m (omega arith) hk)))
          (lt-or-ge j n))
          (λ p r i out.
          row-there q p₀ (d + n) (plus_product q to from height a b ρ done n) done p r i
          (λ e z. ⊎_elim (λ (h : r < d). omega arith) (λ (h : d + (n + 1) ≤ r). omega arith) (out e))
          ∙ rows_out q p₀ d n F S p r i (λ e. ⊎_elim (λ (h : r < d). inl h) (λ (h : d + (n + 1) ≤ r). inr (omega arith)) (out e)))
        where
          p₀ : ℕ
          p₀ = to.polynomial

          d : ℕ
          d = to.row

          F : ℕ → ℕ → K
          F = plus_product q to from height a b ρ S

    -- no row of the part yet
    pub product-none : (S : Cells q) (p r i : ℕ) → S p r i ≡ product_added q to from height a b ρ 0 S p r i
    unfolding product_added
    product-none S p r i =
        sym (rows_out q to.polynomial to.row 0 (plus_product q to from height a b ρ S) S p r i
        (λ e. ⊎_elim (λ (h : r < to.row). inl h) (λ (h : to.row ≤ r). inr (omega arith)) (lt-or-ge r to.row)))

  -- where no row of the other part has a symbol, nothing is added
  pub product-nothing : (to from : Row) (a b : ℕ) (ρ : K) (n : ℕ) → n ≤ q → (S : Cells q) (p r i : ℕ) → S p r i ≡ product_added q to from 0 a b ρ n S p r i
  unfolding product_added times_x
  product-nothing to from a b ρ n few S =
      rows_are q to.polynomial to.row n (plus_product q to from 0 a b ρ S) S S
      (λ j i h. sym (plus_product-is to from 0 a b ρ S j i
      ∙ ap (λ (y : K). S to.polynomial (to.row + j) i ⊕ ρ ⊗ y)
      (shift_none (symbols q) q a (times_ys (symbols q) q b (low_function_of q 0 from S) j) i
      (λ l e. times_ys-zeros (symbols q) q (laws-of q known) (low_function_of q 0 from S) (λ k m hk. first_out q 0 (function_of q from S k) m (omega arith)) b j l (omega arith)))
      ∙ simp (mul-zero (laws-of q known), add-zero (laws-of q known))))
      (λ p r i out. refl)
