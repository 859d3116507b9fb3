-- The first n of the g_i and of the f_i in their places, and how one more of each kind comes to them.
-- Assumes nothing.
use mathlib.Core.Path.{◌≡◌, sym, ap, ◌∙◌}
use mathlib.Core.Bool.{true, false}
use mathlib.Core.List.{List}
use mathlib.Core.Logic.{◌⊎◌, inl, inr, ⊎_elim}
use Prim.Native.Nat.{ℕ, ◌+◌, ◌-◌, ◌*◌, ◌/◌, ◌%◌, ◌<◌, ◌≤◌}
use native.Mathlib.Nat.{mod-eq_of_lt, add-mod_left, zero-add}
use native.Mathlib.Omega.{arith}
use borrow.Author.Tests.{lt-ltb, le-ltb}
use Rattle.algebra.specs.Functions.{Fn, times_x, times_ys}
use Rattle.algebra.proofs.Ring.{ring}
use Rattle.algebra.proofs.Polynomials.{shift_zero}
use Rattle.lists.proofs.Numbers.{lt-or-ge, same_or_not}
use Rattle.symbols.specs.Rule.{Known, symbols, symbol}
use Rattle.symbols.specs.Tables.{product_row}
use Rattle.symbols.proofs.FieldLaws.{laws-of}
use Rattle.published.specs.Start.{width, upper, lower, of_table, vanishing, one, nothing, negated, start_part}
use Rattle.published.proofs.Reading.{row-part, row-power}
use Rattle.published.proofs.StartLeads.{start_g-upper, start_g-lower, start_f-upper, start_f-lower}
use Rattle.substitution.specs.Products.{function_of, low_function_of, plus_product, product_added, upper_of, lower_of}
use Rattle.workarea.specs.declared.area.Row.{Row}
use Rattle.workarea.specs.Area.{Multiplies, Cells}
use Rattle.startarea.specs.StartArea.{begun, multiple_added}
use Rattle.workarea.proofs.FirstSymbols.{first-in}
use Rattle.workarea.proofs.Cells.{rows_in, rows_out}
use Rattle.workarea.proofs.Multipliers.{multiplies}
use Rattle.substitution.proofs.Turned.{times_ys-cong}

-- each row is one of the upper or one of the lower part
pub each_row : (q : ℕ) (P : ℕ → Type 0) → ((j : ℕ) → j < q → P (0 + j)) → ((j : ℕ) → j < q → P (q + j)) → (r : ℕ) → r < 2 * q → P r
each_row q P up low r hr =
    ⊎_elim
    (λ (l : r < q). let e : 0 + r ≡ r = omega arith in rw e at (up r l))
    (λ (l : q ≤ r). let e : q + (r - q) ≡ r = omega arith in rw e at (low (r - q) (omega arith)))
    (lt-or-ge r q)

module _ (q : ℕ) (known : Known q) where
  infixl 65 ◌⊕◌
  infixl 70 ◌⊗◌
  open symbols q use {K, 𝟘, 𝟙, ◌⊕◌, ◌⊗◌}

  -- the polynomials q + i are those of the second kind
  second : (i : ℕ) → i < q → (q + i) % q ≡ i
  second i hi = add-mod_left q i ∙ mod-eq_of_lt hi

  module _ (H : List (List K)) where
    -- a polynomial in its place, and one that is not yet there
    pub begun-in : (n p r k : ℕ) → p % q < n → begun q H n p r k ≡ start_part (symbols q) q H p (r / q) (r % q) k
    unfolding begun
    begun-in n p r k l = ap (λ t. elim t [ true ↦ start_part (symbols q) q H p (r / q) (r % q) k | false ↦ 𝟘 ]) (lt-ltb (p % q) n l)

    pub begun-out : (n p r k : ℕ) → n ≤ p % q → begun q H n p r k ≡ 𝟘
    unfolding begun
    begun-out n p r k l = ap (λ t. elim t [ true ↦ start_part (symbols q) q H p (r / q) (r % q) k | false ↦ 𝟘 ]) (le-ltb (p % q) n l)

    -- the row of y^j in its parts
    begun-upper : (n p j k : ℕ) → p % q < n → j < q → begun q H n p (0 + j) k ≡ start_part (symbols q) q H p upper j k
    begun-upper n p j k l hj =
        let z : 0 + j ≡ 0 * q + j = omega arith in
        rw z (begun-in n p (0 * q + j) k l ∙ (rw (row-part q 0 hj, row-power q 0 hj)))

    begun-lower : (n p j k : ℕ) → p % q < n → j < q → begun q H n p (q + j) k ≡ start_part (symbols q) q H p lower j k
    begun-lower n p j k l hj =
        let z : q + j ≡ 1 * q + j = omega arith in
        rw z (begun-in n p (1 * q + j) k l ∙ (rw (row-part q 1 hj, row-power q 1 hj)))

    module _ (n i : ℕ) (hn : i < n) (hi : i < q) where
      -- the parts of g_i
      pub g-upper : (j k : ℕ) → j < q → begun q H n i (0 + j) k ≡ 𝟘
      unfolding nothing
      g-upper j k hj = begun-upper n i j k (rw (mod-eq_of_lt hi) hn) hj ∙ ap (λ (F : Fn (symbols q) q). F j k) (start_g-upper (symbols q) q H i hi)

      pub g-lower : (j k : ℕ) → j < q → begun q H n i (q + j) k ≡ times_ys (symbols q) q i (vanishing (symbols q) q) j k
      g-lower j k hj = begun-lower n i j k (rw (mod-eq_of_lt hi) hn) hj ∙ ap (λ (F : Fn (symbols q) q). F j k) (start_g-lower (symbols q) q H i hi)

      -- the parts of f_i
      pub f-upper : (j k : ℕ) → j < q → begun q H n (q + i) (0 + j) k ≡ times_ys (symbols q) q i (one (symbols q) q) j k
      f-upper j k hj = begun-upper n (q + i) j k (rw (second i hi) hn) hj ∙ ap (λ (F : Fn (symbols q) q). F j k) (start_f-upper (symbols q) q H i)

      pub f-lower : (j k : ℕ) → j < q → begun q H n (q + i) (q + j) k ≡ times_ys (symbols q) q i (negated (symbols q) q (of_table (symbols q) q H)) j k
      f-lower j k hj = begun-lower n (q + i) j k (rw (second i hi) hn) hj ∙ ap (λ (F : Fn (symbols q) q). F j k) (start_f-lower (symbols q) q H i)

    -- one more of each kind changes only those
    pub begun-else : (i p r k : ℕ) → p < 2 * q → (p ≡ i → ⊥) → (p ≡ q + i → ⊥) → begun q H i p r k ≡ begun q H (i + 1) p r k
    begun-else i p r k hp ng nf =
        ⊎_elim
        (λ (l : p % q < i). begun-in i p r k l ∙ sym (begun-in (i + 1) p r k (omega arith)))
        (λ (l : i ≤ p % q). begun-out i p r k l ∙ sym (begun-out (i + 1) p r k (above l)))
        (lt-or-ge (p % q) i)
      where
        different : p % q ≡ i → ⊥
        different e =
            ⊎_elim
            (λ (l : p < q). ng (sym (mod-eq_of_lt l) ∙ e))
            (λ (l : q ≤ p).
            let z : p ≡ q + (p - q) = omega arith in
            nf (z ∙ ap (λ (m : ℕ). q + m) (sym (second (p - q) (omega arith)) ∙ ap (λ (m : ℕ). m % q) (sym z) ∙ e)))
            (lt-or-ge p q)

        above : i ≤ p % q → i + 1 ≤ p % q
        above l = ⊎_elim (λ (b : i < p % q). omega arith) (λ (b : p % q ≤ i). absurd (different (omega arith))) (lt-or-ge i (p % q))

  -- the table row of 1
  pub multiplies-one : Multiplies q (product_row q 1) 𝟙
  multiplies-one =
      let one-is : symbol q 1 ≡ 𝟙 = ap (symbol q) (sym (laws-of q known).number-one) ∙ (laws-of q known).symbol-number 𝟙 in
      rw (← one-is) (multiplies q 1 known)

  -- y^b times a part put where zeros were
  made : (to from : Row) (b : ℕ) (S : Cells q) (F : Fn (symbols q) q) → ((j k : ℕ) → j < q → function_of q to S j k ≡ 𝟘)
      → ((j k : ℕ) → j < q → function_of q from S j k ≡ F j k) → (j k : ℕ) → j < q → k < width q
      → product_added q to from (width q) 0 b 𝟙 q S to.polynomial (to.row + j) k ≡ times_ys (symbols q) q b F j k
  unfolding product_added plus_product times_x
  made to from b S F empty is j k hj hk =
      rows_in q to.polynomial to.row q (plus_product q to from (width q) 0 b 𝟙 S) S j k hj
      ∙ ap (λ (y : K). y ⊕ 𝟙 ⊗ times_x (symbols q) q 0 (times_ys (symbols q) q b low) j k) (empty j k hj)
      ∙ plain (times_x (symbols q) q 0 (times_ys (symbols q) q b low) j k)
      ∙ shift_zero (symbols q) q (times_ys (symbols q) q b low j) k
      ∙ times_ys-cong (symbols q) q low F b j k (λ m n hm hn. first-in q (width q) (function_of q from S m) n (omega arith) ∙ is m n hm) hj
    where
      low : Fn (symbols q) q
      low = low_function_of q (width q) from S

      plain : (y : K) → 𝟘 ⊕ 𝟙 ⊗ y ≡ y
      plain y = simp (ring, laws-of q known)

  -- the rows of other parts stay
  kept : (to from : Row) (b : ℕ) (S : Cells q) (p r k : ℕ) → (p ≡ to.polynomial → (r < to.row) ⊎ (to.row + q ≤ r))
      → product_added q to from (width q) 0 b 𝟙 q S p r k ≡ S p r k
  unfolding product_added
  kept to from b S p r k out = rows_out q to.polynomial to.row q (plus_product q to from (width q) 0 b 𝟙 S) S p r k out

  module _ (H : List (List K)) (i : ℕ) (some : 0 < i) (hi : i < q) where
    abbrev S₀ : Cells q
    S₀ = begun q H i

    -- g_i, the upper part of f_i, and its lower part
    abbrev S₁ : Cells q
    S₁ = multiple_added q 0 q i S₀

    abbrev S₂ : Cells q
    S₂ = multiple_added q q 0 i S₁

    abbrev S₃ : Cells q
    S₃ = multiple_added q q q i S₂

    -- what each of the three leaves as it was
    kept₁ : (p r k : ℕ) → (p ≡ i → r < q) → S₁ p r k ≡ S₀ p r k
    kept₁ p r k out = kept (lower_of q (0 + i)) (lower_of q 0) i S₀ p r k (λ e. inl (out (omega arith)))

    kept₂ : (p r k : ℕ) → (p ≡ q + i → q ≤ r) → S₂ p r k ≡ S₁ p r k
    kept₂ p r k out = kept (upper_of q (q + i)) (upper_of q q) i S₁ p r k (λ e. inr (let z = out e in omega arith))

    kept₃ : (p r k : ℕ) → (p ≡ q + i → r < q) → S₃ p r k ≡ S₂ p r k
    kept₃ p r k out = kept (lower_of q (q + i)) (lower_of q q) i S₂ p r k (λ e. inl (out e))

    -- the lower part of g_i
    g-made : (j k : ℕ) → j < q → k < width q → S₃ i (q + j) k ≡ times_ys (symbols q) q i (vanishing (symbols q) q) j k
    unfolding times_ys
    g-made j k hj hk =
        kept₃ i (q + j) k (λ e. absurd (omega arith)) ∙ kept₂ i (q + j) k (λ e. absurd (omega arith))
        ∙ ap (λ (p : ℕ). S₁ p (q + j) k) (sym (zero-add i))
        ∙ made (lower_of q (0 + i)) (lower_of q 0) i S₀ (vanishing (symbols q) q)
        (λ j k hj. begun-out H i (0 + i) (q + j) k (rw (zero-add i, mod-eq_of_lt hi) (omega arith)))
        (λ j k hj. g-lower H i 0 some (omega arith) j k hj)
        j k hj hk

    -- f_0 is at polynomial q
    zeroth : q ≡ q + 0
    zeroth = omega arith

    -- the upper part of f_i
    f-upper-made : (j k : ℕ) → j < q → k < width q → S₃ (q + i) (0 + j) k ≡ times_ys (symbols q) q i (one (symbols q) q) j k
    unfolding times_ys
    f-upper-made j k hj hk =
        kept₃ (q + i) (0 + j) k (λ e. omega arith)
        ∙ made (upper_of q (q + i)) (upper_of q q) i S₁ (one (symbols q) q)
        (λ j k hj. kept₁ (q + i) (0 + j) k (λ e. absurd (omega arith)) ∙ begun-out H i (q + i) (0 + j) k (rw (second i hi) (omega arith)))
        (λ j k hj. kept₁ q (0 + j) k (λ e. omega arith) ∙ ap (λ (p : ℕ). S₀ p (0 + j) k) zeroth ∙ f-upper H i 0 some (omega arith) j k hj)
        j k hj hk

    -- the lower part of f_i
    f-lower-made : (j k : ℕ) → j < q → k < width q → S₃ (q + i) (q + j) k ≡ times_ys (symbols q) q i (negated (symbols q) q (of_table (symbols q) q H)) j k
    unfolding times_ys
    f-lower-made j k hj hk =
        made (lower_of q (q + i)) (lower_of q q) i S₂ (negated (symbols q) q (of_table (symbols q) q H))
        (λ j k hj. kept₂ (q + i) (q + j) k (λ e. omega arith) ∙ kept₁ (q + i) (q + j) k (λ e. absurd (omega arith)) ∙ begun-out H i (q + i) (q + j) k (rw (second i hi) (omega arith)))
        (λ j k hj. kept₂ q (q + j) k (λ e. omega arith) ∙ kept₁ q (q + j) k (λ e. absurd (omega arith)) ∙ ap (λ (p : ℕ). S₀ p (q + j) k) zeroth ∙ f-lower H i 0 some (omega arith) j k hj)
        j k hj hk

    -- all rows of g_i
    g-all : (r k : ℕ) → k < width q → r < 2 * q → S₃ i r k ≡ begun q H (i + 1) i r k
    g-all r k hk =
        each_row q (λ r. S₃ i r k ≡ begun q H (i + 1) i r k)
        (λ j hj.
        kept₃ i (0 + j) k (λ z. absurd (omega arith)) ∙ kept₂ i (0 + j) k (λ z. absurd (omega arith)) ∙ kept₁ i (0 + j) k (λ z. omega arith)
        ∙ begun-out H i i (0 + j) k (rw (mod-eq_of_lt hi) (omega arith))
        ∙ sym (g-upper H (i + 1) i (omega arith) hi j k hj))
        (λ j hj. g-made j k hj hk ∙ sym (g-lower H (i + 1) i (omega arith) hi j k hj))
        r

    -- all rows of f_i
    f-all : (r k : ℕ) → k < width q → r < 2 * q → S₃ (q + i) r k ≡ begun q H (i + 1) (q + i) r k
    f-all r k hk =
        each_row q (λ r. S₃ (q + i) r k ≡ begun q H (i + 1) (q + i) r k)
        (λ j hj. f-upper-made j k hj hk ∙ sym (f-upper H (i + 1) i (omega arith) hi j k hj))
        (λ j hj. f-lower-made j k hj hk ∙ sym (f-lower H (i + 1) i (omega arith) hi j k hj))
        r

    -- one more of each kind
    pub begun_more : (p r k : ℕ) → p < 2 * q → r < 2 * q → k < width q → S₃ p r k ≡ begun q H (i + 1) p r k
    begun_more p r k hp hr hk =
        ⊎_elim
        (λ (e : p ≡ i). rw e (g-all r k hk hr))
        (λ (ng : p ≡ i → ⊥). ⊎_elim
        (λ (e : p ≡ q + i). rw e (f-all r k hk hr))
        (λ (nf : p ≡ q + i → ⊥).
        kept₃ p r k (λ z. absurd (nf z)) ∙ kept₂ p r k (λ z. absurd (nf z)) ∙ kept₁ p r k (λ z. absurd (ng z)) ∙ begun-else H i p r k hp ng nf)
        (same_or_not p (q + i)))
        (same_or_not p i)
