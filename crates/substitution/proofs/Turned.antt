-- The rows of x^a·y^b times a function, as the code finds them: each comes from one row of the function, or from two where
-- y^q was rewritten as x^(q+1) - y.
-- Assumes nothing.
use mathlib.Core.Path.{◌≡◌, refl, sym, ap, ◌∙◌, subst}
use mathlib.Core.Bool.{Bool, true, false}
use mathlib.Core.Logic.{◌⊎◌, inl, inr, ⊎_elim}
use Prim.Native.Nat.{ℕ, zero, suc, ◌+◌, ◌-◌, ◌<◌, ◌≤◌}
use native.Mathlib.Omega.{arith}
use borrow.Author.Tests.{le-leb, lt-leb}
use Rattle.algebra.specs.Symbols.{Symbols, Laws}
use Rattle.algebra.specs.Functions.{Fn, shift, times_x, times_y, times_ys}
use Rattle.algebra.proofs.Ring.{sub_self}
use Rattle.algebra.proofs.Polynomials.{shift_zero, shift_none}
use Rattle.algebra.proofs.Shifts.{shift-cong, shift-shift, shift-sub}
use Rattle.algebra.proofs.Bounds.{times_y-zero, times_y-one, times_y-more}
use Rattle.lists.proofs.Numbers.{lt-or-ge}
use Rattle.substitution.specs.Products.{source_row, source_shift}

-- row j of y^b times a part comes from row j - b where there is one
pub source-plain : (q b j : ℕ) → b ≤ j → (source_row q b j ≡ j - b) × (source_shift q b j ≡ 0)
unfolding source_row source_shift
source-plain q b j h = (
  subst (λ (t : Bool). ◌≡◌ {A = ℕ} (elim t [ true ↦ j - b | false ↦ j + q - b ]) (j - b)) (sym (le-leb b j h)) refl,
  subst (λ (t : Bool). ◌≡◌ {A = ℕ} (elim t [ true ↦ 0 | false ↦ q + 1 ]) 0) (sym (le-leb b j h)) refl,
)

-- else from the row that y^q brings there, moved up by q + 1
pub source-turned : (q b j : ℕ) → j < b → (source_row q b j ≡ j + q - b) × (source_shift q b j ≡ q + 1)
unfolding source_row source_shift
source-turned q b j h = (
  subst (λ (t : Bool). ◌≡◌ {A = ℕ} (elim t [ true ↦ j - b | false ↦ j + q - b ]) (j + q - b)) (sym (lt-leb b j h)) refl,
  subst (λ (t : Bool). ◌≡◌ {A = ℕ} (elim t [ true ↦ 0 | false ↦ q + 1 ]) (q + 1)) (sym (lt-leb b j h)) refl,
)

module _ (𝓢 : Symbols) (q : ℕ) where
  infixl 65 ◌⊖◌
  open 𝓢 use {K, 𝟘, ◌⊖◌}

  -- y^b times functions that agree in the powers of y below q, as far as they are looked at
  pub times_ys-cong : (F G : Fn 𝓢 q) (b j i : ℕ) → ((k n : ℕ) → k < q → n ≤ i → F k n ≡ G k n) → j < q → times_ys 𝓢 q b F j i ≡ times_ys 𝓢 q b G j i
  unfolding times_ys times_y
  times_ys-cong F G zero j i h k = h j i k (omega arith)
  times_ys-cong F G (suc b) zero i h k =
      shift-cong 𝓢 q (q + 1) i (λ n l. times_ys-cong F G b (q - 1) n (λ j m hj hm. h j m hj (omega arith)) (omega arith))
  times_ys-cong F G (suc b) (suc zero) i h k =
      ap (λ (y : K). y ⊖ times_ys 𝓢 q b F (q - 1) i) (times_ys-cong F G b 0 i h (omega arith))
      ∙ ap (λ (y : K). times_ys 𝓢 q b G 0 i ⊖ y) (times_ys-cong F G b (q - 1) i h (omega arith))
  times_ys-cong F G (suc b) (suc (suc j)) i h k = times_ys-cong F G b (suc j) i h (omega arith)

  -- y^b times zeros
  pub times_ys-zeros : Laws 𝓢 q → (F : Fn 𝓢 q) → ((j i : ℕ) → j < q → F j i ≡ 𝟘) → (b j i : ℕ) → j < q → times_ys 𝓢 q b F j i ≡ 𝟘
  unfolding times_ys times_y
  times_ys-zeros 𝓛 F h zero j i k = h j i k
  times_ys-zeros 𝓛 F h (suc b) zero i k = shift_none 𝓢 q (q + 1) (times_ys 𝓢 q b F (q - 1)) i (λ n l. times_ys-zeros 𝓛 F h b (q - 1) n (omega arith))
  times_ys-zeros 𝓛 F h (suc b) (suc zero) i k =
      ap (λ (y : K). y ⊖ times_ys 𝓢 q b F (q - 1) i) (times_ys-zeros 𝓛 F h b 0 i (omega arith))
      ∙ ap (λ (y : K). 𝟘 ⊖ y) (times_ys-zeros 𝓛 F h b (q - 1) i (omega arith))
      ∙ sub_self 𝓛 𝟘
  times_ys-zeros 𝓛 F h (suc b) (suc (suc j)) i k = times_ys-zeros 𝓛 F h b (suc j) i (omega arith)

  -- y^0 and y^(b+1)
  times_ys-zero : (F : Fn 𝓢 q) (j i : ℕ) → times_ys 𝓢 q 0 F j i ≡ F j i
  unfolding times_ys
  times_ys-zero F j i = refl

  times_ys-suc : (F : Fn 𝓢 q) (b j i : ℕ) → times_ys 𝓢 q (suc b) F j i ≡ times_y 𝓢 q (times_ys 𝓢 q b F) j i
  unfolding times_ys
  times_ys-suc F b j i = refl

  module _ (F : Fn 𝓢 q) where
    -- what comes from the one row
    main : ℕ → ℕ → ℕ → K
    main b j i = shift 𝓢 q (source_shift q b j) (F (source_row q b j)) i

    main-plain : (b j i : ℕ) → b ≤ j → main b j i ≡ F (j - b) i
    unfolding main
    main-plain b j i h =
        let s = source-plain q b j h in
        ap (λ (n : ℕ). shift 𝓢 q n (F (source_row q b j)) i) s.1 ∙ shift_zero 𝓢 q (F (source_row q b j)) i ∙ ap (λ (n : ℕ). F n i) s.0

    main-turned : (b j i : ℕ) → j < b → main b j i ≡ shift 𝓢 q (q + 1) (F (j + q - b)) i
    unfolding main
    main-turned b j i h =
        let s = source-turned q b j h in
        ap (λ (n : ℕ). shift 𝓢 q n (F (source_row q b j)) i) s.1 ∙ ap (λ (n : ℕ). shift 𝓢 q (q + 1) (F n) i) s.0

    -- one more power of y moves it one row on
    main-suc : (b j i : ℕ) → main (suc b) (suc j) i ≡ main b j i
    main-suc b j i =
        ⊎_elim
        (λ (h : j < b).
        main-turned (suc b) (suc j) i (omega arith)
        ∙ ap (λ (n : ℕ). shift 𝓢 q (q + 1) (F n) i) (omega arith)
        ∙ sym (main-turned b j i h))
        (λ (h : b ≤ j).
        main-plain (suc b) (suc j) i (omega arith)
        ∙ ap (λ (n : ℕ). F n i) (omega arith)
        ∙ sym (main-plain b j i h))
        (lt-or-ge j b)

    -- a row of y^b·F that no y came round to
    plain : (b j i : ℕ) → b < q → j < q → (j ≡ 0) ⊎ (b < j) → times_ys 𝓢 q b F j i ≡ main b j i
    plain zero j i hb hj o = times_ys-zero F j i ∙ sym (main-plain 0 j i (omega arith) ∙ ap (λ (n : ℕ). F n i) (omega arith))
    plain (suc b) zero i hb hj o =
        times_ys-suc F b 0 i
        ∙ times_y-zero 𝓢 q (times_ys 𝓢 q b F) i
        ∙ shift-cong 𝓢 q (q + 1) i
        (λ n l. plain b (q - 1) n (omega arith) (omega arith) (inr (omega arith))
        ∙ main-plain b (q - 1) n (omega arith)
        ∙ ap (λ (m : ℕ). F m n) {x = q - 1 - b} {y = 0 + q - suc b} (omega arith))
        ∙ sym (main-turned (suc b) 0 i (omega arith))
    plain (suc b) (suc zero) i hb hj o = absurd (⊎_elim (λ (e : 1 ≡ 0). omega arith) (λ (h : suc b < 1). omega arith) o)
    plain (suc b) (suc (suc j)) i hb hj o =
        times_ys-suc F b (suc (suc j)) i
        ∙ times_y-more 𝓢 q (times_ys 𝓢 q b F) j i
        ∙ plain b (suc j) i (omega arith) (omega arith) (inr (⊎_elim (λ (e : suc (suc j) ≡ 0). absurd (omega arith)) (λ (h : suc b < suc (suc j)). omega arith) o))
        ∙ sym (main-suc b (suc j) i)

    -- a row to which a y came round
    round : (b j i : ℕ) → b < q → 0 < j → j ≤ b → times_ys 𝓢 q b F j i ≡ main b j i ⊖ F (j + q - b - 1) i
    round zero j i hb hj h = absurd (omega arith)
    round (suc b) zero i hb hj h = absurd (omega arith)
    round (suc b) (suc zero) i hb hj h =
        times_ys-suc F b 1 i
        ∙ times_y-one 𝓢 q (times_ys 𝓢 q b F) i
        ∙ ap (λ (y : K). y ⊖ times_ys 𝓢 q b F (q - 1) i) (plain b 0 i (omega arith) (omega arith) (inl refl) ∙ sym (main-suc b 0 i))
        ∙ ap (λ (y : K). main (suc b) 1 i ⊖ y)
        (plain b (q - 1) i (omega arith) (omega arith) (inr (omega arith)) ∙ main-plain b (q - 1) i (omega arith) ∙ ap (λ (n : ℕ). F n i) (omega arith))
    round (suc b) (suc (suc j)) i hb hj h =
        times_ys-suc F b (suc (suc j)) i
        ∙ times_y-more 𝓢 q (times_ys 𝓢 q b F) j i
        ∙ round b (suc j) i (omega arith) (omega arith) (omega arith)
        ∙ ap (λ (y : K). y ⊖ F (suc j + q - b - 1) i) (sym (main-suc b (suc j) i))
        ∙ ap (λ (n : ℕ). main (suc b) (suc (suc j)) i ⊖ F n i) (omega arith)

    -- the same with x^a
    pub product-plain : (a b j i : ℕ) → b < q → j < q → (j ≡ 0) ⊎ (b < j)
        → times_x 𝓢 q a (times_ys 𝓢 q b F) j i ≡ shift 𝓢 q (a + source_shift q b j) (F (source_row q b j)) i
    unfolding times_x main
    product-plain a b j i hb hj o =
        shift-cong 𝓢 q a i (λ n l. plain b j n hb hj o) ∙ shift-shift 𝓢 q a (source_shift q b j) (F (source_row q b j)) i

    pub product-round : Laws 𝓢 q → (a b j i : ℕ) → b < q → 0 < j → j ≤ b
        → times_x 𝓢 q a (times_ys 𝓢 q b F) j i
        ≡ shift 𝓢 q (a + source_shift q b j) (F (source_row q b j)) i ⊖ shift 𝓢 q a (F (j + q - b - 1)) i
    unfolding times_x main
    product-round 𝓛 a b j i hb hj h =
        shift-cong 𝓢 q a i (λ n l. round b j n hb hj h)
        ∙ shift-sub 𝓢 q 𝓛 a (main b j) (F (j + q - b - 1)) i
        ∙ ap (λ (y : K). y ⊖ shift 𝓢 q a (F (j + q - b - 1)) i) (shift-shift 𝓢 q a (source_shift q b j) (F (source_row q b j)) i)
