-- A multiple of Σ x^i·a^(n-1-i) and a constant added to a sum of powers of x, from the highest power down.
-- Assumes nothing.
use mathlib.Core.Path.{◌≡◌, sym, ap, ap₂, ◌∙◌}
use mathlib.Core.List.{List}
use mathlib.Core.Logic.{⊎_elim}
use Prim.Native.Nat.{ℕ, suc, ◌-◌, ◌%◌, ◌<◌, ◌≤◌}
use native.Mathlib.Omega.{arith}
use lib.ListN.{length, get_or, set}
use lib.Seq.{get_or-set_same, get_or-set_other}
use borrow.Author.Tests.{ne_eqb}
use Rattle.algebra.specs.Symbols.{power}
use Rattle.algebra.specs.Interpolation.{unit}
use Rattle.algebra.proofs.Ring.{ring, mul-one}
use Rattle.algebra.proofs.Powers.{power_zero, power-suc}
use Rattle.lists.proofs.Numbers.{lt-or-ge, same_or_not}
use Rattle.symbols.specs.Sizes.{most_symbols}
use Rattle.symbols.specs.Rule.{Known, Sym, sum_of, symbols, number}
use Rattle.symbols.proofs.FieldLaws.{laws-of}
use Rattle.symbols.proofs.Bytes.{number-of-sum}
use Rattle.workarea.specs.Area.{Multiplies}
use Rattle.symbols.specs.Tables.{Holds}
use Rattle.startarea.specs.StartArea.{plus_part}

module _ (q n : ℕ) (a ρ : Sym q) (F : ℕ → Sym q) where
  infixl 65 ◌⊕◌
  infixl 70 ◌⊗◌
  open symbols q use {K, ◌⊕◌, ◌⊗◌}

  -- the powers of x from i on are added to a sum
  pub record Added (l : List ℕ) (i : ℕ) : Type 0 where
    pub below : (k : ℕ) → k < i → get_or l k 0 ≡ number q (F k)
    pub above : (k : ℕ) → i ≤ k → k < n → get_or l k 0 ≡ number q (F k ⊕ ρ ⊗ power (symbols q) a (n - 1 - k))

module _ (q : ℕ) (known : Known q) where
  infixl 65 ◌⊕◌
  infixl 70 ◌⊗◌
  open symbols q use {K, 𝟘, 𝟙, ◌⊕◌, ◌⊗◌}

  module _ (n : ℕ) (a ρ : K) (F : ℕ → K) where
    -- none is added yet
    pub added_none : {l : List ℕ} → Holds q l n F → Added q n a ρ F l n
    added_none held = record { below = held.at; above = λ k h b. absurd (omega arith) }

    -- one power more
    pub added_more : (l : List ℕ) (i b : ℕ) → 0 < i → i ≤ n → n ≤ length l → b ≡ number q (ρ ⊗ power (symbols q) a (n - i)) → Added q n a ρ F l i
        → Added q n a ρ F (set l (i - 1) (sum_of q (get_or l (i - 1) 0) b)) (i - 1)
    added_more l i b some low fit is done =
        record {
          below = λ k h. other k (λ e. omega arith) ∙ done.below k (omega arith);
          above = λ k h m. ⊎_elim
              (λ (e : k ≡ i - 1). rw e here)
              (λ ne. other k ne ∙ done.above k (⊎_elim (λ (s : k < i). absurd (ne (omega arith))) (λ (s : i ≤ k). s) (lt-or-ge k i)) m)
              (same_or_not k (i - 1));
        }
      where
        new : ℕ
        new = sum_of q (get_or l (i - 1) 0) b

        other : (k : ℕ) → (k ≡ i - 1 → ⊥) → get_or (set l (i - 1) new) k 0 ≡ get_or l k 0
        other k ne = get_or-set_other l (i - 1) k new 0 ne

        here : get_or (set l (i - 1) new) (i - 1) 0 ≡ number q (F (i - 1) ⊕ ρ ⊗ power (symbols q) a (n - 1 - (i - 1)))
        here =
            let power-is : n - i ≡ n - 1 - (i - 1) = omega arith in
            get_or-set_same l (i - 1) new 0 (omega arith)
            ∙ ap₂ (sum_of q) (done.below (i - 1) (omega arith)) (is ∙ ap (λ (m : ℕ). number q (ρ ⊗ power (symbols q) a m)) power-is)
            ∙ number-of-sum q known (F (i - 1)) (ρ ⊗ power (symbols q) a (n - 1 - (i - 1)))

    -- the first term is the factor itself
    pub term-first : (b : ℕ) → b ≡ number q ρ → b ≡ number q (ρ ⊗ power (symbols q) a (n - n))
    term-first b is =
        let none : n - n ≡ 0 = omega arith in
        rw none (is ∙ ap (number q) (sym (ap (λ (y : K). ρ ⊗ y) (power_zero (symbols q) a) ∙ mul-one (laws-of q known) ρ)))

    -- the next term is the product of this one by a
    pub term-more : (products : List ℕ) (i b : ℕ) → Multiplies q products a → 0 < i → i ≤ n → b ≡ number q (ρ ⊗ power (symbols q) a (n - i))
        → get_or products (b % most_symbols) 0 ≡ number q (ρ ⊗ power (symbols q) a (n - (i - 1)))
    term-more products i b m some low is =
        let next : suc (n - i) ≡ n - (i - 1) = omega arith in
        rw is
        (m.at (ρ ⊗ power (symbols q) a (n - i))
        ∙ ap (number q) (swap (power (symbols q) a (n - i)) ∙ ap (λ (y : K). ρ ⊗ y) (sym (power-suc (symbols q) a (n - i)) ∙ ap (power (symbols q) a) next)))
      where
        swap : (y : K) → a ⊗ (ρ ⊗ y) ≡ ρ ⊗ (a ⊗ y)
        swap y = simp (ring, laws-of q known)

    -- all powers are added, and the constant last
    pub added-all : (σ : K) (l : List ℕ) (b : ℕ) → 0 < n → n ≤ length l → b ≡ number q σ → Added q n a ρ F l 0
        → Holds q (set l 0 (sum_of q (get_or l 0 0) b)) n (plus_part q n a σ ρ F)
    unfolding plus_part unit
    added-all σ l b some fit is done =
        record { at = λ k h. ⊎_elim (λ (e : k ≡ 0). rw e here) (λ ne. there k ne h) (same_or_not k 0) }
      where
        new : ℕ
        new = sum_of q (get_or l 0 0) b

        first : (y f : K) → f ⊕ ρ ⊗ y ⊕ σ ≡ f ⊕ (σ ⊗ 𝟙 ⊕ ρ ⊗ y)
        first y f = simp (ring, laws-of q known)

        others : (y f : K) → f ⊕ ρ ⊗ y ≡ f ⊕ (σ ⊗ 𝟘 ⊕ ρ ⊗ y)
        others y f = simp (ring, laws-of q known)

        here : get_or (set l 0 new) 0 0 ≡ number q (plus_part q n a σ ρ F 0)
        here =
            get_or-set_same l 0 new 0 (omega arith)
            ∙ ap₂ (sum_of q) (done.above 0 (omega arith) some) is
            ∙ number-of-sum q known (F 0 ⊕ ρ ⊗ power (symbols q) a (n - 1 - 0)) σ
            ∙ ap (number q) (first (power (symbols q) a (n - 1 - 0)) (F 0))

        there : (k : ℕ) → (k ≡ 0 → ⊥) → k < n → get_or (set l 0 new) k 0 ≡ number q (plus_part q n a σ ρ F k)
        there k ne h =
            get_or-set_other l 0 k new 0 ne
            ∙ done.above k (omega arith) h
            ∙ ap (number q) (others (power (symbols q) a (n - 1 - k)) (F k)
            ∙ ap (λ t. F k ⊕ (σ ⊗ unit (symbols q) t ⊕ ρ ⊗ power (symbols q) a (n - 1 - k))) (sym (ne_eqb k 0 ne)))
