-- The first symbols of a row: all of them, where the others are zero.
-- Assumes nothing.
use mathlib.Core.Path.{◌≡◌, refl, sym, ◌∙◌, subst}
use mathlib.Core.Bool.{Bool, true, false}
use mathlib.Core.Logic.{⊎_elim}
use Prim.Native.Nat.{ℕ, ◌<◌, ◌≤◌}
use borrow.Author.Tests.{lt-ltb, le-ltb}
use Rattle.lists.proofs.Numbers.{lt-or-ge}
use Rattle.symbols.specs.Rule.{symbols, Sym}
use Rattle.workarea.specs.Area.{first_symbols}

module _ (q : ℕ) where
  -- a symbol among the first, and one past them
  pub first-in : (h : ℕ) (a : ℕ → Sym q) (i : ℕ) → i < h → first_symbols q h a i ≡ a i
  unfolding first_symbols
  first-in h a i l = subst (λ (t : Bool). ◌≡◌ {A = Sym q} (elim t [ true ↦ a i | false ↦ (symbols q).𝟘 ]) (a i)) (sym (lt-ltb i h l)) refl

  pub first_out : (h : ℕ) (a : ℕ → Sym q) (i : ℕ) → h ≤ i → first_symbols q h a i ≡ (symbols q).𝟘
  unfolding first_symbols
  first_out h a i l = subst (λ (t : Bool). ◌≡◌ {A = Sym q} (elim t [ true ↦ a i | false ↦ (symbols q).𝟘 ]) (symbols q).𝟘) (sym (le-ltb i h l)) refl

  -- where the others are zero, nothing is left out
  pub first-all : (h : ℕ) (a : ℕ → Sym q) (i : ℕ) → (h ≤ i → a i ≡ (symbols q).𝟘) → first_symbols q h a i ≡ a i
  first-all h a i zeros =
      ⊎_elim
      (λ (l : i < h). first-in h a i l)
      (λ (l : h ≤ i). first_out h a i l ∙ sym (zeros l))
      (lt-or-ge i h)

  -- the first symbols of equal rows
  pub first_cong : (h : ℕ) (a b : ℕ → Sym q) (i : ℕ) → a i ≡ b i → first_symbols q h a i ≡ first_symbols q h b i
  first_cong h a b i e =
      ⊎_elim
      (λ (l : i < h). first-in h a i l ∙ e ∙ sym (first-in h b i l))
      (λ (l : h ≤ i). first_out h a i l ∙ sym (first_out h b i l))
      (lt-or-ge i h)
