-- Products by powers of x coefficient by coefficient: of equal polynomials, of differences, and twice.
use mathlib.Core.Path.{◌≡◌, sym, ap, ◌∙◌}
use Prim.Native.Nat.{ℕ, ◌+◌, ◌-◌, ◌<◌, ◌≤◌}
use native.Mathlib.Omega.{arith}
use native.Mathlib.Decide.{dec_le}
use Rattle.algebra.specs.Symbols.{Symbols, Laws}
use Rattle.algebra.specs.Functions.{shift}
use Rattle.algebra.proofs.Ring.{sub_self}
use Rattle.algebra.proofs.Polynomials.{shift-at, shift-below}

module _ (𝓢 : Symbols) (q : ℕ) where
  infixl 65 ◌⊖◌
  open 𝓢 use {K, 𝟘, ◌⊖◌}

  -- x^c times polynomials with equal coefficients, as far as they are looked at
  pub shift-cong : (c : ℕ) {f g : ℕ → K} (i : ℕ) → ((n : ℕ) → n ≤ i → f n ≡ g n) → shift 𝓢 q c f i ≡ shift 𝓢 q c g i
  shift-cong c {f} {g} i h =
      elim (dec_le c i) [
        | yes b ↦ shift-at 𝓢 q c f i b ∙ h (i - c) (omega arith) ∙ sym (shift-at 𝓢 q c g i b)
        | no b ↦ shift-below 𝓢 q c f i (omega arith) ∙ sym (shift-below 𝓢 q c g i (omega arith))
      ]

  -- x^a times x^c times a polynomial
  pub shift-shift : (a c : ℕ) (f : ℕ → K) (i : ℕ) → shift 𝓢 q a (shift 𝓢 q c f) i ≡ shift 𝓢 q (a + c) f i
  shift-shift a c f i =
      elim (dec_le a i) [
        | yes h ↦ shift-at 𝓢 q a (shift 𝓢 q c f) i h ∙ further h
        | no h ↦ shift-below 𝓢 q a (shift 𝓢 q c f) i (omega arith) ∙ sym (shift-below 𝓢 q (a + c) f i (omega arith))
      ]
    where
      further : a ≤ i → shift 𝓢 q c f (i - a) ≡ shift 𝓢 q (a + c) f i
      further h =
          elim (dec_le c (i - a)) [
            | yes b ↦ shift-at 𝓢 q c f (i - a) b ∙ ap f (omega arith) ∙ sym (shift-at 𝓢 q (a + c) f i (omega arith))
            | no b ↦ shift-below 𝓢 q c f (i - a) (omega arith) ∙ sym (shift-below 𝓢 q (a + c) f i (omega arith))
          ]

  -- x^a times a difference
  pub shift-sub : Laws 𝓢 q → (a : ℕ) (f g : ℕ → K) (i : ℕ) → shift 𝓢 q a (λ n. f n ⊖ g n) i ≡ shift 𝓢 q a f i ⊖ shift 𝓢 q a g i
  shift-sub 𝓛 a f g i =
      elim (dec_le a i) [
        | yes h ↦
            shift-at 𝓢 q a (λ n. f n ⊖ g n) i h
            ∙ sym (ap (λ (y : K). y ⊖ shift 𝓢 q a g i) (shift-at 𝓢 q a f i h) ∙ ap (λ (y : K). f (i - a) ⊖ y) (shift-at 𝓢 q a g i h))
        | no h ↦
            let low : i < a = omega arith in
            shift-below 𝓢 q a (λ n. f n ⊖ g n) i low
            ∙ sym (ap (λ (y : K). y ⊖ shift 𝓢 q a g i) (shift-below 𝓢 q a f i low) ∙ ap (λ (y : K). 𝟘 ⊖ y) (shift-below 𝓢 q a g i low) ∙ sub_self 𝓛 𝟘)
      ]
