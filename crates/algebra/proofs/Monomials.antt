-- The functions x^i y^j themselves: their coefficients, their weight, their values.
use mathlib.Core.Path.{◌≡◌, refl, ap, ap₂, ◌∙◌}
use mathlib.Core.Logic.{◌≢◌}
use mathlib.Core.Bool.{◌&&◌}
use Prim.Native.Nat.{ℕ, ◌+◌, ◌<◌}
use native.Mathlib.Omega.{arith}
use native.Mathlib.Decide.{ℕ_discrete}
use lib.Dec.{eqb}
use borrow.Author.Tests.{eq-eqb, ne_eqb}
use Rattle.algebra.specs.Symbols.{Symbols, Laws, power}
use Rattle.algebra.specs.Weights.{weight}
use Rattle.algebra.specs.Functions.{Fn, value_in, value_at}
use Rattle.algebra.specs.Interpolation.{unit}
use Rattle.algebra.proofs.Ring.{mul-zero, zero-mul, one-mul, mul_comm}
use Rattle.algebra.proofs.Sums.{sum-single}
use Rattle.algebra.proofs.Polynomials.{value_in-def, value_in-none}
use Rattle.algebra.proofs.OnCurve.{value_at-def}
use Rattle.algebra.proofs.Bounds.{Cut}

module _ (𝓢 : Symbols) (q : ℕ) where
  open 𝓢 use {K, 𝟘, 𝟙}

  -- x^b y^a
  unfoldable pub monomial : ℕ → ℕ → Fn 𝓢 q
  monomial a b j i = unit 𝓢 (eqb j a && eqb i b)

  -- its coefficient of x^b y^a is one
  pub monomial-one : (a b : ℕ) → monomial a b a b ≡ 𝟙
  unfolding monomial unit
  monomial-one a b = ap₂ (λ s t. unit 𝓢 (s && t)) (eq-eqb a a refl) (eq-eqb b b refl)

  -- in every other row, and at every other power of x
  pub monomial-row : (a b j i : ℕ) → j ≢ a → monomial a b j i ≡ 𝟘
  unfolding monomial unit
  monomial-row a b j i h = ap (λ t. unit 𝓢 (t && eqb i b)) (ne_eqb j a h)

  -- and at every other power of x
  pub monomial-place : (a b j i : ℕ) → i ≢ b → monomial a b j i ≡ 𝟘
  unfolding monomial unit
  monomial-place a b j i h = elim (ℕ_discrete j a) [
    | yes e ↦ ap₂ (λ s t. unit 𝓢 (s && t)) (eq-eqb j a e) (ne_eqb i b h)
    | no ne ↦ monomial-row a b j i ne
  ]

  -- it has no weight above its own
  pub monomial-cut : (a b : ℕ) → Cut 𝓢 q (weight q a b) 0 (monomial a b)
  monomial-cut a b = record { off = other }
    where
      other : (j i : ℕ) → j < q → weight q a b < weight q j i + 0 → monomial a b j i ≡ 𝟘
      other j i hj h = elim (ℕ_discrete j a) [
        | yes e ↦ elim (ℕ_discrete i b) [
          | yes e' ↦ absurd (omega (arith, ap₂ (weight q) e e'))
          | no ne ↦ monomial-place a b j i ne
        ]
        | no ne ↦ monomial-row a b j i ne
      ]

module _ {𝓢 : Symbols} {q : ℕ} (𝓛 : Laws 𝓢 q) where
  infixl 70 ◌⊗◌
  open 𝓢 use {K, 𝟘, ◌⊗◌}

  -- the value of x^b y^a
  pub monomial-value : (a b W : ℕ) (x y : K) → a < q → b < W
      → value_at 𝓢 q W (monomial 𝓢 q a b) x y ≡ power 𝓢 x b ⊗ power 𝓢 y a
  monomial-value a b W x y ha hb =
      value_at-def 𝓢 q W (monomial 𝓢 q a b) x y
      ∙ sum-single 𝓛 q a (λ j. power 𝓢 y j ⊗ value_in 𝓢 q W (monomial 𝓢 q a b j) x) ha other
      ∙ ap (λ z. power 𝓢 y a ⊗ z) own ∙ mul_comm 𝓛 (power 𝓢 y a) (power 𝓢 x b)
    where
      own : value_in 𝓢 q W (monomial 𝓢 q a b a) x ≡ power 𝓢 x b
      own =
          value_in-def 𝓢 q W (monomial 𝓢 q a b a) x
          ∙ sum-single 𝓛 W b (λ i. monomial 𝓢 q a b a i ⊗ power 𝓢 x i) hb
          (λ i hi ne. simp (monomial-place 𝓢 q a b a i ne, zero-mul 𝓛))
          ∙ simp (monomial-one, one-mul 𝓛)

      other : (j : ℕ) → j < q → j ≢ a → power 𝓢 y j ⊗ value_in 𝓢 q W (monomial 𝓢 q a b j) x ≡ 𝟘
      other j hj ne =
          ap (λ z. power 𝓢 y j ⊗ z) (value_in-none 𝓛 W x (λ i hi. monomial-row 𝓢 q a b j i ne)) ∙ mul-zero 𝓛 (power 𝓢 y j)
