-- Telescoping and root counting: a polynomial of degree below m with m different zeros has no coefficient but zero.
use mathlib.Core.Path.{◌≡◌, sym, ◌∙◌, ◌≡⟨◌⟩◌, ◌∎}
use mathlib.Core.Logic.{◌≢◌}
use Prim.Native.Nat.{ℕ, zero, suc, ◌+◌, ◌-◌, ◌≤◌, ◌<◌}
use native.Mathlib.Nat as Nat
use native.Mathlib.Omega.{arith}
use native.Mathlib.Decide.{ℕ_discrete}
use Rattle.algebra.specs.Symbols.{Symbols, Laws, power, sum}
use Rattle.algebra.specs.Functions.{value_in}
use Rattle.algebra.proofs.Ring.{ring, units, linear, sub_self, sub-ne, zero-factor}
use Rattle.algebra.proofs.Powers.{power_zero, power-suc}
use Rattle.algebra.proofs.Sums.{sum-zero, sum-suc, sum-cong, mul-sum}
use Rattle.algebra.proofs.Polynomials.{value_in-zero, value_in-suc, value_in-head}

module _ {𝓢 : Symbols} {q : ℕ} (𝓛 : Laws 𝓢 q) where
  infixl 65 ◌⊕◌ ◌⊖◌
  infixl 70 ◌⊗◌
  open 𝓢 use {K, 𝟘, ◌⊕◌, ◌⊖◌, ◌⊗◌}

  -- neighbouring terms cancel
  pub telescope : (n : ℕ) (g : ℕ → K) → sum 𝓢 n (λ k. g (suc k) ⊖ g k) ≡ g n ⊖ g 0
  telescope zero g = sum-zero 𝓢 (λ k. g (suc k) ⊖ g k) ∙ sym (sub_self 𝓛 (g 0))
  telescope (suc n) g = rw (sum-suc, telescope n g) (simp (ring, 𝓛))

  -- (x - a) Σ x^k a^(m-1-k) = x^m - a^m
  pub geometric : (x a : K) (m : ℕ)
      → (x ⊖ a) ⊗ sum 𝓢 m (λ k. power 𝓢 x k ⊗ power 𝓢 a (m - suc k)) ≡ power 𝓢 x m ⊖ power 𝓢 a m
  geometric x a m =
      (x ⊖ a) ⊗ sum 𝓢 m (λ k. power 𝓢 x k ⊗ power 𝓢 a (m - suc k))
      ≡⟨ mul-sum 𝓛 m (x ⊖ a) (λ k. power 𝓢 x k ⊗ power 𝓢 a (m - suc k)) ⟩
      sum 𝓢 m (λ k. (x ⊖ a) ⊗ (power 𝓢 x k ⊗ power 𝓢 a (m - suc k)))
      ≡⟨ sum-cong 𝓢 m step ⟩
      sum 𝓢 m (λ k. power 𝓢 x (suc k) ⊗ power 𝓢 a (m - suc k) ⊖ power 𝓢 x k ⊗ power 𝓢 a (m - k))
      ≡⟨ telescope m (λ k. power 𝓢 x k ⊗ power 𝓢 a (m - k)) ⟩
      power 𝓢 x m ⊗ power 𝓢 a (m - m) ⊖ power 𝓢 x 0 ⊗ power 𝓢 a (m - 0)
      ≡⟨ (simp (Nat.sub_self, Nat.sub-zero, power_zero, units, 𝓛)) ⟩
      power 𝓢 x m ⊖ power 𝓢 a m ∎
    where
      step : (k : ℕ) → k < m → (x ⊖ a) ⊗ (power 𝓢 x k ⊗ power 𝓢 a (m - suc k))
          ≡ power 𝓢 x (suc k) ⊗ power 𝓢 a (m - suc k) ⊖ power 𝓢 x k ⊗ power 𝓢 a (m - k)
      step k h = let e : m - k ≡ suc (m - suc k) = omega arith in simp (e, power-suc, ring, 𝓛)

  -- the quotient of f by x - r, and a constant left over
  quotient : (m : ℕ) (f : ℕ → K) (r : K) → ℕ → K
  quotient m f r k = value_in 𝓢 q (m - k) (λ j. f (suc (k + j))) r

  -- the recurrence of its coefficients
  quotient-step : (m : ℕ) (f : ℕ → K) (r : K) (k : ℕ) → k < m
      → quotient m f r k ≡ f (suc k) ⊕ r ⊗ quotient m f r (suc k)
  unfolding quotient
  quotient-step m f r k h =
      let e : m - k ≡ suc (m - suc k) = omega arith in
      rw (e, value_in-head 𝓛) (simp (Nat.add-zero, Nat.add-suc, Nat.suc-add))

  -- it has m coefficients
  quotient-end : (m : ℕ) (f : ℕ → K) (r : K) → quotient m f r m ≡ 𝟘
  unfolding quotient
  quotient-end m f r = simp (Nat.sub_self, value_in-zero)

  -- synthetic division, n coefficients done, for any g with the recurrence of the quotient
  divide : (m : ℕ) (f g : ℕ → K) (r x : K) (n : ℕ) → n ≤ m → ((k : ℕ) → k < m → g k ≡ f (suc k) ⊕ r ⊗ g (suc k))
      → value_in 𝓢 q (suc n) f x ⊕ r ⊗ (g n ⊗ power 𝓢 x n) ≡ f 0 ⊕ r ⊗ g 0 ⊕ (x ⊖ r) ⊗ value_in 𝓢 q n g x
  divide m f g r x zero l h = rw value_in-suc (simp (value_in-zero, power_zero, ring, 𝓛))
  divide m f g r x (suc n) l h =
      linear 𝓛 (divide m f g r x n (omega arith) h) (simp (value_in-suc, power-suc, h n (omega arith), ring, 𝓛))

  -- f(x) = c + (x - r) g(x), where g is the quotient
  division : (m : ℕ) (f : ℕ → K) (r x : K)
      → value_in 𝓢 q (suc m) f x ≡ f 0 ⊕ r ⊗ quotient m f r 0 ⊕ (x ⊖ r) ⊗ value_in 𝓢 q m (quotient m f r) x
  division m f r x =
      linear 𝓛 (divide m f (quotient m f r) r x m (omega arith) (quotient-step m f r)) (simp (quotient-end, ring, 𝓛))

  -- the constant is the value at r
  remainder : (m : ℕ) (f : ℕ → K) (r : K) → value_in 𝓢 q (suc m) f r ≡ f 0 ⊕ r ⊗ quotient m f r 0
  remainder m f r = division m f r r ∙ simp (ring, 𝓛)

  -- at every zero but r the quotient is zero too
  quotient-zero : (m : ℕ) (f : ℕ → K) (r x : K) → x ≢ r → value_in 𝓢 q (suc m) f r ≡ 𝟘 → value_in 𝓢 q (suc m) f x ≡ 𝟘
      → value_in 𝓢 q m (quotient m f r) x ≡ 𝟘
  quotient-zero m f r x ne zr zx =
      zero-factor 𝓛 (x ⊖ r) (value_in 𝓢 q m (quotient m f r) x) product (sub-ne 𝓛 ne)
    where
      product : (x ⊖ r) ⊗ value_in 𝓢 q m (quotient m f r) x ≡ 𝟘
      product = linear 𝓛 (sym (division m f r x) ∙ zx) (linear 𝓛 (sym zr ∙ remainder m f r) (simp (ring, 𝓛)))

  -- if the quotient has only zeros for coefficients, so has f
  quotient-none : (m : ℕ) (f : ℕ → K) (r : K) → value_in 𝓢 q (suc m) f r ≡ 𝟘 → ((k : ℕ) → k < m → quotient m f r k ≡ 𝟘)
      → (k : ℕ) → k < suc m → f k ≡ 𝟘
  quotient-none m f r zr h = low
    where
      all : (k : ℕ) → k ≤ m → quotient m f r k ≡ 𝟘
      all k hk = elim (ℕ_discrete k m) [ yes e ↦ rw e (quotient-end m f r) | no ne ↦ h k (omega arith) ]

      low : (k : ℕ) → k < suc m → f k ≡ 𝟘
      low zero hk = linear 𝓛 (sym (remainder m f r) ∙ zr) (simp (all 0 (omega arith), ring, 𝓛))
      low (suc k) hk =
          linear 𝓛 (sym (quotient-step m f r k (omega arith)))
          (simp (all k (omega arith), all (suc k) (omega arith), ring, 𝓛))

  -- m different zeros X 0 .. X (m - 1) of a polynomial with m coefficients: every coefficient is zero
  pub roots : (m : ℕ) (f X : ℕ → K) → ((i j : ℕ) → i < j → j < m → X i ≢ X j)
      → ((i : ℕ) → i < m → value_in 𝓢 q m f (X i) ≡ 𝟘)
      → (k : ℕ) → k < m → f k ≡ 𝟘
  roots zero f X apart z = λ k h. absurd (omega arith)
  roots (suc m) f X apart z =
      quotient-none m f (X m) (z m (omega arith))
      (roots m (quotient m f (X m)) X (λ i j hij hj. apart i j hij (omega arith))
      (λ i hi. quotient-zero m f (X m) (X i) (apart i m hi (omega arith)) (z m (omega arith)) (z i (omega arith))))
