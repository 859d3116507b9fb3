-- Powers of a symbol, and the size of a field: q is at least 2.
use mathlib.Core.Path.{◌≡◌, refl, ◌∙◌}
use Prim.Native.Nat.{ℕ, zero, suc, ◌+◌, ◌*◌, ◌≤◌, ◌<◌}
use native.Mathlib.Nat as Nat
use native.Mathlib.Omega.{arith}
use Rattle.algebra.specs.Symbols.{Symbols, Laws, power}
use Rattle.algebra.proofs.Ring.{mul-one, one-mul, mul_assoc}

module _ (𝓢 : Symbols) where
  infixl 70 ◌⊗◌
  open 𝓢 use {K, 𝟙, ◌⊗◌}

  -- the power 0
  pub power_zero : (a : K) → power 𝓢 a 0 ≡ 𝟙
  unfolding power
  power_zero a = refl

  -- one factor more
  pub power-suc : (a : K) (n : ℕ) → power 𝓢 a (suc n) ≡ a ⊗ power 𝓢 a n
  unfolding power
  power-suc a n = refl

-- a square above 1 has a root of at least 2
root-of-square : (n : ℕ) → 1 < n * n → 2 ≤ n
root-of-square zero h = absurd (omega arith)
root-of-square (suc zero) h = absurd (omega arith)
root-of-square (suc (suc n)) h = omega arith

module _ {𝓢 : Symbols} {q : ℕ} (𝓛 : Laws 𝓢 q) where
  infixl 70 ◌⊗◌
  open 𝓢 use {K, 𝟙, ◌⊗◌}

  -- one has the number 1, below q²
  pub two-le-q : 2 ≤ q
  two-le-q = root-of-square q (rw 𝓛.number-one at (𝓛.number-below 𝟙))

  -- the power 1
  pub power-one : (a : K) → power 𝓢 a 1 ≡ a
  power-one a = power-suc 𝓢 a 0 ∙ simp (power_zero, mul-one 𝓛)

  -- exponents add up
  pub power-add : (a : K) (m n : ℕ) → power 𝓢 a (m + n) ≡ power 𝓢 a m ⊗ power 𝓢 a n
  power-add a zero n = simp (Nat.zero-add, power_zero, one-mul 𝓛)
  power-add a (suc m) n = simp (Nat.suc-add, power-suc, power-add a m n, mul_assoc 𝓛)
