-- Of the numbers below n whose value is a symbol other than 0, one for which a given size is the least: so the lightest of the
-- locators that are not zero at a point is found.
-- Assumes nothing.
use mathlib.Core.Path.{◌≡◌}
use mathlib.Core.Logic.{◌≢◌, ◌⊎◌, inl, inr}
use Prim.Native.Nat.{ℕ, zero, suc, ◌≤◌, ◌<◌}
use native.Mathlib.Omega.{arith}
use native.Mathlib.Decide.{dec_le, ℕ_discrete}
use Rattle.algebra.specs.Symbols.{Symbols, Laws}
use Rattle.algebra.proofs.Ring.{decide}

module _ {𝓢 : Symbols} {q : ℕ} (𝓛 : Laws 𝓢 q) (value : ℕ → 𝓢.K) (size : ℕ → ℕ) where
  open 𝓢 use {𝟘}

  -- the one at `at`
  pub record Smallest (n : ℕ) : Type 0 where
    pub at : ℕ
    pub small : at < n
    pub nonzero : value at ≢ 𝟘
    pub smallest : (i : ℕ) → i < n → value i ≢ 𝟘 → size at ≤ size i

  -- all values are zero, or there is one
  pub find : (n : ℕ) → ((i : ℕ) → i < n → value i ≡ 𝟘) ⊎ Smallest n
  find zero = inl (λ i h. absurd (omega arith))
  find (suc n) = go (find n) (decide 𝓛 (value n) 𝟘)
    where
      keep : (m : Smallest n) → (value n ≢ 𝟘 → size m.at ≤ size n) → Smallest (suc n)
      keep m l = record {
        at = m.at;
        small = omega (arith, m.small);
        nonzero = m.nonzero;
        smallest = λ i hi nz. elim (ℕ_discrete i n) [
          | yes e ↦ rw e (l (rw e at nz))
          | no ne ↦ m.smallest i (omega arith) nz
        ];
      }

      turn : value n ≢ 𝟘 → ((i : ℕ) → i < n → value i ≢ 𝟘 → size n ≤ size i) → Smallest (suc n)
      turn nz l = record {
        at = n;
        small = omega arith;
        nonzero = nz;
        smallest = λ i hi nz'. elim (ℕ_discrete i n) [ yes e ↦ rw e (omega arith) | no ne ↦ l i (omega arith) nz' ];
      }

      go : ((i : ℕ) → i < n → value i ≡ 𝟘) ⊎ Smallest n → Dec (value n ≡ 𝟘)
          → ((i : ℕ) → i < suc n → value i ≡ 𝟘) ⊎ Smallest (suc n)
      go (inl h) (yes z) = inl (λ i hi. elim (ℕ_discrete i n) [ yes e ↦ rw e z | no ne ↦ h i (omega arith) ])
      go (inl h) (no nz) = inr (turn nz (λ i hi nz'. absurd (nz' (h i hi))))
      go (inr m) (yes z) = inr (keep m (λ nz. absurd (nz z)))
      go (inr m) (no nz) = elim (dec_le (size m.at) (size n)) [
        | yes l ↦ inr (keep m (λ _. l))
        | no l ↦ inr (turn nz (λ i hi nz'. let h = m.smallest i hi nz' in omega arith))
      ]
