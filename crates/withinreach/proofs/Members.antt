-- The polynomials U z + L that are zero at every point of the curve paired with a symbol: sums, products by powers of x and
-- substitutions of z.
-- Assumes nothing.
use mathlib.Core.Path.{◌≡◌, subst}
use mathlib.Core.Bool.{true}
use Prim.Native.Nat.{ℕ, ◌<◌}
use Rattle.algebra.specs.Symbols.{Symbols, Laws}
use Rattle.algebra.specs.Weights.{nongap}
use Rattle.algebra.specs.Functions.{Fn, times_x, times_monomial, monomial_at}
use Rattle.algebra.proofs.Ring.{ring}
use Rattle.algebra.proofs.Bounds.{plus}
use Rattle.algebra.proofs.Vanishing.{Vanishes, vanishes-plus, vanishes-x, vanishes-substituted}
use Rattle.curve.specs.Points.{point_at}
use Rattle.curve.specs.Codes.{point_count}
use Rattle.curve.proofs.Arranged.{Arranged}
use Rattle.published.proofs.StartZeros.{on-curve}

module _ (𝓢 : Symbols) (q : ℕ) where
  infixl 65 ◌⊖◌
  infixl 70 ◌⊗◌
  open 𝓢 use {K, ◌⊖◌, ◌⊗◌}

  -- U z + L is zero at every point m paired with the symbol r m
  pub record Member (r : ℕ → K) (U L : Fn 𝓢 q) : Type 0 where
    pub zero-at : (m : ℕ) → m < point_count q → Vanishes 𝓢 q (point_at 𝓢 q m).x (point_at 𝓢 q m).y (r m) U L

  -- the symbols less w times the monomial of s
  unfoldable pub lessened : ℕ → K → (ℕ → K) → ℕ → K
  lessened s w r m = r m ⊖ w ⊗ monomial_at 𝓢 q s (point_at 𝓢 q m).x (point_at 𝓢 q m).y

  -- equal symbols
  pub member-same : {r r' : ℕ → K} {U L : Fn 𝓢 q} → ((m : ℕ) → m < point_count q → r m ≡ r' m) → Member r U L → Member r' U L
  member-same {U = U} {L} e v = record {
    zero-at = λ m hm. subst (λ z. Vanishes 𝓢 q (point_at 𝓢 q m).x (point_at 𝓢 q m).y z U L) (e m hm) (v.zero-at m hm);
  }

module _ {𝓢 : Symbols} {q : ℕ} (𝓛 : Laws 𝓢 q) where
  infixl 65 ◌⊖◌
  infixl 70 ◌⊗◌
  open 𝓢 use {K, 𝟘, ◌⊖◌, minus, ◌⊗◌}

  module _ {r : ℕ → K} {U L : Fn 𝓢 q} (v : Member 𝓢 q r U L) where
    -- a sum
    pub member-plus : (c : K) {U' L' : Fn 𝓢 q} → Member 𝓢 q r U' L' → Member 𝓢 q r (plus 𝓢 q c U U') (plus 𝓢 q c L L')
    member-plus c v' = record { zero-at = λ m hm. vanishes-plus 𝓛 (v.zero-at m hm) c (v'.zero-at m hm) }

    -- a product by x^c
    pub member-x : (c : ℕ) → Member 𝓢 q r (times_x 𝓢 q c U) (times_x 𝓢 q c L)
    member-x c = record { zero-at = λ m hm. vanishes-x 𝓛 (v.zero-at m hm) c }

    -- z becomes z + w (monomial of s)
    pub member-substituted : Arranged 𝓢 q → (s : ℕ) → nongap q s ≡ true → (w : K)
        → Member 𝓢 q (lessened 𝓢 q s w r) U (plus 𝓢 q w L (times_monomial 𝓢 q s U))
    unfolding lessened
    member-substituted 𝓐 s t w = record {
      zero-at = λ m hm. vanishes-substituted 𝓛 (v.zero-at m hm) (on-curve 𝓐 m hm) s t w;
    }

  -- and back
  pub member-restored : Arranged 𝓢 q → {r : ℕ → K} {U L : Fn 𝓢 q} (s : ℕ) → nongap q s ≡ true → (w : K)
      → Member 𝓢 q (lessened 𝓢 q s w r) U L → Member 𝓢 q r U (plus 𝓢 q (minus w) L (times_monomial 𝓢 q s U))
  unfolding lessened
  member-restored 𝓐 {r} s t w v = member-same 𝓢 q back (member-substituted v 𝓐 s t (minus w))
    where
      φ : ℕ → K
      φ m = monomial_at 𝓢 q s (point_at 𝓢 q m).x (point_at 𝓢 q m).y

      back : (m : ℕ) → m < point_count q → r m ⊖ w ⊗ φ m ⊖ minus w ⊗ φ m ≡ r m
      back m hm = simp (ring, 𝓛)
