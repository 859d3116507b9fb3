-- Polynomials U z + L that are zero at a point (x, y) of the curve and z = r: sums, products by x and by y and substitutions
-- of z keep that.
use mathlib.Core.Path.{◌≡◌, sym, ap, ap₂, ◌∙◌}
use mathlib.Core.Bool.{true}
use Prim.Native.Nat.{ℕ, suc, ◌+◌, ◌*◌, ◌<◌}
use native.Mathlib.Nat as Nat
use native.Mathlib.Omega.{arith}
use Rattle.algebra.specs.Symbols.{Symbols, Laws, power}
use Rattle.algebra.specs.Weights.{nongap}
use Rattle.algebra.specs.Functions.{Fn, times_x, times_ys, times_monomial, monomial_at, value_at}
use Rattle.algebra.proofs.Ring.{ring, linear}
use Rattle.algebra.proofs.Powers.{two-le-q}
use Rattle.algebra.proofs.Bounds.{Agree, Cut, plus, cut-le, cut-cong, cut-plus, cut-x, cut-ys, cut-monomial}
use Rattle.algebra.proofs.OnCurve.{OnCurve, value_at-cong, value_at-plus, value_at-width, value_at-x, value_at-ys, value_at-monomial}

module _ (𝓢 : Symbols) (q : ℕ) where
  infixl 65 ◌⊕◌
  infixl 70 ◌⊗◌
  open 𝓢 use {K, 𝟘, ◌⊕◌, ◌⊗◌}

  -- U z + L is zero at z = r, (x, y): with a bound of its weights, and at every width that fits the bound
  pub record Vanishes (x y r : K) (U L : Fn 𝓢 q) : Type 0 where
    pub bound : ℕ
    pub up : Cut 𝓢 q bound 0 U
    pub low : Cut 𝓢 q bound 0 L
    pub zero-there : (W : ℕ) → bound < q * W → r ⊗ value_at 𝓢 q W U x y ⊕ value_at 𝓢 q W L x y ≡ 𝟘

  -- equal functions vanish alike
  pub vanishes-cong : {x y r : K} {U L U' L' : Fn 𝓢 q} → Agree 𝓢 q U U' → Agree 𝓢 q L L'
      → Vanishes x y r U L → Vanishes x y r U' L'
  vanishes-cong {x} {y} {r} e_u e_l m = record {
    bound = m.bound;
    up = cut-cong 𝓢 q e_u m.up;
    low = cut-cong 𝓢 q e_l m.low;
    zero-there = λ W h.
        let up = value_at-cong 𝓢 q W x y (λ j i hj hi. e_u j i hj) in
        let low = value_at-cong 𝓢 q W x y (λ j i hj hi. e_l j i hj) in
        sym (ap₂ (λ a b. r ⊗ a ⊕ b) up low) ∙ m.zero-there W h;
  }

module _ {𝓢 : Symbols} {q : ℕ} (𝓛 : Laws 𝓢 q) where
  infixl 65 ◌⊕◌ ◌⊖◌
  infixl 70 ◌⊗◌
  open 𝓢 use {K, 𝟘, ◌⊕◌, ◌⊖◌, ◌⊗◌}

  -- from one width that fits to all
  pub vanishes-from : (W n : ℕ) (x y r : K) {U L : Fn 𝓢 q} → Cut 𝓢 q n 0 U → Cut 𝓢 q n 0 L → n < q * W
      → r ⊗ value_at 𝓢 q W U x y ⊕ value_at 𝓢 q W L x y ≡ 𝟘 → Vanishes 𝓢 q x y r U L
  vanishes-from W n x y r h_u h_l h z = record {
    bound = n;
    up = h_u;
    low = h_l;
    zero-there = λ W' h'.
        ap₂ (λ a b. r ⊗ a ⊕ b) (value_at-width 𝓛 W' W n x y h_u h' h) (value_at-width 𝓛 W' W n x y h_l h' h) ∙ z;
  }

  -- and to a width that fits another bound
  pub vanishes-at : (W n : ℕ) {x y r : K} {U L : Fn 𝓢 q} → Cut 𝓢 q n 0 U → Cut 𝓢 q n 0 L → n < q * W
      → Vanishes 𝓢 q x y r U L
      → r ⊗ value_at 𝓢 q W U x y ⊕ value_at 𝓢 q W L x y ≡ 𝟘
  vanishes-at W n {x} {y} {r} h_u h_l h m =
      ap₂ (λ a b. r ⊗ a ⊕ b) (value_at-width 𝓛 W wider n x y h_u h fits) (value_at-width 𝓛 W wider n x y h_l h fits)
      ∙ m.zero-there wider (omega (arith, Nat.mul-le-mul_right m.bound (two-le-q 𝓛)))
    where
      wider : ℕ
      wider = W + suc m.bound

      fits : n < q * wider
      fits = omega arith

  module _ {x y r : K} {U L : Fn 𝓢 q} (m : Vanishes 𝓢 q x y r U L) where
    -- sums vanish too
    pub vanishes-plus : (c : K) {U' L' : Fn 𝓢 q} → Vanishes 𝓢 q x y r U' L'
        → Vanishes 𝓢 q x y r (plus 𝓢 q c U U') (plus 𝓢 q c L L')
    vanishes-plus c {U'} {L'} m' = record {
      bound = m.bound + m'.bound;
      up = cut-plus 𝓛 c (cut-le 𝓢 q (omega arith) m.up) (cut-le 𝓢 q (omega arith) m'.up);
      low = cut-plus 𝓛 c (cut-le 𝓢 q (omega arith) m.low) (cut-le 𝓢 q (omega arith) m'.low);
      zero-there = λ W h.
          let z = m.zero-there W (omega arith) in
          let z' = m'.zero-there W (omega arith) in
          simp (value_at-plus 𝓛 W c U U' x y, value_at-plus 𝓛 W c L L' x y)
          (linear 𝓛 z (linear 𝓛 (ap (λ v. c ⊗ v) z') (simp (ring, 𝓛))));
    }

    -- products by x^c too
    pub vanishes-x : (c : ℕ) → Vanishes 𝓢 q x y r (times_x 𝓢 q c U) (times_x 𝓢 q c L)
    vanishes-x c = record {
      bound = m.bound + q * c;
      up = cut-x 𝓢 q c m.up;
      low = cut-x 𝓢 q c m.low;
      zero-there = λ W h. simp (value_at-x 𝓛 W m.bound c x y m.up h, value_at-x 𝓛 W m.bound c x y m.low h)
          (linear 𝓛 (ap (λ z. power 𝓢 x c ⊗ z) (m.zero-there W (omega arith))) (simp (ring, 𝓛)));
    }

    module _ (curve : OnCurve 𝓢 q x y) where
      -- products by y^b too
      pub vanishes-ys : (b : ℕ) → Vanishes 𝓢 q x y r (times_ys 𝓢 q b U) (times_ys 𝓢 q b L)
      vanishes-ys b = record {
        bound = m.bound + (q + 1) * b;
        up = cut-ys 𝓛 b m.up;
        low = cut-ys 𝓛 b m.low;
        zero-there = λ W h.
            simp (value_at-ys 𝓛 x y curve b W m.bound m.up h, value_at-ys 𝓛 x y curve b W m.bound m.low h)
            (linear 𝓛 (ap (λ z. power 𝓢 y b ⊗ z) (m.zero-there W (omega arith))) (simp (ring, 𝓛)));
      }

      -- z becomes z + w (monomial of s): what vanished at r vanishes at r less w times the monomial's value
      pub vanishes-substituted : (s : ℕ) → nongap q s ≡ true → (w : K)
          → Vanishes 𝓢 q x y (r ⊖ w ⊗ monomial_at 𝓢 q s x y) U (plus 𝓢 q w L (times_monomial 𝓢 q s U))
      vanishes-substituted s t w = record {
        bound = m.bound + s;
        up = cut-le 𝓢 q (omega arith) m.up;
        low = cut-plus 𝓛 w (cut-le 𝓢 q (omega arith) m.low) (cut-monomial 𝓛 s t m.up);
        zero-there = λ W h.
            let product = value_at-monomial 𝓛 x y curve s t W m.bound m.up h in
            simp (value_at-plus 𝓛 W w L (times_monomial 𝓢 q s U) x y, product)
            (linear 𝓛 (m.zero-there W (omega arith)) (simp (ring, 𝓛)));
      }
