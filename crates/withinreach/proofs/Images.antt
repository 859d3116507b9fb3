-- The locators as members: locator i times z less what is left of the message is zero at every point paired with its symbol,
-- where the rows agree by the second factor and where they differ by the first. It leads in row i of the upper part.
-- Assumes nothing.
use mathlib.Core.Path.{◌≡◌, refl, ap, ◌∙◌}
use mathlib.Core.Bool.{Bool, true, false}
use Prim.Native.Nat.{ℕ, suc, ◌+◌, ◌*◌, ◌-◌, ◌≤◌, ◌<◌}
use native.Mathlib.Nat as Nat
use native.Mathlib.Omega.{arith}
use Rattle.algebra.specs.Symbols.{Symbols, Laws}
use Rattle.algebra.specs.Weights.{weight}
use Rattle.algebra.specs.Functions.{Fn, value_at}
use Rattle.algebra.proofs.Ring.{ring, mul-zero}
use Rattle.algebra.proofs.Powers.{two-le-q}
use Rattle.algebra.proofs.Bounds.{Cut, cut-le}
use Rattle.algebra.proofs.OnCurve.{value_at-scale, value_at-width}
use Rattle.algebra.proofs.Leads.{LeadUpper}
use Rattle.algebra.proofs.Vanishing.{vanishes-from}
use Rattle.curve.specs.Points.{point_at}
use Rattle.curve.specs.Codes.{point_count}
use Rattle.curve.proofs.Arranged.{Arranged}
use Rattle.published.proofs.StartZeros.{on-curve}
use Rattle.withinreach.proofs.Products.{product, product-cut, product_value}
use Rattle.withinreach.proofs.Members.{Member}
use Rattle.withinreach.proofs.Locators.{Locators}

module _ (𝓢 : Symbols) (q : ℕ) where
  open 𝓢 use {K}

  -- the points
  abbrev pub xs : ℕ → K
  xs m = (point_at 𝓢 q m).x

  abbrev pub ys : ℕ → K
  ys m = (point_at 𝓢 q m).y

  -- a function that is left of a message's: its weights are below s, and it has the symbols r where the rows agree
  pub record Left (agrees : ℕ → Bool) (r : ℕ → K) (s : ℕ) (rest : Fn 𝓢 q) : Type 0 where
    pub light : Cut 𝓢 q (q * (q * q)) 1 rest
    pub cut : Cut 𝓢 q s 1 rest
    pub takes : (m : ℕ) → m < point_count q → agrees m ≡ true → r m ≡ value_at 𝓢 q (q * q) rest (xs m) (ys m)

module _ {𝓢 : Symbols} {q : ℕ} (𝓛 : Laws 𝓢 q) (𝓐 : Arranged 𝓢 q) (agrees : ℕ → Bool)
    (E : Locators 𝓛 (xs 𝓢 q) (ys 𝓢 q) agrees (point_count q)) where
  infixl 65 ◌⊕◌
  infixl 70 ◌⊗◌
  open 𝓢 use {K, 𝟘, 𝟙, ◌⊕◌, minus, ◌⊗◌}

  -- a width that is enough for locator i times what is left
  abbrev wide : ℕ → ℕ
  wide i = suc (q * (q * q) + weight q i (E.e i))

  -- the value of locator i at point m
  abbrev located : ℕ → ℕ → K
  located i m = value_at 𝓢 q (wide i) (E.ε i) (xs 𝓢 q m) (ys 𝓢 q m)

  -- minus what is left times locator i
  pub image : ℕ → Fn 𝓢 q → Fn 𝓢 q
  image i rest j k = minus 𝟙 ⊗ product 𝓢 q (wide i) rest (E.ε i) j k

  -- its weights
  image-cut : (i : ℕ) → i < q → {n m : ℕ} {rest : Fn 𝓢 q} → Cut 𝓢 q n m rest
      → Cut 𝓢 q (weight q i (E.e i) + n) m (image i rest)
  unfolding image
  image-cut i hi h = record {
    off = λ j k hj l. ap (λ z. minus 𝟙 ⊗ z) ((product-cut 𝓛 (wide i) h (E.cut i hi)).off j k hj l) ∙ mul-zero 𝓛 (minus 𝟙);
  }

  -- locator i times z less what is left leads in row i of the upper part
  pub image-lead : (i : ℕ) → i < q → {s : ℕ} {rest : Fn 𝓢 q} → Cut 𝓢 q s 1 rest
      → LeadUpper 𝓢 q s i (E.e i) (E.ε i) (image i rest)
  image-lead i hi h = record { top = E.top i hi; up = E.cut i hi; low = image-cut i hi h }

  -- and is a member: where the rows differ the locator is zero, and elsewhere z less what is left is
  pub image-member : {r : ℕ → K} {s : ℕ} {rest : Fn 𝓢 q} → Left 𝓢 q agrees r s rest → (i : ℕ) → i < q
      → Member 𝓢 q r (E.ε i) (image i rest)
  unfolding image
  image-member {r} {s} {rest} left i hi = record {
    zero-at = λ m hm.
        vanishes-from 𝓛 (wide i) (weight q i (E.e i) + q * (q * q)) (xs 𝓢 q m) (ys 𝓢 q m) (r m)
        (cut-le 𝓢 q (omega arith) (E.cut i hi)) (cut-le 𝓢 q (omega arith) (image-cut i hi left.light)) fits
        (ap (λ z. r m ⊗ located i m ⊕ z) (value m hm) ∙ zero m hm (agrees m) refl);
  }
    where
      two : 2 ≤ q
      two = two-le-q 𝓛

      fits : weight q i (E.e i) + q * (q * q) < q * wide i
      fits = omega (arith, two, Nat.mul-le-mul_right (q * (q * q) + weight q i (E.e i)) two)

      big : 0 < q * (q * q)
      big = omega (arith, Nat.mul-le-mul two (Nat.mul-le-mul two two))

      small : Cut 𝓢 q (q * (q * q) - 1) 0 rest
      small = cut-le 𝓢 q (omega (arith, big)) left.light

      value : (m : ℕ) → m < point_count q
          → value_at 𝓢 q (wide i) (λ j k. minus 𝟙 ⊗ product 𝓢 q (wide i) rest (E.ε i) j k) (xs 𝓢 q m) (ys 𝓢 q m)
          ≡ minus 𝟙 ⊗ (value_at 𝓢 q (q * q) rest (xs 𝓢 q m) (ys 𝓢 q m) ⊗ located i m)
      value m hm =
          let x = xs 𝓢 q m in
          let y = ys 𝓢 q m in
          let n : ℕ = q * (q * q) - 1 in
          let narrow = value_at-width 𝓛 (wide i) (q * q) n x y small (omega (arith, fits)) (omega (arith, big)) in
          let both = product_value 𝓛 x y (on-curve 𝓐 m hm) (wide i) n (weight q i (E.e i)) small (E.cut i hi)
          (omega (arith, fits)) in
          value_at-scale 𝓛 (wide i) (minus 𝟙) (product 𝓢 q (wide i) rest (E.ε i)) x y
          ∙ ap (λ z. minus 𝟙 ⊗ z) (both ∙ ap (λ z. z ⊗ located i m) narrow)

      zero : (m : ℕ) → m < point_count q → (b : Bool) → agrees m ≡ b
          → r m ⊗ located i m ⊕ minus 𝟙 ⊗ (value_at 𝓢 q (q * q) rest (xs 𝓢 q m) (ys 𝓢 q m) ⊗ located i m) ≡ 𝟘
      zero m hm true e = rw (left.takes m hm e) (simp (ring, 𝓛))
      zero m hm false e = simp (E.zero-at i m (wide i) hi hm e (omega (arith, fits)), ring, 𝓛)
