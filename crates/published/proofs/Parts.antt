-- A polynomial by its two parts: when two are the same, where its lead stands, how far it reaches, where it is zero.
use mathlib.Core.Path.{◌≡◌}
use Prim.Native.Nat.{ℕ, zero, suc, ◌+◌, ◌*◌, ◌≤◌, ◌<◌}
use native.Mathlib.Omega.{arith}
use Rattle.algebra.specs.Symbols.{Symbols}
use Rattle.algebra.specs.Weights.{weight}
use Rattle.algebra.specs.Functions.{Fn}
use Rattle.algebra.proofs.Bounds.{Cut, cut-le, cut-width}
use Rattle.algebra.proofs.Leads.{LeadUpper, LeadLower, lead_upper-cong, lead_lower-cong}
use Rattle.algebra.proofs.Vanishing.{Vanishes, vanishes-cong}
use Rattle.published.specs.Start.{width, upper, lower}

module _ (𝓢 : Symbols) (q : ℕ) where
  open 𝓢 use {K, 𝟘}

  -- a polynomial by its parts
  abbrev pub Parts : Type 0
  Parts = ℕ → Fn 𝓢 q

  -- the lead of F is z x^A y^i, where z weighs s - 1
  abbrev pub LeadsUpper : ℕ → ℕ → ℕ → Parts → Type 0
  LeadsUpper s i A F = LeadUpper 𝓢 q s i A (F upper) (F lower)

  -- the lead of F is x^D y^j
  abbrev pub LeadsLower : ℕ → ℕ → ℕ → Parts → Type 0
  LeadsLower s j D F = LeadLower 𝓢 q s j D (F upper) (F lower)

  -- F is zero at (x, y) and z = r
  abbrev pub ZeroAt : K → K → K → Parts → Type 0
  ZeroAt x y r F = Vanishes 𝓢 q x y r (F upper) (F lower)

  -- F has nothing past the width
  abbrev pub Narrow : Parts → Type 0
  Narrow F = (part j i : ℕ) → part ≤ lower → j < q → width q ≤ i → F part j i ≡ 𝟘

  -- the same coefficients, in the rows that count
  pub record SameParts (F G : Parts) : Type 0 where
    pub at : (part j i : ℕ) → part ≤ lower → j < q → F part j i ≡ G part j i

  -- the same polynomial has the same upper lead
  pub same-upper : {s i A : ℕ} {F G : Parts} → i < q → SameParts F G → LeadsUpper s i A F → LeadsUpper s i A G
  same-upper hi e = lead_upper-cong 𝓢 q hi (λ j k. e.at upper j k (omega arith)) (λ j k. e.at lower j k (omega arith))

  -- and the same lower lead
  pub same-lower : {s j D : ℕ} {F G : Parts} → j < q → SameParts F G → LeadsLower s j D F → LeadsLower s j D G
  same-lower hj e = lead_lower-cong 𝓢 q hj (λ j k. e.at upper j k (omega arith)) (λ j k. e.at lower j k (omega arith))

  -- and the same zeros
  pub same-zero : {x y r : K} {F G : Parts} → SameParts F G → ZeroAt x y r F → ZeroAt x y r G
  same-zero e = vanishes-cong 𝓢 q (λ j k. e.at upper j k (omega arith)) (λ j k. e.at lower j k (omega arith))

  -- the weights of both parts of a polynomial with an upper lead
  pub upper-cut : {s i A : ℕ} (F : Parts) → LeadsUpper s i A F → (part : ℕ) → part ≤ lower
      → Cut 𝓢 q (weight q i A + s) 0 (F part)
  upper-cut F l zero hp = cut-le 𝓢 q (omega arith) l.up
  upper-cut F l (suc zero) hp = cut-le 𝓢 q (omega arith) l.low
  upper-cut F l (suc (suc part)) hp = absurd (omega arith)

  -- and with a lower lead
  pub lower-cut : {s j D : ℕ} (F : Parts) → LeadsLower s j D F → (part : ℕ) → part ≤ lower → Cut 𝓢 q (weight q j D) 0 (F part)
  lower-cut F l zero hp = cut-le 𝓢 q (omega arith) l.up
  lower-cut F l (suc zero) hp = l.low
  lower-cut F l (suc (suc part)) hp = absurd (omega arith)

  -- a polynomial whose upper lead fits has nothing past the width
  pub upper-narrow : {s i A : ℕ} (F : Parts) → LeadsUpper s i A F → weight q i A + s < q * width q → Narrow F
  upper-narrow F l fits part j k hp = cut-width 𝓢 q (width q) (upper-cut F l part hp) fits j k

  -- nor has one whose lower lead fits
  pub lower-narrow : {s j D : ℕ} (F : Parts) → LeadsLower s j D F → weight q j D + 1 < q * width q → Narrow F
  lower-narrow F l fits part j k hp = cut-width 𝓢 q (width q) (lower-cut F l part hp) (omega arith) j k
