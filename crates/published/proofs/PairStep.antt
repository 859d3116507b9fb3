-- What a step makes of one pair of polynomials, as far as the theory of leading monomials needs it: it leaves the pair, or it
-- exchanges, or it reduces. What each case does to the leading monomials, to their degrees and to the zeros.
use mathlib.Core.Path.{◌≡◌, refl, ap}
use mathlib.Core.Logic.{◌≢◌}
use Prim.Native.Nat.{ℕ, suc, ◌+◌, ◌≤◌, ◌<◌}
use native.Mathlib.Nat as Nat
use native.Mathlib.Omega.{arith}
use Rattle.algebra.specs.Symbols.{Symbols, Laws}
use Rattle.algebra.specs.Weights.{weight}
use Rattle.algebra.specs.Functions.{times_x}
use Rattle.algebra.proofs.WeightLaws.{weight-x}
use Rattle.algebra.proofs.Bounds.{plus}
use Rattle.algebra.proofs.Leads.{lead-same, lead_lower-down, lead-swap, lead-cancel}
use Rattle.algebra.proofs.Vanishing.{vanishes-plus, vanishes-x}
use Rattle.published.specs.Start.{lower}
use Rattle.published.proofs.Parts.{Parts, SameParts, LeadsUpper, LeadsLower, ZeroAt, same-upper, same-lower, same-zero}

module _ (𝓢 : Symbols) (q : ℕ) where
  infixl 65 ◌⊕◌
  infixl 70 ◌⊗◌
  open 𝓢 use {K, 𝟘, ◌⊕◌, ◌⊗◌}

  -- x^c F + γ x^e G
  unfoldable pub combined : ℕ → ℕ → K → Parts 𝓢 q → Parts 𝓢 q → Parts 𝓢 q
  combined c e γ F G part = plus 𝓢 q γ (times_x 𝓢 q c (F part)) (times_x 𝓢 q e (G part))

  -- F and G, with leads z x^A y^i and x^D y^j, become F' and G', with degrees A' and D'. At the weight of the lead of F there
  -- stands, in its lower part: nothing; or x^k y^j with k = D - c; or x^k y^j with k = e + D
  pub data PairStep (s i j A D : ℕ) (F G : Parts 𝓢 q) : ℕ → ℕ → Parts 𝓢 q → Parts 𝓢 q → Type 0 where
    kept : {F' G' : Parts 𝓢 q} → ((b k : ℕ) → b < q → weight q b k ≡ weight q i A + s → F lower b k ≡ 𝟘)
        → SameParts 𝓢 q F F' → SameParts 𝓢 q G G' → PairStep s i j A D F G A D F' G'
    raised : {F' G' : Parts 𝓢 q} (c k : ℕ) (γ : K) → weight q i A + s ≡ weight q j k → c + k ≡ D
        → F lower j k ≢ 𝟘 → F lower j k ⊕ γ ⊗ G lower j D ≡ 𝟘
        → SameParts 𝓢 q (combined c 0 γ F G) F' → SameParts 𝓢 q F G' → PairStep s i j A D F G (c + A) k F' G'
    reduced : {F' G' : Parts 𝓢 q} (e k : ℕ) (γ : K) → weight q i A + s ≡ weight q j k → k ≡ e + D
        → F lower j k ⊕ γ ⊗ G lower j D ≡ 𝟘
        → SameParts 𝓢 q (combined 0 e γ F G) F' → SameParts 𝓢 q G G' → PairStep s i j A D F G A D F' G'

  -- A + D does not change
  pub pair-sum : {s i j A D A' D' : ℕ} {F G F' G' : Parts 𝓢 q} → PairStep s i j A D F G A' D' F' G' → A' + D' ≡ A + D
  pair-sum (kept none F= G=) = refl
  pair-sum (raised c k γ w e nz kill F= G=) = omega arith
  pair-sum (reduced e k γ w h kill F= G=) = refl

  -- D never rises
  pub pair-falls : {s i j A D A' D' : ℕ} {F G F' G' : Parts 𝓢 q} → PairStep s i j A D F G A' D' F' G' → D' ≤ D
  pair-falls (kept none F= G=) = omega arith
  pair-falls (raised c k γ w e nz kill F= G=) = omega arith
  pair-falls (reduced e k γ w h kill F= G=) = omega arith

  -- a bound of the weights of both leads that no step raises
  pub pair_fits : {s i j A D A' D' : ℕ} {F G F' G' : Parts 𝓢 q} (v : ℕ) → weight q i A + suc s < v → weight q j D < v
      → PairStep s i j A D F G A' D' F' G' → weight q i A' + s < v
  pair_fits v h_a h_d (kept none F= G=) = omega arith
  pair_fits {i = i} {j} {A} v h_a h_d (raised c k γ w e nz kill F= G=) =
      omega (arith, weight-x q i c A, weight-x q j c k, ap (weight q j) e)
  pair_fits v h_a h_d (reduced e k γ w h kill F= G=) = omega arith

module _ {𝓢 : Symbols} {q : ℕ} (𝓛 : Laws 𝓢 q) where
  open 𝓢 use {K}

  module _ {s i j A D : ℕ} {F G : Parts 𝓢 q} (hi : i < q) (hj : j < q)
      (f : LeadsUpper 𝓢 q (suc s) i A F) (g : LeadsLower 𝓢 q (suc s) j D G) where
    -- the lead of the new F stands in its place, under a weight of z that is one less
    pub pair-upper : {A' D' : ℕ} {F' G' : Parts 𝓢 q} → PairStep 𝓢 q s i j A D F G A' D' F' G' → LeadsUpper 𝓢 q s i A' F'
    unfolding combined
    pair-upper (kept none F= G=) = same-upper 𝓢 q hi F= (lead-same 𝓢 q f none)
    pair-upper (raised c k γ w e nz kill F= G=) =
        same-upper 𝓢 q hi F= (lead-cancel 𝓛 hi hj f g c k 0 w (omega arith) γ kill)
    pair-upper (reduced e k γ w h kill F= G=) =
        same-upper 𝓢 q hi F= (rw (Nat.zero-add A) at (lead-cancel 𝓛 hi hj f g 0 k e w (omega arith) γ kill))

    -- so does that of the new G
    pub pair-lower : {A' D' : ℕ} {F' G' : Parts 𝓢 q} → PairStep 𝓢 q s i j A D F G A' D' F' G' → LeadsLower 𝓢 q s j D' G'
    pair-lower (kept none F= G=) = same-lower 𝓢 q hj G= (lead_lower-down 𝓢 q g)
    pair-lower (raised c k γ w e nz kill F= G=) = same-lower 𝓢 q hj G= (lead-swap 𝓢 q f w nz)
    pair-lower (reduced e k γ w h kill F= G=) = same-lower 𝓢 q hj G= (lead_lower-down 𝓢 q g)

  module _ {x y r : K} (F G : Parts 𝓢 q) (f : ZeroAt 𝓢 q x y r F) (g : ZeroAt 𝓢 q x y r G) where
    -- a sum of multiples is zero where both are
    combined-zero : (c e : ℕ) (γ : K) → ZeroAt 𝓢 q x y r (combined 𝓢 q c e γ F G)
    unfolding combined
    combined-zero c e γ = vanishes-plus 𝓛 (vanishes-x 𝓛 f c) γ (vanishes-x 𝓛 g e)

    -- so the new F is
    pub pair-zero-f : {s i j A D A' D' : ℕ} {F' G' : Parts 𝓢 q} → PairStep 𝓢 q s i j A D F G A' D' F' G' → ZeroAt 𝓢 q x y r F'
    pair-zero-f (kept none F= G=) = same-zero 𝓢 q F= f
    pair-zero-f (raised c k γ w e nz kill F= G=) = same-zero 𝓢 q F= (combined-zero c 0 γ)
    pair-zero-f (reduced e k γ w h kill F= G=) = same-zero 𝓢 q F= (combined-zero 0 e γ)

    -- and the new G
    pub pair-zero-g : {s i j A D A' D' : ℕ} {F' G' : Parts 𝓢 q} → PairStep 𝓢 q s i j A D F G A' D' F' G' → ZeroAt 𝓢 q x y r G'
    pair-zero-g (kept none F= G=) = same-zero 𝓢 q G= g
    pair-zero-g (raised c k γ w e nz kill F= G=) = same-zero 𝓢 q G= f
    pair-zero-g (reduced e k γ w h kill F= G=) = same-zero 𝓢 q G= g
