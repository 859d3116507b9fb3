-- Leading monomials of polynomials U z + L under a weight of z, and what the decoder's step does to them: nothing, an
-- exchange, a cancellation, a substitution of z. The weight of z is s - 1 here, so that s runs down to 0.
use mathlib.Core.Path.{◌≡◌, refl, sym, ap, ap₂, ◌∙◌}
use mathlib.Core.Logic.{◌≢◌}
use mathlib.Core.Bool.{true}
use Prim.Native.Nat.{ℕ, suc, ◌+◌, ◌*◌, ◌<◌}
use native.Mathlib.Omega.{arith}
use Rattle.algebra.specs.Symbols.{Symbols, Laws}
use Rattle.algebra.specs.Weights.{weight, nongap}
use Rattle.algebra.specs.Functions.{Fn, times_x, times_ys, times_monomial}
use Rattle.algebra.proofs.WeightLaws.{weight-x, weight-ys, weight-inj}
use Rattle.algebra.proofs.Partners.{pair-balance}
use Rattle.algebra.proofs.Bounds.{Agree, Cut, plus, plus-at, plus-left, cut-le, cut_at, cut-cong, cut-plus, cut-x, x-at, cut-ys, lead-ys, cut-monomial, lead-monomial, lead-at}

module _ (𝓢 : Symbols) (q : ℕ) where
  open 𝓢 use {𝟘}

  -- the leading monomial of U z + L is z x^A y^i
  pub record LeadUpper (s i A : ℕ) (U L : Fn 𝓢 q) : Type 0 where
    pub top : U i A ≢ 𝟘
    pub up : Cut 𝓢 q (weight q i A) 0 U
    pub low : Cut 𝓢 q (weight q i A + s) 1 L

  -- the leading monomial of U z + L is x^D y^j
  pub record LeadLower (s j D : ℕ) (U L : Fn 𝓢 q) : Type 0 where
    pub top : L j D ≢ 𝟘
    pub low : Cut 𝓢 q (weight q j D) 0 L
    pub up : Cut 𝓢 q (weight q j D) s U

  -- equal functions have the same upper lead
  pub lead_upper-cong : {s i A : ℕ} {U L U' L' : Fn 𝓢 q} → i < q → Agree 𝓢 q U U' → Agree 𝓢 q L L'
      → LeadUpper s i A U L → LeadUpper s i A U' L'
  lead_upper-cong {i = i} {A} hi e_u e_l f = record {
    top = λ z. f.top (e_u i A hi ∙ z);
    up = cut-cong 𝓢 q e_u f.up;
    low = cut-cong 𝓢 q e_l f.low;
  }

  -- and the same lower lead
  pub lead_lower-cong : {s j D : ℕ} {U L U' L' : Fn 𝓢 q} → j < q → Agree 𝓢 q U U' → Agree 𝓢 q L L'
      → LeadLower s j D U L → LeadLower s j D U' L'
  lead_lower-cong {j = j} {D} hj e_u e_l g = record {
    top = λ z. g.top (e_l j D hj ∙ z);
    low = cut-cong 𝓢 q e_l g.low;
    up = cut-cong 𝓢 q e_u g.up;
  }

  -- the weight of z goes down by one: the lead stays if L has no monomial of the weight of z x^A y^i
  pub lead-same : {s i A : ℕ} {U L : Fn 𝓢 q} → LeadUpper (suc s) i A U L
      → ((j k : ℕ) → j < q → weight q j k ≡ weight q i A + s → L j k ≡ 𝟘)
      → LeadUpper s i A U L
  lead-same f h = record { top = f.top; up = f.up; low = cut_at 𝓢 q (cut-le 𝓢 q (omega arith) f.low) h }

  -- a lower lead stays
  pub lead_lower-down : {s j D : ℕ} {U L : Fn 𝓢 q} → LeadLower (suc s) j D U L → LeadLower s j D U L
  lead_lower-down g = record { top = g.top; low = g.low; up = cut-le 𝓢 q (omega arith) g.up }

  -- the monomial of L at the weight of z x^A y^i takes the lead
  pub lead-swap : {s i A j k : ℕ} {U L : Fn 𝓢 q} → LeadUpper (suc s) i A U L → weight q i A + s ≡ weight q j k
      → L j k ≢ 𝟘 → LeadLower s j k U L
  lead-swap f e h = record { top = h; low = cut-le 𝓢 q (omega arith) f.low; up = cut-le 𝓢 q (omega arith) f.up }

module _ {𝓢 : Symbols} {q : ℕ} (𝓛 : Laws 𝓢 q) where
  infixl 65 ◌⊕◌
  infixl 70 ◌⊗◌
  open 𝓢 use {K, 𝟘, ◌⊕◌, ◌⊗◌}

  -- y^b times a polynomial that leads in row 0 leads in row b
  pub lead_upper-ys : {s A : ℕ} {U L : Fn 𝓢 q} (b : ℕ) → b < q → LeadUpper 𝓢 q s 0 A U L
      → LeadUpper 𝓢 q s b A (times_ys 𝓢 q b U) (times_ys 𝓢 q b L)
  lead_upper-ys {A = A} {U} b hb f =
      let w = weight-ys q b A in
      let l = lead-ys 𝓛 b f.up (record { j = 0; i = A; small = omega arith; weighs = refl; coefficient = refl }) in
      record {
        top = λ z. f.top (sym (lead-at 𝓢 q b A hb w l) ∙ z);
        up = cut-le 𝓢 q (omega arith) (cut-ys 𝓛 b f.up);
        low = cut-le 𝓢 q (omega arith) (cut-ys 𝓛 b f.low);
      }

  -- a lower lead does so too
  pub lead_lower-ys : {s D : ℕ} {U L : Fn 𝓢 q} (b : ℕ) → b < q → LeadLower 𝓢 q s 0 D U L
      → LeadLower 𝓢 q s b D (times_ys 𝓢 q b U) (times_ys 𝓢 q b L)
  lead_lower-ys {D = D} {L = L} b hb g =
      let w = weight-ys q b D in
      let l = lead-ys 𝓛 b g.low (record { j = 0; i = D; small = omega arith; weighs = refl; coefficient = refl }) in
      record {
        top = λ z. g.top (sym (lead-at 𝓢 q b D hb w l) ∙ z);
        low = cut-le 𝓢 q (omega arith) (cut-ys 𝓛 b g.low);
        up = cut-le 𝓢 q (omega arith) (cut-ys 𝓛 b g.up);
      }

  -- x^c f + γ x^e g, where γ cancels the two lower coefficients at one place: the two cases of the step in one
  module _ {s i A j D : ℕ} {U L U' L' : Fn 𝓢 q} (hi : i < q) (hj : j < q)
      (f : LeadUpper 𝓢 q (suc s) i A U L) (g : LeadLower 𝓢 q (suc s) j D U' L') (c k e : ℕ)
      (pair : weight q i A + s ≡ weight q j k) (even : c + k ≡ e + D) (γ : K) (kill : L j k ⊕ γ ⊗ L' j D ≡ 𝟘) where
    -- the place of the cancelled coefficients has the weight of the new leading monomial
    weights : weight q i (c + A) + s ≡ weight q j D + q * e
    weights = pair-balance q s i A j k c e D pair even

    -- the lower coefficients cancel
    cancelled : (j' k' : ℕ) → j' < q → weight q j' k' ≡ weight q i (c + A) + s
        → plus 𝓢 q γ (times_x 𝓢 q c L) (times_x 𝓢 q e L') j' k' ≡ 𝟘
    cancelled j' k' h' e' =
        let w : weight q j' k' ≡ weight q j (c + k) = omega (arith, weights, weight-x q j e D, ap (weight q j) even) in
        let same = weight-inj q j' k' j (c + k) h' hj w in
        rw (same.0, same.1)
        (plus-at 𝓢 q γ (times_x 𝓢 q c L) (times_x 𝓢 q e L') j (c + k)
        ∙ ap₂ (λ x y. x ⊕ γ ⊗ y) (x-at 𝓢 q c L j k) (rw even (x-at 𝓢 q e L' j D)) ∙ kill)

    -- the upper one is kept
    kept : plus 𝓢 q γ (times_x 𝓢 q c U) (times_x 𝓢 q e U') i (c + A) ≡ U i A
    kept =
        let none = (cut-x 𝓢 q e g.up).off i (c + A) hi (omega (arith, weights)) in
        plus-left 𝓛 γ (times_x 𝓢 q c U) (times_x 𝓢 q e U') i (c + A) none ∙ x-at 𝓢 q c U i A

    -- the new polynomial leads in row i, c places further
    pub lead-cancel : LeadUpper 𝓢 q s i (c + A) (plus 𝓢 q γ (times_x 𝓢 q c U) (times_x 𝓢 q e U'))
        (plus 𝓢 q γ (times_x 𝓢 q c L) (times_x 𝓢 q e L'))
    lead-cancel =
        let w = weights in
        let wf = weight-x q i c A in
        record {
          top = λ z. f.top (sym kept ∙ z);
          up =
              cut-plus 𝓛 γ (cut-le 𝓢 q (omega arith) (cut-x 𝓢 q c f.up))
              (cut-le 𝓢 q (omega arith) (cut-x 𝓢 q e g.up));
          low =
              cut_at 𝓢 q
              (cut-plus 𝓛 γ (cut-le 𝓢 q (omega arith) (cut-x 𝓢 q c f.low))
              (cut-le 𝓢 q (omega arith) (cut-x 𝓢 q e g.low)))
              cancelled;
        }

  -- z becomes z + w (monomial of s)
  module _ {s i A : ℕ} {U L : Fn 𝓢 q} (t : nongap q s ≡ true) (w : K) (hi : i < q) where
    -- an upper lead stays where it is
    pub substituted-upper : LeadUpper 𝓢 q (suc s) i A U L
        → LeadUpper 𝓢 q (suc s) i A U (plus 𝓢 q w L (times_monomial 𝓢 q s U))
    substituted-upper f = record {
      top = f.top;
      up = f.up;
      low = cut-plus 𝓛 w f.low (cut-le 𝓢 q (omega arith) (cut-monomial 𝓛 s t f.up));
    }

    -- a lower lead stays where it is
    pub substituted-lower : LeadLower 𝓢 q (suc s) i A U L
        → LeadLower 𝓢 q (suc s) i A U (plus 𝓢 q w L (times_monomial 𝓢 q s U))
    substituted-lower g =
        let none = (cut-monomial 𝓛 s t g.up).off i A hi (omega arith) in
        record {
          top = λ z. g.top (sym (plus-left 𝓛 w L (times_monomial 𝓢 q s U) i A none) ∙ z);
          low = cut-plus 𝓛 w g.low (cut-le 𝓢 q (omega arith) (cut-monomial 𝓛 s t g.up));
          up = g.up;
        }

    -- the coefficient that is looked at
    pub substituted-at : (j k : ℕ) → j < q → weight q i A + s ≡ weight q j k → LeadUpper 𝓢 q (suc s) i A U L
        → plus 𝓢 q w L (times_monomial 𝓢 q s U) j k ≡ L j k ⊕ w ⊗ U i A
    substituted-at j k hj e f =
        let m = lead-monomial 𝓛 s t f.up (record { j = i; i = A; small = hi; weighs = refl; coefficient = refl }) in
        plus-at 𝓢 q w L (times_monomial 𝓢 q s U) j k ∙ ap (λ x. L j k ⊕ w ⊗ x) (lead-at 𝓢 q j k hj (sym e) m)
