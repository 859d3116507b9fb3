-- Of all members, f_i has the least power of x that leads in row i of the upper part, and g_i' in row i' of the lower part.
-- What a step makes of a pair keeps that, under the weight of z that is one less.
-- Assumes nothing.
use mathlib.Core.Path.{◌≡◌, sym, ap, ap₂, subst, ◌∙◌}
use mathlib.Core.Logic.{◌≢◌, ◌⊎◌, inl, inr}
use mathlib.Core.Bool.{true}
use Prim.Native.Nat.{ℕ, suc, ◌+◌, ◌*◌, ◌-◌, ◌%◌, ◌≤◌, ◌<◌}
use native.Mathlib.Nat as Nat
use native.Mathlib.Omega.{arith}
use native.Mathlib.Decide.{dec_le, ℕ_discrete}
use Rattle.algebra.specs.Symbols.{Symbols, Laws}
use Rattle.algebra.specs.Weights.{weight, nongap}
use Rattle.algebra.specs.Functions.{Fn, times_x, times_monomial}
use Rattle.algebra.proofs.Ring.{ring, linear, decide, zero-factor, zero-add, divide-back}
use Rattle.algebra.proofs.WeightLaws.{weight-x, weight-inj, weight-rows}
use Rattle.algebra.proofs.Partners.{Paired, pair-weight, pair_place}
use Rattle.algebra.proofs.Bounds.{Cut, plus, plus-at, plus-left, cut-le, cut_at, cut-plus, cut-x, x-at}
use Rattle.algebra.proofs.Leads.{LeadUpper, LeadLower, lead-same, substituted-upper, substituted-lower}
use Rattle.published.specs.Start.{upper, lower}
use Rattle.published.proofs.Parts.{Parts, LeadsUpper, LeadsLower}
use Rattle.published.proofs.PairStep.{PairStep, kept, raised, reduced, pair-upper}
use Rattle.withinreach.proofs.Members.{Member, member-plus, member-x}

-- only row i has monomials that weigh s less than one of row j
pub upper-row : (q : ℕ) {s i j : ℕ} (P : Paired q s i j) (i' a k : ℕ) → i' < q → weight q i' a + s ≡ weight q j k → i' ≡ i
upper-row q {s} {i} {j} P i' a k h e =
    let rows : q * (P.t + a + i') + i' ≡ q * (k + j) + i = omega (arith, P.rows, weight-rows q i' a, weight-rows q j k) in
    sym (Nat.mod-eq_of_lt h) ∙ sym (Nat.mul-add-mod_self_left q (P.t + a + i') i') ∙ ap (λ n. n % q) rows
    ∙ Nat.mul-add-mod_self_left q (k + j) i ∙ Nat.mod-eq_of_lt P.small

module _ (𝓢 : Symbols) (q : ℕ) where
  open 𝓢 use {K}

  -- no member leads with a power of x below A in row i of the upper part, or below D in row j of the lower part
  pub record Least (r : ℕ → K) (s i j A D : ℕ) : Type 0 where
    pub up : (d : ℕ) {U L : Fn 𝓢 q} → Member 𝓢 q r U L → LeadUpper 𝓢 q s i d U L → A ≤ d
    pub low : (d : ℕ) {U L : Fn 𝓢 q} → Member 𝓢 q r U L → LeadLower 𝓢 q s j d U L → D ≤ d

  -- an upper lead is one under a weight of z that is one more
  lead_upper-up : {s i A : ℕ} {U L : Fn 𝓢 q} → LeadUpper 𝓢 q s i A U L → LeadUpper 𝓢 q (suc s) i A U L
  lead_upper-up f = record { top = f.top; up = f.up; low = cut-le 𝓢 q (omega arith) f.low }

  -- a lower lead that was an upper one before
  record WasUpper (s i j d : ℕ) (U L : Fn 𝓢 q) : Type 0 where
    a : ℕ
    weighs : weight q i a + s ≡ weight q j d
    lead : LeadUpper 𝓢 q (suc s) i a U L

module _ {𝓢 : Symbols} {q : ℕ} (𝓛 : Laws 𝓢 q) where
  infixl 65 ◌⊕◌
  infixl 70 ◌⊗◌
  open 𝓢 use {K, 𝟘, ◌⊕◌, minus, ◌⊗◌, inverse}

  -- a lower lead was a lower lead, or an upper one
  before : {s i j d : ℕ} {U L : Fn 𝓢 q} → Paired q s i j → LeadLower 𝓢 q s j d U L
      → LeadLower 𝓢 q (suc s) j d U L ⊎ WasUpper 𝓢 q s i j d U L
  before {s} {i} {j} {d} {U} {L} P g = elim (dec_le (i + P.t) (d + j)) [
    | yes l ↦ go (d + j - (i + P.t)) (pair-weight q P (d + j - (i + P.t)) d (omega arith))
    | no l ↦ inl (still (λ j' k h e.
        let row = upper-row q P j' k d h e in
        absurd (omega (arith, pair_place q P k d (rw row at e)))))
  ]
    where
      still : ((j' k : ℕ) → j' < q → weight q j' k + s ≡ weight q j d → U j' k ≡ 𝟘) → LeadLower 𝓢 q (suc s) j d U L
      still none = record {
        top = g.top;
        low = g.low;
        up = record {
          off = λ j' k h l. elim (ℕ_discrete (weight q j' k + s) (weight q j d)) [
            | yes e ↦ none j' k h e
            | no ne ↦ g.up.off j' k h (omega arith)
          ];
        };
      }

      go : (a : ℕ) → weight q i a + s ≡ weight q j d → LeadLower 𝓢 q (suc s) j d U L ⊎ WasUpper 𝓢 q s i j d U L
      go a e = elim (decide 𝓛 (U i a) 𝟘) [
        | yes z ↦ inl (still (λ j' k h e'.
            let same = weight-inj q j' k i a h P.small (omega arith) in
            ap₂ U same.0 same.1 ∙ z))
        | no nz ↦ inr (record {
          a = a;
          weighs = e;
          lead = record { top = nz; up = cut-le 𝓢 q (omega arith) g.up; low = cut-le 𝓢 q (omega arith) g.low };
        })
      ]

  -- the factor with which v cancels u
  pub factor : K → K → K
  factor u v = minus (u ⊗ inverse v)

  -- it does so
  pub factor-cancels : (u v : K) → v ≢ 𝟘 → u ⊕ factor u v ⊗ v ≡ 𝟘
  unfolding factor
  factor-cancels u v h = linear 𝓛 (sym (divide-back 𝓛 u v h)) (simp (ring, 𝓛))

  -- and is zero only if u is
  factor-ne : (u v : K) → u ≢ 𝟘 → v ≢ 𝟘 → factor u v ≢ 𝟘
  factor-ne u v hu hv z = hu (linear 𝓛 (factor-cancels u v hv) (simp (z, ring, 𝓛)))

  -- T + γ x^m U has nothing at the weight of x^(m + A) y^i and above, if γ cancels there
  module _ {i A : ℕ} (hi : i < q) {U T : Fn 𝓢 q} (m : ℕ) (h_u : Cut 𝓢 q (weight q i A) 0 U)
      (h_t : Cut 𝓢 q (weight q i (m + A)) 0 T) (γ : K) (kill : T i (m + A) ⊕ γ ⊗ U i A ≡ 𝟘) where
    cancelled : Cut 𝓢 q (weight q i (m + A)) 1 (plus 𝓢 q γ T (times_x 𝓢 q m U))
    cancelled =
        let w = weight-x q i m A in
        cut_at 𝓢 q (cut-plus 𝓛 γ h_t (cut-le 𝓢 q (omega arith) (cut-x 𝓢 q m h_u))) (λ j k h e.
        let same = weight-inj q j k i (m + A) h hi e in
        rw (same.0, same.1)
        (plus-at 𝓢 q γ T (times_x 𝓢 q m U) i (m + A) ∙ ap (λ x. T i (m + A) ⊕ γ ⊗ x) (x-at 𝓢 q m U i A) ∙ kill))

  module _ {r : ℕ → K} {s i j A D : ℕ} (P : Paired q s i j) (least : Least 𝓢 q r (suc s) i j A D)
      {U L : Fn 𝓢 q} (mf : Member 𝓢 q r U L) where
    -- a member leads in row i with x^A under the lesser weight of z too: both degrees stay the least
    module _ (f : LeadUpper 𝓢 q s i A U L) where
      reduced-lower : (d : ℕ) {U' L' : Fn 𝓢 q} → LeadLower 𝓢 q s j d U' L' → (m : ℕ) → weight q i (m + A) + s ≡ weight q j d
          → LeadUpper 𝓢 q (suc s) i (m + A) U' L'
          → LeadLower 𝓢 q (suc s) j d (plus 𝓢 q (factor (U' i (m + A)) (U i A)) U' (times_x 𝓢 q m U))
          (plus 𝓢 q (factor (U' i (m + A)) (U i A)) L' (times_x 𝓢 q m L))
      reduced-lower d {U'} {L'} g m e φ =
          let γ = factor (U' i (m + A)) (U i A) in
          let w = weight-x q i m A in
          let none = (cut-x 𝓢 q m f.low).off j d P.small' (omega arith) in
          record {
            top = λ z. g.top (sym (plus-left 𝓛 γ L' (times_x 𝓢 q m L) j d none) ∙ z);
            low = cut-plus 𝓛 γ g.low (cut-le 𝓢 q (omega arith) (cut-x 𝓢 q m f.low));
            up = cut-le 𝓢 q (omega arith)
                (cancelled P.small m f.up φ.up γ (factor-cancels (U' i (m + A)) (U i A) f.top));
          }

      -- so the degrees are the least under it
      pub least-same : Least 𝓢 q r s i j A D
      least-same = record { up = λ d v φ. least.up d v (lead_upper-up 𝓢 q φ); low = λ d v g. go d v g (before P g) }
        where
          go : (d : ℕ) {U' L' : Fn 𝓢 q} → Member 𝓢 q r U' L' → LeadLower 𝓢 q s j d U' L'
              → LeadLower 𝓢 q (suc s) j d U' L' ⊎ WasUpper 𝓢 q s i j d U' L' → D ≤ d
          go d v g (inl h) = least.low d v h
          go d {U'} {L'} v g (inr u) =
              let le = least.up u.a v u.lead in
              let e : u.a ≡ u.a - A + A = omega arith in
              let γ = factor (U' i (u.a - A + A)) (U i A) in
              least.low d (member-plus 𝓛 v γ (member-x 𝓛 mf (u.a - A)))
              (reduced-lower d g (u.a - A) (rw e at u.weighs) (subst (λ n. LeadUpper 𝓢 q (suc s) i n U' L') e u.lead))

    -- a member loses its upper lead z x^A y^i to x^k y^j: k is the least now, and A rises as D falls
    module _ (f : LeadUpper 𝓢 q (suc s) i A U L) (c k : ℕ) (is : D ≡ c + k) (pair : weight q i A + s ≡ weight q j k)
        (nz : L j k ≢ 𝟘) where
      swapped-lower : (m : ℕ) {U' L' : Fn 𝓢 q} → LeadUpper 𝓢 q s i (m + A) U' L'
          → LeadLower 𝓢 q (suc s) j (m + k) (plus 𝓢 q (factor (U' i (m + A)) (U i A)) U' (times_x 𝓢 q m U))
          (plus 𝓢 q (factor (U' i (m + A)) (U i A)) L' (times_x 𝓢 q m L))
      swapped-lower m {U'} {L'} φ =
          let γ = factor (U' i (m + A)) (U i A) in
          let w = weight-x q i m A in
          let w' = weight-x q j m k in
          let none = φ.low.off j (m + k) P.small' (omega arith) in
          let value = ap₂ (λ x y. x ⊕ γ ⊗ y) none (x-at 𝓢 q m L j k) ∙ zero-add 𝓛 (γ ⊗ L j k) in
          let γ-ne = factor-ne (U' i (m + A)) (U i A) φ.top f.top in
          record {
            top = λ z. nz (zero-factor 𝓛 γ (L j k) (sym value ∙ sym (plus-at 𝓢 q γ L' (times_x 𝓢 q m L) j (m + k)) ∙ z) γ-ne);
            low = cut-plus 𝓛 γ (cut-le 𝓢 q (omega arith) φ.low) (cut-le 𝓢 q (omega arith) (cut-x 𝓢 q m f.low));
            up = cut-le 𝓢 q (omega arith)
                (cancelled P.small m f.up φ.up γ (factor-cancels (U' i (m + A)) (U i A) f.top));
          }

      -- so these degrees are the least under the lesser weight
      pub least-swap : Least 𝓢 q r s i j (c + A) k
      least-swap = record { up = up'; low = λ d v g. low' d v (before P g) }
        where
          up' : (d : ℕ) {U' L' : Fn 𝓢 q} → Member 𝓢 q r U' L' → LeadUpper 𝓢 q s i d U' L' → c + A ≤ d
          up' d {U'} {L'} v φ =
              let le = least.up d v (lead_upper-up 𝓢 q φ) in
              let e : d ≡ d - A + A = omega arith in
              let γ = factor (U' i (d - A + A)) (U i A) in
              let h = least.low (d - A + k) (member-plus 𝓛 v γ (member-x 𝓛 mf (d - A)))
              (swapped-lower (d - A) (subst (λ n. LeadUpper 𝓢 q s i n U' L') e φ)) in
              omega arith

          low' : (d : ℕ) {U' L' : Fn 𝓢 q} → Member 𝓢 q r U' L'
              → LeadLower 𝓢 q (suc s) j d U' L' ⊎ WasUpper 𝓢 q s i j d U' L' → k ≤ d
          low' d v (inl h) = omega (arith, least.low d v h)
          low' d v (inr u) =
              let le = least.up u.a v u.lead in
              omega (arith, pair_place q P A k pair, pair_place q P u.a d u.weighs)

  -- substitutions of z move the members, and leave the leads where they are
  pub least-moved : {r r' : ℕ → K} {s i j A D : ℕ} → nongap q s ≡ true → i < q → j < q → (w : K)
      → ((U L : Fn 𝓢 q) → Member 𝓢 q r' U L → Member 𝓢 q r U (plus 𝓢 q w L (times_monomial 𝓢 q s U)))
      → Least 𝓢 q r (suc s) i j A D → Least 𝓢 q r' (suc s) i j A D
  least-moved t hi hj w into least = record {
    up = λ d {U} {L} v φ. least.up d (into U L v) (substituted-upper 𝓛 t w hi φ);
    low = λ d {U} {L} v g. least.low d (into U L v) (substituted-lower 𝓛 t w hj g);
  }

  -- every step of the theory keeps the degrees the least
  pub pair-least : {r : ℕ → K} {s i j A D A' D' : ℕ} {F G F' G' : Parts 𝓢 q} → Paired q s i j
      → LeadsUpper 𝓢 q (suc s) i A F → LeadsLower 𝓢 q (suc s) j D G
      → Member 𝓢 q r (F upper) (F lower) → Member 𝓢 q r (F' upper) (F' lower)
      → PairStep 𝓢 q s i j A D F G A' D' F' G' → Least 𝓢 q r (suc s) i j A D → Least 𝓢 q r s i j A' D'
  pair-least P f g mf mf' (kept none F= G=) least = least-same P least mf (lead-same 𝓢 q f none)
  pair-least P f g mf mf' (raised c k γ w e nz kill F= G=) least = least-swap P least mf f c k (sym e) w nz
  pair-least P f g mf mf' (reduced e k γ w h kill F= G=) least =
      least-same P least mf' (pair-upper 𝓛 P.small P.small' f g (reduced e k γ w h kill F= G=))
