-- The substitution: z becomes z + w times the monomial of s in all 2q polynomials. It keeps the leads, their degrees and the
-- leading coefficients, and moves the zeros from z = r to r less w times the monomial's value.
use mathlib.Core.Path.{◌≡◌, refl, sym, ap, ◌∙◌}
use mathlib.Core.Logic.{◌⊎◌, ⊎_elim}
use mathlib.Core.Bool.{true, false}
use mathlib.Core.List.{[]}
use Prim.Native.Nat.{ℕ, zero, suc, ◌+◌, ◌*◌, ◌≤◌, ◌<◌}
use native.Mathlib.Omega.{arith}
use lib.Dec.{eqb}
use borrow.Author.Tests.{eqb-true}
use lib.ListN.{get_or}
use Rattle.algebra.specs.Symbols.{Symbols, Laws}
use Rattle.algebra.specs.Weights.{weight, nongap}
use Rattle.algebra.specs.Functions.{Fn, times_monomial, monomial_at}
use Rattle.algebra.proofs.Ring.{ring, units, zero-of-number}
use Rattle.algebra.proofs.Powers.{two-le-q}
use Rattle.algebra.proofs.Bounds.{plus, plus-at, plus-left, cut-monomial}
use Rattle.algebra.proofs.OnCurve.{OnCurve}
use Rattle.algebra.proofs.Leads.{lead_upper-cong, lead_lower-cong, substituted-upper, substituted-lower, substituted-at}
use Rattle.algebra.proofs.Vanishing.{vanishes-cong, vanishes-substituted}
use Rattle.published.specs.Start.{Polynomials, width, upper, lower, f, g, coefficient, polynomials}
use Rattle.published.specs.Pairing.{degree_f, degree_g, lead_f, lead_g}
use Rattle.published.specs.Steps.{substituted_part, substituted}
use Rattle.published.proofs.Tests.{decided}
use Rattle.published.proofs.Widths.{degree-fits}
use Rattle.published.proofs.Parts.{SameParts, Narrow, LeadsUpper, LeadsLower, ZeroAt, same-upper, same-lower, same-zero, upper-narrow, lower-narrow}
use Rattle.published.proofs.Reading.{each-polynomial, coefficient-made, made_all}
use Rattle.published.proofs.InPlace.{InPlace}

module _ (𝓢 : Symbols) (q : ℕ) where
  open 𝓢 use {K, 𝟘}

  -- nothing is substituted, or s has a monomial
  abbrev pub Substitutable : ℕ → K → Type 0
  Substitutable s w = (w ≡ 𝟘) ⊎ (nongap q s ≡ true)

module _ {𝓢 : Symbols} {q : ℕ} (𝓛 : Laws 𝓢 q) (s : ℕ) (w : 𝓢.K) (S : Polynomials 𝓢 q) where
  infixl 65 ◌⊕◌ ◌⊖◌
  infixl 70 ◌⊗◌
  open 𝓢 use {K, 𝟘, ◌⊕◌, ◌⊖◌, ◌⊗◌, number}

  -- the polynomials after the substitution
  abbrev S' : Polynomials 𝓢 q
  S' = substituted 𝓢 q s w S

  -- the lower part of polynomial p after the substitution
  abbrev L : ℕ → Fn 𝓢 q
  L p = plus 𝓢 q w (coefficient 𝓢 q S p lower) (times_monomial 𝓢 q s (coefficient 𝓢 q S p upper))

  -- the rule's upper part is the old one
  rule-upper : (p j k : ℕ) → coefficient 𝓢 q S p upper j k ≡ substituted_part 𝓢 q s w S p upper j k
  unfolding substituted_part
  rule-upper p j k = refl

  -- its lower part is that sum
  rule-lower : (p j k : ℕ) → L p j k ≡ substituted_part 𝓢 q s w S p lower j k
  unfolding substituted_part plus
  rule-lower p j k = refl

  -- for w = 0 the lower part does not change
  unchanged : w ≡ 𝟘 → (p j k : ℕ) → coefficient 𝓢 q S p lower j k ≡ L p j k
  unchanged e p j k =
      let U = times_monomial 𝓢 q s (coefficient 𝓢 q S p upper) in
      sym (plus-at 𝓢 q w (coefficient 𝓢 q S p lower) U j k ∙ simp (e, units, 𝓛))

  -- nor does the whole polynomial
  unchanged-parts : w ≡ 𝟘 → (p part j k : ℕ) → part ≤ lower
      → coefficient 𝓢 q S p part j k ≡ substituted_part 𝓢 q s w S p part j k
  unchanged-parts e p zero j k hp = rule-upper p j k
  unchanged-parts e p (suc zero) j k hp = unchanged e p j k ∙ rule-lower p j k
  unchanged-parts e p (suc (suc part)) j k hp = absurd (omega arith)

  -- with w = 0 nothing is replaced
  substituted-none : eqb (number w) 0 ≡ true → S' ≡ S
  unfolding substituted
  substituted-none t = rw (t, substituted)

  -- with any other w the rule goes through all polynomials
  substituted-all : eqb (number w) 0 ≡ false → S' ≡ polynomials 𝓢 q (substituted_part 𝓢 q s w S)
  unfolding substituted
  substituted-all t = rw (t, substituted)

  -- the rule's polynomials are held whole, if it gives nothing past the width
  rule-held : (p : ℕ) → p < 2 * q → Narrow 𝓢 q (substituted_part 𝓢 q s w S p)
      → SameParts 𝓢 q (substituted_part 𝓢 q s w S p) (coefficient 𝓢 q S' p)
  rule-held p hp past = record {
    at = λ part j k ht hj. decided (eqb (number w) 0) (same part j k ht) (λ t. sym (made t part j k ht hj));
  }
    where
      same : (part j k : ℕ) → part ≤ lower → eqb (number w) 0 ≡ true
          → substituted_part 𝓢 q s w S p part j k ≡ coefficient 𝓢 q S' p part j k
      same part j k ht t =
          sym (unchanged-parts (zero-of-number 𝓛 w (eqb-true (number w) 0 t)) p part j k ht)
          ∙ ap (λ (T : Polynomials 𝓢 q). coefficient 𝓢 q T p part j k) (sym (substituted-none t))

      made : eqb (number w) 0 ≡ false → (part j k : ℕ) → part ≤ lower → j < q
          → coefficient 𝓢 q S' p part j k ≡ substituted_part 𝓢 q s w S p part j k
      made t =
          coefficient-made 𝓢 q S' p (substituted_part 𝓢 q s w S p)
          (ap (λ (T : Polynomials 𝓢 q). get_or T p []) (substituted-all t) ∙ made_all 𝓢 q (substituted_part 𝓢 q s w S) p hp) past

  -- w is zero or s has a monomial, and every lead stands in its place
  module _ (can : Substitutable 𝓢 q s w) (led : InPlace 𝓢 q (suc s) S) where
    -- the degrees before it
    abbrev A : ℕ → ℕ
    A i = degree_f 𝓢 q S i

    abbrev D : ℕ → ℕ
    D j = degree_g 𝓢 q S j

    -- the lead of f_i by the rule
    rule-f : (i : ℕ) → i < q → LeadsUpper 𝓢 q (suc s) i (A i) (substituted_part 𝓢 q s w S (f q i))
    rule-f i hi =
        lead_upper-cong 𝓢 q hi (λ j k hj. rule-upper (f q i) j k) (λ j k hj. rule-lower (f q i) j k) (⊎_elim
        (λ (e : w ≡ 𝟘). lead_upper-cong 𝓢 q hi (λ j k hj. refl) (λ j k hj. unchanged e (f q i) j k) (led.lead_f i hi))
        (λ (t : nongap q s ≡ true). substituted-upper 𝓛 t w hi (led.lead_f i hi)) can)

    -- the lead of g_j by the rule
    rule-g : (j : ℕ) → j < q → LeadsLower 𝓢 q (suc s) j (D j) (substituted_part 𝓢 q s w S (g q j))
    rule-g j hj =
        lead_lower-cong 𝓢 q hj (λ b k hb. rule-upper (g q j) b k) (λ b k hb. rule-lower (g q j) b k) (⊎_elim
        (λ (e : w ≡ 𝟘). lead_lower-cong 𝓢 q hj (λ b k hb. refl) (λ b k hb. unchanged e (g q j) b k) (led.lead_g j hj))
        (λ (t : nongap q s ≡ true). substituted-lower 𝓛 t w hj (led.lead_g j hj)) can)

    -- the lead of g_j fits
    fit-g : (j : ℕ) → j < q → weight q j (D j) + 1 < q * width q
    fit-g j hj = degree-fits q (two-le-q 𝓛) j (D j) hj (led.fit_g j hj)

    -- so the rule gives nothing past the width
    pub substitution-narrow : (p : ℕ) → p < 2 * q → Narrow 𝓢 q (substituted_part 𝓢 q s w S p)
    substitution-narrow =
        each-polynomial q (λ p. Narrow 𝓢 q (substituted_part 𝓢 q s w S p))
        (λ j hj. lower-narrow 𝓢 q (substituted_part 𝓢 q s w S (g q j)) (rule-g j hj) (fit-g j hj))
        (λ i hi. upper-narrow 𝓢 q (substituted_part 𝓢 q s w S (f q i)) (rule-f i hi) (led.fit_f i hi))

    -- and is held whole
    held : (p : ℕ) → p < 2 * q → SameParts 𝓢 q (substituted_part 𝓢 q s w S p) (coefficient 𝓢 q S' p)
    held p hp = rule-held p hp (substitution-narrow p hp)

    -- so the lower part that is held is that sum
    held-lower : (p j k : ℕ) → p < 2 * q → j < q → coefficient 𝓢 q S' p lower j k ≡ L p j k
    held-lower p j k hp hj = sym (rule-lower p j k ∙ (held p hp).at lower j k (omega arith) hj)

    -- the lead of f_i stays in its place
    pub substituted-f : (i : ℕ) → i < q → LeadsUpper 𝓢 q (suc s) i (A i) (coefficient 𝓢 q S' (f q i))
    substituted-f i hi = same-upper 𝓢 q hi (held (f q i) (omega arith)) (rule-f i hi)

    -- so does that of g_j
    pub substituted-g : (j : ℕ) → j < q → LeadsLower 𝓢 q (suc s) j (D j) (coefficient 𝓢 q S' (g q j))
    substituted-g j hj = same-lower 𝓢 q hj (held (g q j) (omega arith)) (rule-g j hj)

    -- the coefficient that is looked at becomes b + w μ, with μ the leading coefficient of f_i
    pub substituted-looked : (i j k : ℕ) → i < q → j < q → weight q i (A i) + s ≡ weight q j k
        → coefficient 𝓢 q S' (f q i) lower j k ≡ coefficient 𝓢 q S (f q i) lower j k ⊕ w ⊗ lead_f 𝓢 q S i
    unfolding lead_f
    substituted-looked i j k hi hj e = held-lower (f q i) j k (omega arith) hj ∙ ⊎_elim
        (λ (z : w ≡ 𝟘). sym (unchanged z (f q i) j k) ∙ simp (z, units, 𝓛))
        (λ (t : nongap q s ≡ true). substituted-at 𝓛 t w hi j k hj e (led.lead_f i hi)) can

    -- the coefficient at the lead of g_j stays
    pub substituted-top : (j : ℕ) → j < q → coefficient 𝓢 q S' (g q j) lower j (D j) ≡ lead_g 𝓢 q S j
    unfolding lead_g
    substituted-top j hj = held-lower (g q j) j (D j) (omega arith) hj ∙ ⊎_elim
        (λ (z : w ≡ 𝟘). sym (unchanged z (g q j) j (D j)))
        (λ (t : nongap q s ≡ true).
        let none = (cut-monomial 𝓛 s t (led.lead_g j hj).up).off j (D j) hj (omega arith) in
        plus-left 𝓛 w (coefficient 𝓢 q S (g q j) lower) (times_monomial 𝓢 q s (coefficient 𝓢 q S (g q j) upper)) j (D j) none)
        can

    -- what was zero at z = r is zero at r less w times the monomial's value
    pub substituted-zero : (x y r : K) (p : ℕ) → OnCurve 𝓢 q x y → p < 2 * q → ZeroAt 𝓢 q x y r (coefficient 𝓢 q S p)
        → ZeroAt 𝓢 q x y (r ⊖ w ⊗ monomial_at 𝓢 q s x y) (coefficient 𝓢 q S' p)
    substituted-zero x y r p curve hp v =
        same-zero 𝓢 q (held p hp) (vanishes-cong 𝓢 q (λ j k hj. rule-upper p j k) (λ j k hj. rule-lower p j k) (⊎_elim
        (λ (z : w ≡ 𝟘).
        let e : r ⊖ w ⊗ monomial_at 𝓢 q s x y ≡ r = rw z (simp (ring, 𝓛)) in
        rw e (vanishes-cong 𝓢 q (λ j k hj. refl) (λ j k hj. unchanged z p j k) v))
        (λ (t : nongap q s ≡ true). vanishes-substituted 𝓛 v curve s t w) can))
