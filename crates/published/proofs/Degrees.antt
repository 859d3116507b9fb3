-- The degrees that the steps read are those of the leading monomials.
use mathlib.Core.Path.{◌≡◌, ap, ◌∙◌}
use mathlib.Core.Logic.{◌≢◌}
use Prim.Native.Nat.{ℕ, zero, suc, ◌*◌, ◌<◌}
use native.Mathlib.Omega.{arith}
use native.Mathlib.Decide.{ℕ_discrete}
use borrow.Author.Tests.{eq-eqb, ne_eqb}
use Rattle.algebra.specs.Symbols.{Symbols, Laws}
use Rattle.algebra.specs.Weights.{weight}
use Rattle.algebra.proofs.Ring.{zero-of-number}
use Rattle.algebra.proofs.WeightLaws.{weight-strict, weight-fits}
use Rattle.algebra.proofs.Bounds.{Cut}
use Rattle.published.specs.Start.{Polynomials, width, upper, lower, f, g, coefficient}
use Rattle.published.specs.Pairing.{degree, degree_of, degree_f, degree_g}
use Rattle.published.proofs.Parts.{LeadsUpper, LeadsLower}

-- a zero at the end does not count
degree-zero : (a : ℕ → ℕ) (n : ℕ) → a n ≡ 0 → degree a (suc n) ≡ degree a n
unfolding degree
degree-zero a n e = rw (eq-eqb (a n) 0 e, degree)

-- anything else does
degree-top : (a : ℕ → ℕ) (n : ℕ) → a n ≢ 0 → degree a (suc n) ≡ n
unfolding degree
degree-top a n ne = rw (ne_eqb (a n) 0 ne, degree)

-- the degree is the place of the last number that is not zero
degree-is : (a : ℕ → ℕ) (n d : ℕ) → d < n → a d ≢ 0 → ((i : ℕ) → d < i → i < n → a i ≡ 0) → degree a n ≡ d
degree-is a zero d h top above = absurd (omega arith)
degree-is a (suc n) d h top above = elim (ℕ_discrete d n) [
  | yes e ↦ rw e (degree-top a n (rw e at top))
  | no ne ↦
      degree-zero a n (above n (omega arith) (omega arith))
      ∙ degree-is a n d (omega arith) top (λ i l hi. above i l (omega arith))
]

module _ {𝓢 : Symbols} {q : ℕ} (𝓛 : Laws 𝓢 q) (S : Polynomials 𝓢 q) where
  open 𝓢 use {𝟘, number}

  -- the degree of a row whose heaviest coefficient is that of x^d
  row-degree : (p part j d : ℕ) → j < q → coefficient 𝓢 q S p part j d ≢ 𝟘
      → Cut 𝓢 q (weight q j d) 0 (coefficient 𝓢 q S p part) → weight q j d < q * width q → degree_of 𝓢 q S p part j ≡ d
  unfolding degree_of
  row-degree p part j d hj top cut fits =
      degree-is (λ i. number (coefficient 𝓢 q S p part j i)) (width q) d (weight-fits q j d (width q) fits)
      (λ e. top (zero-of-number 𝓛 (coefficient 𝓢 q S p part j d) e))
      (λ i l hi.
      let heavier = weight-strict q j {i = d} {i' = i} (omega arith) l in
      ap number (cut.off j i hj (omega arith)) ∙ 𝓛.number-zero)

  -- A is the degree of the leading monomial of f_i
  pub degree_f-is : {s A : ℕ} (i : ℕ) → i < q → LeadsUpper 𝓢 q s i A (coefficient 𝓢 q S (f q i)) → weight q i A < q * width q
      → degree_f 𝓢 q S i ≡ A
  unfolding degree_f
  degree_f-is {A = A} i hi l fits = row-degree (f q i) upper i A hi l.top l.up fits

  -- D is the degree of the leading monomial of g_j
  pub degree_g-is : {s D : ℕ} (j : ℕ) → j < q → LeadsLower 𝓢 q s j D (coefficient 𝓢 q S (g q j)) → weight q j D < q * width q
      → degree_g 𝓢 q S j ≡ D
  unfolding degree_g
  degree_g-is {D = D} j hj l fits = row-degree (g q j) lower j D hj l.top l.low fits
