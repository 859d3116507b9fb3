-- Polynomials in x as coefficients with a width: their values, their products by x^c, their sums.
use mathlib.Core.Path.{◌≡◌, refl, sym, ap, ap₂, ◌∙◌, ◌≡⟨◌⟩◌, ◌∎}
use Prim.Native.Nat.{ℕ, suc, ◌+◌, ◌-◌, ◌≤◌, ◌<◌}
use native.Mathlib.Omega.{arith}
use native.Mathlib.Decide.{dec_le}
use borrow.Author.Tests.{lt-ltb, le-ltb}
use Rattle.algebra.specs.Symbols.{Symbols, Laws, power, sum}
use Rattle.algebra.specs.Functions.{shift, value_in}
use Rattle.algebra.proofs.Ring.{ring, sorted*, zero-add, mul-zero, zero-mul, mul-one, add-mul}
use Rattle.algebra.proofs.Powers.{power_zero, power-suc, power-add}
use Rattle.algebra.proofs.Sums.{sum-zero, sum-suc, sum-cong, sum-none, sum-add, sum-sub, mul-sum, sum-split, sum_head, sum-widen}

module _ (𝓢 : Symbols) (q : ℕ) where
  infixl 65 ◌⊕◌
  infixl 70 ◌⊗◌
  open 𝓢 use {K, 𝟘, ◌⊕◌, ◌⊗◌}

  -- x^c a has the coefficients of a, c places on
  pub shift-at : (c : ℕ) (a : ℕ → K) (i : ℕ) → c ≤ i → shift 𝓢 q c a i ≡ a (i - c)
  unfolding shift
  shift-at c a i h = rw (le-ltb i c h, shift)

  -- and zeros below
  pub shift-below : (c : ℕ) (a : ℕ → K) (i : ℕ) → i < c → shift 𝓢 q c a i ≡ 𝟘
  unfolding shift
  shift-below c a i h = rw (lt-ltb i c h, shift)

  -- the coefficient c places on
  pub shift-add : (c : ℕ) (a : ℕ → K) (i : ℕ) → shift 𝓢 q c a (c + i) ≡ a i
  shift-add c a i = shift-at c a (c + i) (omega arith) ∙ ap a (omega arith)

  -- x^0 changes nothing
  pub shift_zero : (a : ℕ → K) (i : ℕ) → shift 𝓢 q 0 a i ≡ a i
  shift_zero a i = shift-at 0 a i (omega arith) ∙ ap a (omega arith)

  -- a coefficient of x^c a is zero if the one that it comes from is, where there is one
  pub shift_none : (c : ℕ) (a : ℕ → K) (i : ℕ) → ((n : ℕ) → i ≡ c + n → a n ≡ 𝟘) → shift 𝓢 q c a i ≡ 𝟘
  shift_none c a i h = elim (dec_le c i) [
    | yes l ↦ shift-at c a i l ∙ h (i - c) (omega arith)
    | no l ↦ shift-below c a i (omega arith)
  ]

  -- the value is a sum over the coefficients
  pub value_in-def : (W : ℕ) (a : ℕ → K) (x : K) → value_in 𝓢 q W a x ≡ sum 𝓢 W (λ i. a i ⊗ power 𝓢 x i)
  unfolding value_in
  value_in-def W a x = refl

  -- no coefficient, no value
  pub value_in-zero : (a : ℕ → K) (x : K) → value_in 𝓢 q 0 a x ≡ 𝟘
  value_in-zero a x = value_in-def 0 a x ∙ sum-zero 𝓢 (λ i. a i ⊗ power 𝓢 x i)

  -- the last coefficient apart
  pub value_in-suc : (W : ℕ) (a : ℕ → K) (x : K) → value_in 𝓢 q (suc W) a x ≡ value_in 𝓢 q W a x ⊕ a W ⊗ power 𝓢 x W
  unfolding value_in
  value_in-suc W a x = sum-suc 𝓢 W (λ i. a i ⊗ power 𝓢 x i)

  -- equal coefficients below the width
  pub value_in-cong : (W : ℕ) {a b : ℕ → K} (x : K) → ((i : ℕ) → i < W → a i ≡ b i)
      → value_in 𝓢 q W a x ≡ value_in 𝓢 q W b x
  unfolding value_in
  value_in-cong W x h = sum-cong 𝓢 W (λ i hi. ap (λ z. z ⊗ power 𝓢 x i) (h i hi))

module _ {𝓢 : Symbols} {q : ℕ} (𝓛 : Laws 𝓢 q) where
  infixl 65 ◌⊕◌ ◌⊖◌
  infixl 70 ◌⊗◌
  open 𝓢 use {K, 𝟘, ◌⊕◌, ◌⊖◌, ◌⊗◌}

  -- all coefficients zero
  pub value_in-none : (W : ℕ) {a : ℕ → K} (x : K) → ((i : ℕ) → i < W → a i ≡ 𝟘) → value_in 𝓢 q W a x ≡ 𝟘
  unfolding value_in
  value_in-none W x h = sum-none 𝓛 W (λ i hi. simp (h i hi, zero-mul 𝓛))

  -- values of sums
  pub value_in-add : (W : ℕ) (a b : ℕ → K) (x : K)
      → value_in 𝓢 q W (λ i. a i ⊕ b i) x ≡ value_in 𝓢 q W a x ⊕ value_in 𝓢 q W b x
  unfolding value_in
  value_in-add W a b x = simp (add-mul 𝓛, sum-add 𝓛 W (λ i. a i ⊗ power 𝓢 x i) (λ i. b i ⊗ power 𝓢 x i))

  -- values of differences
  pub value_in-sub : (W : ℕ) (a b : ℕ → K) (x : K)
      → value_in 𝓢 q W (λ i. a i ⊖ b i) x ≡ value_in 𝓢 q W a x ⊖ value_in 𝓢 q W b x
  unfolding value_in
  value_in-sub W a b x =
      sum-cong 𝓢 W (λ i hi. simp (ring, 𝓛)) ∙ sum-sub 𝓛 W (λ i. a i ⊗ power 𝓢 x i) (λ i. b i ⊗ power 𝓢 x i)

  -- a wider sum adds nothing where the further coefficients are zero
  pub value_in-widen : (U W : ℕ) (a : ℕ → K) (x : K) → U ≤ W → ((i : ℕ) → U ≤ i → a i ≡ 𝟘)
      → value_in 𝓢 q W a x ≡ value_in 𝓢 q U a x
  unfolding value_in
  value_in-widen U W a x l h = sum-widen 𝓛 (λ i. a i ⊗ power 𝓢 x i) l (λ i hi. simp (h i hi, zero-mul 𝓛))

  -- Horner's rule
  pub value_in-head : (W : ℕ) (a : ℕ → K) (x : K) → value_in 𝓢 q (suc W) a x ≡ a 0 ⊕ x ⊗ value_in 𝓢 q W (λ i. a (suc i)) x
  unfolding value_in
  value_in-head W a x =
      sum_head 𝓛 W (λ i. a i ⊗ power 𝓢 x i)
      ∙ simp (power_zero, power-suc, mul-one 𝓛, mul-sum 𝓛 W x (λ i. a (suc i) ⊗ power 𝓢 x i), sorted*, 𝓛)

  -- the value of x^c a, where the width is c and the places of a
  value_in-shift-split : (c n : ℕ) (a : ℕ → K) (x : K) → ((i : ℕ) → n ≤ i → a i ≡ 𝟘)
      → value_in 𝓢 q (c + n) (shift 𝓢 q c a) x ≡ power 𝓢 x c ⊗ value_in 𝓢 q (c + n) a x
  unfolding value_in
  value_in-shift-split c n a x h =
      sum 𝓢 (c + n) (λ i. shift 𝓢 q c a i ⊗ power 𝓢 x i)
      ≡⟨ sum-split 𝓛 c n (λ i. shift 𝓢 q c a i ⊗ power 𝓢 x i) ⟩
      sum 𝓢 c (λ i. shift 𝓢 q c a i ⊗ power 𝓢 x i) ⊕ sum 𝓢 n (λ i. shift 𝓢 q c a (c + i) ⊗ power 𝓢 x (c + i))
      ≡⟨ ap₂ ◌⊕◌ (sum-none 𝓛 c (λ i hi. simp (shift-below 𝓢 q c a i hi, zero-mul 𝓛))) moved ⟩
      𝟘 ⊕ power 𝓢 x c ⊗ sum 𝓢 n (λ i. a i ⊗ power 𝓢 x i)
      ≡⟨ zero-add 𝓛 (power 𝓢 x c ⊗ sum 𝓢 n (λ i. a i ⊗ power 𝓢 x i)) ⟩
      power 𝓢 x c ⊗ sum 𝓢 n (λ i. a i ⊗ power 𝓢 x i)
      ≡⟨ ap (λ z. power 𝓢 x c ⊗ z) (sym wider) ⟩
      power 𝓢 x c ⊗ sum 𝓢 (c + n) (λ i. a i ⊗ power 𝓢 x i) ∎
    where
      moved : sum 𝓢 n (λ i. shift 𝓢 q c a (c + i) ⊗ power 𝓢 x (c + i)) ≡ power 𝓢 x c ⊗ sum 𝓢 n (λ i. a i ⊗ power 𝓢 x i)
      moved = simp (shift-add, power-add 𝓛, mul-sum 𝓛 n (power 𝓢 x c) (λ i. a i ⊗ power 𝓢 x i), sorted*, 𝓛)

      wider : sum 𝓢 (c + n) (λ i. a i ⊗ power 𝓢 x i) ≡ sum 𝓢 n (λ i. a i ⊗ power 𝓢 x i)
      wider = sum-widen 𝓛 (λ i. a i ⊗ power 𝓢 x i) (omega arith) (λ i hi. simp (h i hi, zero-mul 𝓛))

  -- the value of x^c a, where no coefficient is moved past the width
  pub value_in-shift : (W c : ℕ) (a : ℕ → K) (x : K) → ((i : ℕ) → W ≤ i + c → a i ≡ 𝟘)
      → value_in 𝓢 q W (shift 𝓢 q c a) x ≡ power 𝓢 x c ⊗ value_in 𝓢 q W a x
  value_in-shift W c a x h =
      elim (dec_le c W) [
        | yes l ↦ let e : c + (W - c) ≡ W = omega arith in
            rw (← e) (value_in-shift-split c (W - c) a x (λ i hi. h i (omega arith)))
        | no l ↦ let none = value_in-none W {a = a} x (λ i hi. h i (omega arith)) in
            value_in-none W x (λ i hi. shift-below 𝓢 q c a i (omega arith)) ∙ simp (none, mul-zero 𝓛)
      ]
