-- Finite sums of symbols: congruence, addition, factors in and out, order of summation, splitting, and the sums of which
-- most terms are zero.
use mathlib.Core.Path.{◌≡◌, refl, sym, ap, ap₂, ◌∙◌}
use mathlib.Core.Logic.{◌≢◌}
use Prim.Native.Nat.{ℕ, zero, suc, ◌+◌, ◌*◌, ◌-◌, ◌≤◌, ◌<◌}
use native.Mathlib.Nat as Nat
use native.Mathlib.Omega.{arith}
use native.Mathlib.Decide.{ℕ_discrete}
use Rattle.algebra.specs.Symbols.{Symbols, Laws, sum}
use Rattle.algebra.proofs.Ring.{sorted+, add-zero, zero-add, add_assoc, mul-zero, mul-add, mul_comm, minus-zero, minus-add, sub_def}

module _ (𝓢 : Symbols) where
  infixl 65 ◌⊕◌
  open 𝓢 use {K, 𝟘, ◌⊕◌}

  -- no term
  pub sum-zero : (f : ℕ → K) → sum 𝓢 0 f ≡ 𝟘
  unfolding sum
  sum-zero f = refl

  -- the last term apart
  pub sum-suc : (n : ℕ) (f : ℕ → K) → sum 𝓢 (suc n) f ≡ sum 𝓢 n f ⊕ f n
  unfolding sum
  sum-suc n f = refl

  -- equal terms below the bound
  pub sum-cong : (n : ℕ) {f g : ℕ → K} → ((k : ℕ) → k < n → f k ≡ g k) → sum 𝓢 n f ≡ sum 𝓢 n g
  unfolding sum
  sum-cong zero h = refl
  sum-cong (suc n) h = ap₂ ◌⊕◌ (sum-cong n (λ k hk. h k (omega arith))) (h n (omega arith))

module _ {𝓢 : Symbols} {q : ℕ} (𝓛 : Laws 𝓢 q) where
  infixl 65 ◌⊕◌ ◌⊖◌
  infixl 70 ◌⊗◌
  open 𝓢 use {K, 𝟘, ◌⊕◌, ◌⊖◌, minus, ◌⊗◌}

  -- a sum of zeros
  pub sum-of-zeros : (n : ℕ) → sum 𝓢 n (λ k. 𝟘) ≡ 𝟘
  unfolding sum
  sum-of-zeros zero = refl
  sum-of-zeros (suc n) = simp (sum-of-zeros n, add-zero 𝓛)

  -- all terms zero
  pub sum-none : (n : ℕ) {f : ℕ → K} → ((k : ℕ) → k < n → f k ≡ 𝟘) → sum 𝓢 n f ≡ 𝟘
  sum-none n h = sum-cong 𝓢 n h ∙ sum-of-zeros n

  -- sums are added term by term
  pub sum-add : (n : ℕ) (f g : ℕ → K) → sum 𝓢 n (λ k. f k ⊕ g k) ≡ sum 𝓢 n f ⊕ sum 𝓢 n g
  unfolding sum
  sum-add zero f g = sym (add-zero 𝓛 𝟘)
  sum-add (suc n) f g = simp (sum-add n f g, sorted+, 𝓛)

  -- negated term by term
  pub sum-minus : (n : ℕ) (f : ℕ → K) → sum 𝓢 n (λ k. minus (f k)) ≡ minus (sum 𝓢 n f)
  unfolding sum
  sum-minus zero f = sym (minus-zero 𝓛)
  sum-minus (suc n) f = simp (sum-suc, sum-minus n f, minus-add 𝓛)

  -- subtracted term by term
  pub sum-sub : (n : ℕ) (f g : ℕ → K) → sum 𝓢 n (λ k. f k ⊖ g k) ≡ sum 𝓢 n f ⊖ sum 𝓢 n g
  sum-sub n f g = simp (sub_def 𝓛, sum-add n f (λ k. minus (g k)), sum-minus n g)

  -- a factor goes in, from the left and from the right
  pub mul-sum : (n : ℕ) (c : K) (f : ℕ → K) → c ⊗ sum 𝓢 n f ≡ sum 𝓢 n (λ k. c ⊗ f k)
  unfolding sum
  mul-sum zero c f = mul-zero 𝓛 c
  mul-sum (suc n) c f = simp (mul-add 𝓛, mul-sum n c f)

  -- from the right
  pub sum-mul : (n : ℕ) (c : K) (f : ℕ → K) → sum 𝓢 n f ⊗ c ≡ sum 𝓢 n (λ k. f k ⊗ c)
  sum-mul n c f = mul_comm 𝓛 (sum 𝓢 n f) c ∙ mul-sum n c f ∙ sum-cong 𝓢 n (λ k hk. mul_comm 𝓛 c (f k))

  -- sums are merged into one: in this direction the sides show f and g bare, so that `simp` finds them
  pub sum-merge : (n : ℕ) (f g : ℕ → K) → sum 𝓢 n f ⊕ sum 𝓢 n g ≡ sum 𝓢 n (λ k. f k ⊕ g k)
  sum-merge n f g = sym (sum-add n f g)

  -- the same with more behind
  pub sum-merge' : (n : ℕ) (f g : ℕ → K) (c : K) → sum 𝓢 n f ⊕ (sum 𝓢 n g ⊕ c) ≡ sum 𝓢 n (λ k. f k ⊕ g k) ⊕ c
  sum-merge' n f g c = rw (← add_assoc 𝓛 (sum 𝓢 n f) (sum 𝓢 n g) c) (ap (λ z. z ⊕ c) (sum-merge n f g))

  -- a negation goes in
  pub minus-sum : (n : ℕ) (f : ℕ → K) → minus (sum 𝓢 n f) ≡ sum 𝓢 n (λ k. minus (f k))
  minus-sum n f = sym (sum-minus n f)

  -- beside `ring`: an identity of sums over the same bounds
  pub ruleset sums = (sum-of-zeros, sum-merge, sum-merge', minus-sum, mul-sum, sum-mul)

  -- the first m terms apart
  pub sum-split : (m n : ℕ) (f : ℕ → K) → sum 𝓢 (m + n) f ≡ sum 𝓢 m f ⊕ sum 𝓢 n (λ k. f (m + k))
  unfolding sum
  sum-split m zero f = simp (Nat.add-zero, add-zero 𝓛)
  sum-split m (suc n) f = simp (Nat.add-suc, sum-suc, sum-split m n f, add_assoc 𝓛)

  -- the first term apart
  pub sum_head : (n : ℕ) (f : ℕ → K) → sum 𝓢 (suc n) f ≡ f 0 ⊕ sum 𝓢 n (λ k. f (suc k))
  unfolding sum
  sum_head zero f = simp (zero-add 𝓛, add-zero 𝓛)
  sum_head (suc n) f = ap (λ x. x ⊕ f (suc n)) (sum_head n f) ∙ add_assoc 𝓛 (f 0) (sum 𝓢 n (λ k. f (suc k))) (f (suc n))

  -- the first two terms apart
  pub sum-heads : (n : ℕ) (f : ℕ → K) → 2 ≤ n → sum 𝓢 n f ≡ f 0 ⊕ (f 1 ⊕ sum 𝓢 (n - 2) (λ k. f (suc (suc k))))
  sum-heads n f h =
      let e : suc (suc (n - 2)) ≡ n = omega arith in
      ap (λ m. sum 𝓢 m f) (sym e) ∙ sum_head (suc (n - 2)) f ∙ ap (λ x. f 0 ⊕ x) (sum_head (n - 2) (λ k. f (suc k)))

  -- the first and the last term apart
  pub sum-ends : (n : ℕ) (f : ℕ → K) → 2 ≤ n → sum 𝓢 n f ≡ f 0 ⊕ sum 𝓢 (n - 2) (λ k. f (suc k)) ⊕ f (n - 1)
  sum-ends n f h =
      let e : suc (suc (n - 2)) ≡ n = omega arith in
      let last : suc (n - 2) ≡ n - 1 = omega arith in
      ap (λ m. sum 𝓢 m f) (sym e) ∙ sum-suc 𝓢 (suc (n - 2)) f ∙ ap₂ ◌⊕◌ (sum_head (n - 2) f) (ap f last)

  -- a sum over m times n places, by rows of n
  pub sum_rows : (m n : ℕ) (f : ℕ → K) → sum 𝓢 (m * n) f ≡ sum 𝓢 m (λ i. sum 𝓢 n (λ j. f (i * n + j)))
  sum_rows zero n f = simp (Nat.zero-mul, sum-zero)
  sum_rows (suc m) n f = simp (Nat.suc-mul, sum-suc, sum-split (m * n) n f, sum_rows m n f)

  -- a wider bound adds nothing where the further terms are zero
  pub sum-widen : {m n : ℕ} (f : ℕ → K) → m ≤ n → ((k : ℕ) → m ≤ k → f k ≡ 𝟘) → sum 𝓢 n f ≡ sum 𝓢 m f
  sum-widen {m} {n} f l h =
      let e : m + (n - m) ≡ n = omega arith in
      let none = sum-none (n - m) (λ k hk. h (m + k) (omega arith)) in
      ap (λ k. sum 𝓢 k f) (sym e) ∙ sum-split m (n - m) f ∙ ap (λ x. sum 𝓢 m f ⊕ x) none ∙ add-zero 𝓛 (sum 𝓢 m f)

  -- one term that is not zero
  pub sum-single : (n i : ℕ) (f : ℕ → K) → i < n → ((k : ℕ) → k < n → k ≢ i → f k ≡ 𝟘) → sum 𝓢 n f ≡ f i
  sum-single zero i f l h = absurd (omega arith)
  sum-single (suc n) i f l h =
      elim (ℕ_discrete n i) [
        | yes e ↦ sum-suc 𝓢 n f ∙ ap₂ ◌⊕◌ (sum-none n (λ k hk. h k (omega arith) (omega arith))) (ap f e) ∙ zero-add 𝓛 (f i)
        | no ne ↦ simp (sum-suc, sum-single n i f (omega arith) (λ k hk. h k (omega arith)), h n (omega arith) ne, add-zero 𝓛)
      ]
