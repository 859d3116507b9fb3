-- Finite sums of numbers, for the degrees of all polynomials together: congruence, order, addition, one term or a part of them
-- apart, and the same sum in another order.
use mathlib.Core.Path.{◌≡◌, refl, sym, ap, ap₂, ◌∙◌}
use mathlib.Core.Logic.{◌≢◌}
use Prim.Native.Nat.{ℕ, zero, suc, ◌+◌, ◌*◌, ◌≤◌, ◌<◌}
use native.Mathlib.Nat.{add-zero, add-suc}
use native.Mathlib.Omega.{arith}
use native.Mathlib.Decide.{ℕ_discrete}
unfoldable pub use Rattle.algebra.specs.Totals.{total}

-- equal terms below the bound
pub total-cong : (n : ℕ) {f g : ℕ → ℕ} → ((k : ℕ) → k < n → f k ≡ g k) → total n f ≡ total n g
unfolding total
total-cong zero h = refl
total-cong (suc n) h = ap₂ ◌+◌ (total-cong n (λ k hk. h k (omega arith))) (h n (omega arith))

-- smaller terms have a smaller sum
pub total-le : (n : ℕ) {f g : ℕ → ℕ} → ((k : ℕ) → k < n → f k ≤ g k) → total n f ≤ total n g
unfolding total
total-le zero h = omega arith
total-le (suc n) h = omega (arith, total-le n (λ k hk. h k (omega arith)), h n (omega arith))

-- sums are added term by term
pub total-add : (n : ℕ) (f g : ℕ → ℕ) → total n (λ k. f k + g k) ≡ total n f + total n g
unfolding total
total-add zero f g = refl
total-add (suc n) f g = omega (arith, total-add n f g)

-- a factor of every term is one of the sum
pub total-mul : (n c : ℕ) (f : ℕ → ℕ) → total n (λ k. c * f k) ≡ c * total n f
unfolding total
total-mul zero c f = omega arith
total-mul (suc n) c f = omega (arith, total-mul n c f)

-- the first m terms apart
pub total-split : (m n : ℕ) (f : ℕ → ℕ) → total (m + n) f ≡ total m f + total n (λ k. f (m + k))
unfolding total
total-split m zero f = rw (add-zero m) (omega arith)
total-split m (suc n) f = rw (add-suc m n) (omega (arith, total-split m n f))

-- the first one apart
pub total_head : (n : ℕ) (f : ℕ → ℕ) → total (suc n) f ≡ f 0 + total n (λ k. f (suc k))
unfolding total
total_head zero f = omega arith
total_head (suc n) f = omega (arith, total_head n f)

-- n terms that are the same
pub total-const : (n c : ℕ) → total n (λ k. c) ≡ n * c
unfolding total
total-const zero c = omega arith
total-const (suc n) c = omega (arith, total-const n c)

-- the order of summation
pub total-swap : (m n : ℕ) (f : ℕ → ℕ → ℕ) → total m (λ i. total n (λ j. f i j)) ≡ total n (λ j. total m (λ i. f i j))
unfolding total
total-swap zero n f = sym (total-const n 0 ∙ omega arith)
total-swap (suc m) n f =
    ap (λ x. x + total n (λ j. f m j)) (total-swap m n f) ∙ sym (total-add n (λ j. total m (λ i. f i j)) (λ j. f m j))

-- two sums that differ in one term only
pub total-change : (n i : ℕ) (f g : ℕ → ℕ) → i < n → ((k : ℕ) → k < n → k ≢ i → f k ≡ g k)
    → total n f + g i ≡ total n g + f i
unfolding total
total-change zero i f g l h = omega arith
total-change (suc n) i f g l h = elim (ℕ_discrete n i) [
  | yes e ↦ omega (arith, total-cong n {f = f} {g = g} (λ k hk. h k (omega arith) (omega arith)), ap f e, ap g e)
  | no ne ↦ omega (arith, total-change n i f g (omega arith) (λ k hk. h k (omega arith)), h n (omega arith) ne)
]

-- one term that is not zero
pub total-single : (n i : ℕ) (f : ℕ → ℕ) → i < n → ((k : ℕ) → k < n → k ≢ i → f k ≡ 0) → total n f ≡ f i
total-single n i f l h = omega (arith, total-change n i f (λ k. 0) l h, total-const n 0)

-- c where the two numbers are equal, else 0
at : {i j : ℕ} → Dec (i ≡ j) → ℕ → ℕ
at (yes e) c = c
at (no ne) c = 0

-- where they are equal
at-yes : {i j : ℕ} (d : Dec (i ≡ j)) (c : ℕ) → i ≡ j → at d c ≡ c
unfolding at
at-yes (yes e) c h = refl
at-yes (no ne) c h = absurd (ne h)

-- where they are not
at-no : {i j : ℕ} (d : Dec (i ≡ j)) (c : ℕ) → i ≢ j → at d c ≡ 0
unfolding at
at-no (yes e) c h = absurd (h e)
at-no (no ne) c h = refl

-- the terms in another order: τ goes through the numbers below n, and σ goes back
pub total-permuted : (n : ℕ) (f τ σ : ℕ → ℕ) → ((i : ℕ) → i < n → τ i < n) → ((j : ℕ) → j < n → σ j < n)
    → ((i : ℕ) → i < n → σ (τ i) ≡ i) → ((j : ℕ) → j < n → τ (σ j) ≡ j) → total n (λ i. f (τ i)) ≡ total n f
total-permuted n f τ σ τ-below σ-below στ τσ =
    total-cong n (λ i hi. sym (by_row i hi)) ∙ total-swap n n cell ∙ total-cong n by-column
  where
    -- f j where j is τ i, else 0
    cell : ℕ → ℕ → ℕ
    cell i j = at (ℕ_discrete (τ i) j) (f j)

    by_row : (i : ℕ) → i < n → total n (cell i) ≡ f (τ i)
    by_row i hi =
        total-single n (τ i) (cell i) (τ-below i hi) (λ j hj ne. at-no (ℕ_discrete (τ i) j) (f j) (λ e. ne (sym e)))
        ∙ at-yes (ℕ_discrete (τ i) (τ i)) (f (τ i)) refl

    by-column : (j : ℕ) → j < n → total n (λ i. cell i j) ≡ f j
    by-column j hj =
        total-single n (σ j) (λ i. cell i j) (σ-below j hj)
        (λ i hi ne. at-no (ℕ_discrete (τ i) j) (f j) (λ e. ne (sym (στ i hi) ∙ ap σ e)))
        ∙ at-yes (ℕ_discrete (τ (σ j)) j) (f j) (τσ j hj)
