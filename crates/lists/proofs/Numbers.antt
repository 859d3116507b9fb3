-- Numbers as places: one of two orders holds, and rows of one width fit into their area.
-- Assumes nothing.
use mathlib.Core.Path.{◌≡◌, refl, subst}
use mathlib.Core.Logic.{◌⊎◌, inl, inr, ⊎_elim}
use mathlib.Core.Bool.{Bool, true, false}
use Prim.Native.Nat.{ℕ, zero, suc, ◌+◌, ◌*◌, ◌≤◌, ◌<◌}
use native.Mathlib.Nat.{suc-mul, mul-zero, mul-le-mul_right, not-suc-le-zero}
use native.Mathlib.Omega.{arith}
use lib.Dec.{ltb}
use borrow.Author.Tests.{ltb-true, ltb-false}

-- a is below b, or it is not
pub lt-or-ge : (a b : ℕ) → (a < b) ⊎ (b ≤ a)
lt-or-ge a b = go (ltb a b) refl
  where
    go : (t : Bool) → ltb a b ≡ t → (a < b) ⊎ (b ≤ a)
    go true e = inl (ltb-true a b e)
    go false e = inr (ltb-false a b e)

-- two numbers are the same, or one is below the other
pub same-or-apart : (a b : ℕ) → (a ≡ b) ⊎ ((a < b) ⊎ (b < a))
same-or-apart a b =
    ⊎_elim
    (λ (h : a < b). inr (inl h))
    (λ (h : b ≤ a). ⊎_elim (λ (k : b < a). inr (inr k)) (λ (k : a ≤ b). inl (omega arith)) (lt-or-ge b a))
    (lt-or-ge a b)

-- two numbers are the same, or they are not
pub same_or_not : (a b : ℕ) → (a ≡ b) ⊎ (a ≡ b → ⊥)
same_or_not a b =
    ⊎_elim
    (λ (e : a ≡ b). inl e)
    (λ d. inr (λ e. ⊎_elim (λ (h : a < b). omega arith) (λ (h : b < a). omega arith) d))
    (same-or-apart a b)

-- row j of n rows of width w ends within them
pub row_fits : {j n : ℕ} (w : ℕ) → j < n → j * w + w ≤ n * w
row_fits {j} {n} w h = subst (λ (k : ℕ). k ≤ n * w) (suc-mul j w) (mul-le-mul_right w h)

-- a product with a number below it has a second factor above 0
pub factor-positive : (n m k : ℕ) → k < n * m → 0 < m
factor-positive n zero k h = absurd (not-suc-le-zero (rw mul-zero at h))
factor-positive n (suc m) k h = omega arith
