-- Exclusive or as a sum: it may be regrouped, and doubling and products by a digit pass through it.
-- Assumes nothing.
use mathlib.Core.Path.{◌≡◌, refl, sym, ap, ap₂, ◌∙◌}
use mathlib.Core.Logic.{◌⊎◌, inl, inr, ⊎_elim}
use Prim.Native.Nat.{ℕ, zero, suc, ◌+◌, ◌*◌, ◌/◌, ◌%◌, ◌<◌}
use native.Mathlib.Nat.{mod-lt, mul-one, mul-zero}
use native.Mathlib.Omega.{arith}
use lib.Arith.{bin_ind}
use lib.Bits.{bit_xor, xor_step, xor_zero_r, xor_comm, xor_self, xor_shr, differ}

-- a digit is 0 or 1
pub digit : (d : ℕ) → d < 2 → (d ≡ 0) ⊎ (d ≡ 1)
digit zero h = inl refl
digit (suc zero) h = inr refl
digit (suc (suc d)) h = absurd (omega arith)

-- the lowest digit of a number is one
pub low_digit : (n : ℕ) → n % 2 < 2
low_digit n = mod-lt n (omega arith)

-- two digits differ where their sum is odd
differ-sum : (x y : ℕ) → x < 2 → y < 2 → differ x y ≡ (x + y) % 2
differ-sum zero y hx hy = omega arith
differ-sum (suc zero) zero hx hy = refl
differ-sum (suc zero) (suc zero) hx hy = refl
differ-sum (suc zero) (suc (suc y)) hx hy = absurd (omega arith)
differ-sum (suc (suc x)) y hx hy = absurd (omega arith)

-- a sum by its lowest digit and the others
xor-digit : (a b : ℕ) → bit_xor a b ≡ bit_xor (a / 2) (b / 2) * 2 + (a % 2 + b % 2) % 2
xor-digit a b = xor_step a b ∙ ap (λ x. bit_xor (a / 2) (b / 2) * 2 + x) (differ-sum (a % 2) (b % 2) (low_digit a) (low_digit b))

xor_low : (a b : ℕ) → bit_xor a b % 2 ≡ (a % 2 + b % 2) % 2
xor_low a b = rw (xor-digit a b) (omega arith)

-- stated of any three numbers: with remainders in their place `omega` would stop at its bound
odd-assoc : (x y z : ℕ) → ((x + y) % 2 + z) % 2 ≡ (x + (y + z) % 2) % 2
odd-assoc x y z = omega arith

-- sums may be regrouped
pub xor_assoc : (a b c : ℕ) → bit_xor (bit_xor a b) c ≡ bit_xor a (bit_xor b c)
xor_assoc a =
    bin_ind (λ n. (b c : ℕ) → bit_xor (bit_xor n b) c ≡ bit_xor n (bit_xor b c)) (λ b c. refl)
    (λ n ih b c.
    xor-digit (bit_xor n b) c
    ∙ ap₂ (λ x y. x * 2 + y)
    (ap (λ x. bit_xor x (c / 2)) (xor_shr n b 1) ∙ ih (b / 2) (c / 2) ∙ ap (bit_xor (n / 2)) (sym (xor_shr b c 1)))
    (ap (λ x. (x + c % 2) % 2) (xor_low n b) ∙ odd-assoc (n % 2) (b % 2) (c % 2) ∙ ap (λ x. (n % 2 + x) % 2) (sym (xor_low b c)))
    ∙ sym (xor-digit n (bit_xor b c)))
    a

-- two sums of two, regrouped
pub xor-middle : (a b c d : ℕ) → bit_xor (bit_xor a b) (bit_xor c d) ≡ bit_xor (bit_xor a c) (bit_xor b d)
xor-middle a b c d =
    xor_assoc a b (bit_xor c d)
    ∙ ap (bit_xor a) (sym (xor_assoc b c d) ∙ ap (λ x. bit_xor x d) (xor_comm b c) ∙ xor_assoc c b d)
    ∙ sym (xor_assoc a c (bit_xor b d))

-- one digit up
pub xor-double : (a b : ℕ) → bit_xor a b * 2 ≡ bit_xor (a * 2) (b * 2)
xor-double a b =
    let l : a * 2 / 2 ≡ a = omega arith in
    let r : b * 2 / 2 ≡ b = omega arith in
    sym (rw (xor-digit (a * 2) (b * 2), l, r) (omega arith))

-- a sum times a digit
pub xor-times : (x y d : ℕ) → d < 2 → bit_xor x y * d ≡ bit_xor (x * d) (y * d)
xor-times x y d h =
    ⊎_elim (λ (e : d ≡ 0). rw e (simp mul-zero)) (λ (e : d ≡ 1). rw e (simp mul-one)) (digit d h)

-- a number times a sum of digits
pub times-xor : (x d e : ℕ) → d < 2 → e < 2 → x * bit_xor d e ≡ bit_xor (x * d) (x * e)
times-xor x zero e hd he = simp mul-zero
times-xor x (suc zero) zero hd he = simp (mul-zero, mul-one, xor_zero_r)
times-xor x (suc zero) (suc zero) hd he = simp (mul-zero, mul-one, xor_self)
times-xor x (suc zero) (suc (suc e)) hd he = absurd (omega arith)
times-xor x (suc (suc d)) e hd he = absurd (omega arith)
