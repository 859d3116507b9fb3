-- Products in binary digits are linear in each factor, with exclusive or as the sum, whatever they are reduced by.
-- Assumes nothing.
use mathlib.Core.Path.{◌≡◌, refl, sym, ap, ap₂, ◌∙◌}
use mathlib.Core.Logic.{⊎_elim}
use Prim.Native.Nat.{ℕ, zero, suc, ◌+◌, ◌-◌, ◌*◌, ◌/◌, ◌%◌, ◌^◌, ◌≤◌, ◌<◌}
use native.Mathlib.Nat.{mul-one, mul-zero, zero-mul, pow-suc, div-add-mod', div-eq_of_lt}
use native.Mathlib.Decide.{dec_lt}
use native.Mathlib.Omega.{arith}
use lib.Pow.{pow_pos, pow-lt, high}
use lib.Bits.{bit_xor, xor_zero_r, xor_comm, xor_self, xor_lt, xor_block, xor_shr, xor_mod, xor_shifted}
use borrow.Author.Tests.{lt-ltb, le-ltb}
use Rattle.symbols.specs.Rule.{twice, chosen}
use Rattle.symbols.proofs.Xor.{digit, low_digit, xor-middle, xor-double, xor-times, times-xor}

-- numbers of m digits, a number of one digit more that products are reduced by, and a count of digits that misses none
pub record Digits (m r count : ℕ) : Type 0 where
  pub some : 0 < m
  pub enough : m ≤ count
  pub reaches : 2 ^ m ≤ r
  pub fits : r < 2 ^ m * 2

module _ {m r count : ℕ} (𝓓 : Digits m r count) where
  abbrev up : ℕ → ℕ
  up = twice (2 ^ m) r

  abbrev by : ℕ → ℕ → ℕ → ℕ
  by = chosen (2 ^ m) r

  pub positive : 0 < 2 ^ m
  positive = pow_pos m

  -- the digit above the others
  top_one : (y : ℕ) → 2 ^ m ≤ y → y < 2 ^ m * 2 → y / 2 ^ m ≡ 1
  top_one y l h =
      let e : y ≡ 1 * 2 ^ m + (y - 2 ^ m) = omega arith in
      ap (λ t. t / 2 ^ m) e ∙ high 1 m (omega arith)

  top_digit : (x : ℕ) → x < 2 ^ m → x * 2 / 2 ^ m < 2
  top_digit x h = go (dec_lt (x * 2) (2 ^ m))
    where
      go : Dec (x * 2 < 2 ^ m) → x * 2 / 2 ^ m < 2
      go (yes l) = rw (div-eq_of_lt l) (omega arith)
      go (no l) = rw (top_one (x * 2) (omega arith) (omega arith)) (omega arith)

  -- one digit up: the reducing number is added as often as the digit says that this brings to the top
  up-by-top : (x : ℕ) → x < 2 ^ m → up x ≡ bit_xor (x * 2) (r * (x * 2 / 2 ^ m))
  unfolding twice
  up-by-top x h = go (dec_lt (x * 2) (2 ^ m))
    where
      go : Dec (x * 2 < 2 ^ m) → up x ≡ bit_xor (x * 2) (r * (x * 2 / 2 ^ m))
      go (yes l) = rw (lt-ltb (x * 2) (2 ^ m) l, div-eq_of_lt l, mul-zero, xor_zero_r)
      go (no l) = rw (le-ltb (x * 2) (2 ^ m) (omega arith), top_one (x * 2) (omega arith) (omega arith), mul-one)

  -- two numbers that reach the digit above the others have a sum that does not
  tops-lt : (x y : ℕ) → 2 ^ m ≤ x → x < 2 ^ m * 2 → 2 ^ m ≤ y → y < 2 ^ m * 2 → bit_xor x y < 2 ^ m
  tops-lt x y lx hx ly hy =
      let ex : x ≡ 1 * 2 ^ m + (x - 2 ^ m) = omega arith in
      let ey : y ≡ 1 * 2 ^ m + (y - 2 ^ m) = omega arith in
      let low_x : x - 2 ^ m < 2 ^ m = omega arith in
      let low-y : y - 2 ^ m < 2 ^ m = omega arith in
      let e : bit_xor x y ≡ 0 * 2 ^ m + bit_xor (x - 2 ^ m) (y - 2 ^ m) = ap₂ bit_xor ex ey ∙ xor_block m 1 1 _ _ low_x low-y in
      omega (arith, e, xor_lt m (x - 2 ^ m) (y - 2 ^ m) low_x low-y)

  pub up_lt : (x : ℕ) → x < 2 ^ m → up x < 2 ^ m
  unfolding twice
  up_lt x h = go (dec_lt (x * 2) (2 ^ m))
    where
      go : Dec (x * 2 < 2 ^ m) → up x < 2 ^ m
      go (yes l) = rw (lt-ltb (x * 2) (2 ^ m) l) l
      go (no l) =
          rw (le-ltb (x * 2) (2 ^ m) (omega arith)) (tops-lt (x * 2) r (omega arith) (omega arith) 𝓓.reaches 𝓓.fits)

  pub up-xor : (a b : ℕ) → a < 2 ^ m → b < 2 ^ m → up (bit_xor a b) ≡ bit_xor (up a) (up b)
  up-xor a b ha hb =
      up-by-top (bit_xor a b) (xor_lt m a b ha hb)
      ∙ ap (λ t. bit_xor t (r * (t / 2 ^ m))) (xor-double a b)
      ∙ ap (bit_xor (bit_xor (a * 2) (b * 2)))
      (ap (λ t. r * t) (xor_shr (a * 2) (b * 2) m)
      ∙ times-xor r (a * 2 / 2 ^ m) (b * 2 / 2 ^ m) (top_digit a ha) (top_digit b hb))
      ∙ xor-middle (a * 2) (b * 2) _ _
      ∙ ap₂ bit_xor (sym (up-by-top a ha)) (sym (up-by-top b hb))

  pub up-zero : up 0 ≡ 0
  up-zero = up-xor 0 0 positive positive ∙ xor_self (up 0)

  -- what holds at 0 and at x holds at x times a digit
  pub at-digit : (Q : ℕ → Type 0) (x d : ℕ) → d < 2 → Q 0 → Q x → Q (x * d)
  at-digit Q x d h q₀ q = ⊎_elim (λ (e : d ≡ 0). rw (e, mul-zero) q₀) (λ (e : d ≡ 1). rw (e, mul-one) q) (digit d h)

  pub times-lt : (x d : ℕ) → d < 2 → x < 2 ^ m → x * d < 2 ^ m
  times-lt x d h = at-digit (λ t. t < 2 ^ m) x d h positive

  up-times : (x d : ℕ) → d < 2 → up x * d ≡ up (x * d)
  up-times x d h =
      ⊎_elim (λ (e : d ≡ 0). rw e (simp mul-zero (sym up-zero))) (λ (e : d ≡ 1). rw e (simp mul-one)) (digit d h)

  pub by-lt : (d x y : ℕ) → x < 2 ^ m → by d x y < 2 ^ m
  unfolding chosen
  by-lt zero x y h = positive
  by-lt (suc d) x y h =
      xor_lt m (x * (y % 2)) (by d (up x) (y / 2)) (times-lt x (y % 2) (low_digit y) h) (by-lt d (up x) (y / 2) (up_lt x h))

  -- linear in the first factor
  pub by-xor-left : (d a b y : ℕ) → a < 2 ^ m → b < 2 ^ m → by d (bit_xor a b) y ≡ bit_xor (by d a y) (by d b y)
  unfolding chosen
  by-xor-left zero a b y ha hb = refl
  by-xor-left (suc d) a b y ha hb =
      ap₂ bit_xor (xor-times a b (y % 2) (low_digit y))
      (ap (λ t. by d t (y / 2)) (up-xor a b ha hb) ∙ by-xor-left d (up a) (up b) (y / 2) (up_lt a ha) (up_lt b hb))
      ∙ xor-middle (a * (y % 2)) (b * (y % 2)) (by d (up a) (y / 2)) (by d (up b) (y / 2))

  -- and in the second
  pub by-xor-right : (d x y z : ℕ) → by d x (bit_xor y z) ≡ bit_xor (by d x y) (by d x z)
  unfolding chosen
  by-xor-right zero x y z = refl
  by-xor-right (suc d) x y z =
      ap₂ bit_xor (ap (λ t. x * t) (xor_mod y z 1) ∙ times-xor x (y % 2) (z % 2) (low_digit y) (low_digit z))
      (ap (by d (up x)) (xor_shr y z 1) ∙ by-xor-right d (up x) (y / 2) (z / 2))
      ∙ xor-middle (x * (y % 2)) (x * (z % 2)) (by d (up x) (y / 2)) (by d (up x) (z / 2))

  -- one digit up in the first factor is one digit up in the product
  pub by-up : (d x y : ℕ) → x < 2 ^ m → by d (up x) y ≡ up (by d x y)
  unfolding chosen
  by-up zero x y h = sym up-zero
  by-up (suc d) x y h =
      ap₂ bit_xor (up-times x (y % 2) (low_digit y)) (by-up d (up x) (y / 2) (up_lt x h))
      ∙ sym (up-xor (x * (y % 2)) (by d (up x) (y / 2)) (times-lt x (y % 2) (low_digit y) h) (by-lt d (up x) (y / 2) (up_lt x h)))

  pub by-zero-left : (d y : ℕ) → by d 0 y ≡ 0
  by-zero-left d y = by-xor-left d 0 0 y positive positive ∙ xor_self (by d 0 y)

  pub by-zero-right : (d x : ℕ) → by d x 0 ≡ 0
  by-zero-right d x = by-xor-right d x 0 0 ∙ xor_self (by d x 0)

  -- a power of two goes one digit up without being reduced, as long as there is a digit above it
  up-power : (i : ℕ) → suc i < m → up (2 ^ i) ≡ 2 ^ suc i
  unfolding twice
  up-power i h =
      let l : 2 ^ i * 2 < 2 ^ m = rw pow-suc at (pow-lt h) in
      rw (lt-ltb (2 ^ i * 2) (2 ^ m) l) (sym (pow-suc 2 i))

  next_place : (i y : ℕ) → bit_xor (2 ^ i * (y % 2)) (y / 2 * 2 ^ suc i) ≡ y * 2 ^ i
  next_place i y =
      let low : 2 ^ i * (y % 2) < 2 ^ suc i =
      at-digit (λ t. t < 2 ^ suc i) (2 ^ i) (y % 2) (low_digit y) (pow_pos (suc i)) (rw pow-suc (omega (arith, pow_pos i))) in
      xor_comm (2 ^ i * (y % 2)) (y / 2 * 2 ^ suc i) ∙ xor_shifted (y / 2) (suc i) (2 ^ i * (y % 2)) low
      ∙ (rw (pow-suc 2 i) (omega (arith, ap (λ t. t * 2 ^ i) (div-add-mod' y 2))))

  -- so its product by a number that it leaves room for is the plain one
  plain : (k i d y : ℕ) → i + k ≡ m → k ≤ d → y < 2 ^ k → by d (2 ^ i) y ≡ y * 2 ^ i
  unfolding chosen
  plain zero i d y e l h = let z : y ≡ 0 = omega arith in rw (z, zero-mul) (by-zero-right d (2 ^ i))
  plain (suc k) i zero y e l h = absurd (omega arith)
  plain (suc zero) i (suc d) y e l h =
      let z : y / 2 ≡ 0 = omega arith in
      ap (bit_xor (2 ^ i * (y % 2))) (ap (by d (up (2 ^ i))) z ∙ by-zero-right d (up (2 ^ i)) ∙ (rw (z, zero-mul)))
      ∙ next_place i y
  plain (suc (suc k)) i (suc d) y e l h =
      ap (bit_xor (2 ^ i * (y % 2)))
      (ap (λ t. by d t (y / 2)) (up-power i (omega arith))
      ∙ plain (suc k) (suc i) d (y / 2) (omega arith) (omega arith) (omega (arith, pow-suc 2 (suc k))))
      ∙ next_place i y

  pub by-one-left : (y : ℕ) → y < 2 ^ m → by count 1 y ≡ y
  by-one-left y h = plain m 0 count y (omega arith) 𝓓.enough h ∙ mul-one y
