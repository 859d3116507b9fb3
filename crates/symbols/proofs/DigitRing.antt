-- Products in binary digits have the unit 1, may be exchanged and may be regrouped: with exclusive or as the sum, a commutative
-- ring, whatever they are reduced by.
-- Assumes nothing.
use mathlib.Core.Path.{◌≡◌, sym, ap, ap₂, ◌∙◌, subst}
use Prim.Native.Nat.{ℕ, zero, suc, ◌*◌, ◌/◌, ◌%◌, ◌^◌, ◌<◌}
use lib.Pow.{pow-lt}
use lib.Bits.{bit_xor}
use Rattle.symbols.specs.Rule.{twice, chosen}
use Rattle.symbols.proofs.Xor.{low_digit}
use Rattle.symbols.proofs.DigitProducts.{Digits, up_lt, up-xor, up-zero, at-digit, times-lt, by-lt, by-xor-left, by-xor-right, by-up, by-zero-left, by-zero-right, by-one-left}

module _ {m r count : ℕ} (𝓓 : Digits m r count) where
  abbrev up : ℕ → ℕ
  up = twice (2 ^ m) r

  infixl 70 ◌·◌
  abbrev ◌·◌ : ℕ → ℕ → ℕ
  x · y = chosen (2 ^ m) r count x y

  pub one-lt : 1 < 2 ^ m
  one-lt = pow-lt 𝓓.some

  pub product_lt : (x y : ℕ) → x < 2 ^ m → x · y < 2 ^ m
  product_lt = by-lt 𝓓 count

  xor-left : (a b y : ℕ) → a < 2 ^ m → b < 2 ^ m → bit_xor a b · y ≡ bit_xor (a · y) (b · y)
  xor-left = by-xor-left 𝓓 count

  pub xor-right : (x y z : ℕ) → x · bit_xor y z ≡ bit_xor (x · y) (x · z)
  xor-right = by-xor-right 𝓓 count

  up_left : (x y : ℕ) → x < 2 ^ m → up x · y ≡ up (x · y)
  up_left = by-up 𝓓 count

  pub zero_left : (y : ℕ) → 0 · y ≡ 0
  zero_left = by-zero-left 𝓓 count

  zero_right : (x : ℕ) → x · 0 ≡ 0
  zero_right = by-zero-right 𝓓 count

  one_left : (y : ℕ) → y < 2 ^ m → 1 · y ≡ y
  one_left = by-one-left 𝓓

  -- what holds at 0 and 1, one digit up and at sums holds at each number, as a sum of powers of two
  span : (Q : ℕ → Type 0) → Q 0 → Q 1 → ((x : ℕ) → x < 2 ^ m → Q x → Q (up x))
      → ((x y : ℕ) → x < 2 ^ m → y < 2 ^ m → Q x → Q y → Q (bit_xor x y)) → (y : ℕ) → y < 2 ^ m → Q y
  unfolding chosen
  span Q q₀ q₁ q-up q-xor y h = subst Q (one_left y h) (go count 1 y one-lt q₁)
    where
      go : (k x y : ℕ) → x < 2 ^ m → Q x → Q (chosen (2 ^ m) r k x y)
      go zero x y h q = q₀
      go (suc k) x y h q =
          q-xor (x * (y % 2)) (chosen (2 ^ m) r k (up x) (y / 2)) (times-lt 𝓓 x (y % 2) (low_digit y) h)
          (by-lt 𝓓 k (up x) (y / 2) (up_lt 𝓓 x h))
          (at-digit 𝓓 Q x (y % 2) (low_digit y) q₀ q) (go k (up x) (y / 2) (up_lt 𝓓 x h) (q-up x h q))

  pub one_right : (x : ℕ) → x < 2 ^ m → x · 1 ≡ x
  one_right =
      span (λ x. x · 1 ≡ x) (zero_left 1) (one_left 1 one-lt)
      (λ x h e. up_left x 1 h ∙ ap up e)
      (λ x y hx hy ex ey. xor-left x y 1 hx hy ∙ ap₂ bit_xor ex ey)

  up_right : (z : ℕ) → z < 2 ^ m → (x : ℕ) → x < 2 ^ m → x · up z ≡ up (x · z)
  up_right z hz =
      span (λ x. x · up z ≡ up (x · z)) (zero_left (up z) ∙ sym (up-zero 𝓓) ∙ ap up (sym (zero_left z)))
      (one_left (up z) (up_lt 𝓓 z hz) ∙ ap up (sym (one_left z hz)))
      (λ x h e. up_left x (up z) h ∙ ap up (e ∙ sym (up_left x z h)))
      (λ x y hx hy ex ey.
      xor-left x y (up z) hx hy ∙ ap₂ bit_xor ex ey ∙ sym (up-xor 𝓓 (x · z) (y · z) (product_lt x z hx) (product_lt y z hy))
      ∙ ap up (sym (xor-left x y z hx hy)))

  pub comm : (y : ℕ) → y < 2 ^ m → (x : ℕ) → x < 2 ^ m → x · y ≡ y · x
  comm y hy =
      span (λ x. x · y ≡ y · x) (zero_left y ∙ sym (zero_right y)) (one_left y hy ∙ sym (one_right y hy))
      (λ x h e. up_left x y h ∙ ap up e ∙ sym (up_right x h y hy))
      (λ a b ha hb ea eb. xor-left a b y ha hb ∙ ap₂ bit_xor ea eb ∙ sym (xor-right y a b))

  pub assoc : (y z : ℕ) → y < 2 ^ m → (x : ℕ) → x < 2 ^ m → (x · y) · z ≡ x · (y · z)
  assoc y z hy =
      span (λ x. (x · y) · z ≡ x · (y · z))
      (ap (λ t. t · z) (zero_left y) ∙ zero_left z ∙ sym (zero_left (y · z)))
      (ap (λ t. t · z) (one_left y hy) ∙ sym (one_left (y · z) (product_lt y z hy)))
      (λ x h e. ap (λ t. t · z) (up_left x y h) ∙ up_left (x · y) z (product_lt x y h) ∙ ap up e ∙ sym (up_left x (y · z) h))
      (λ a b ha hb ea eb.
      ap (λ t. t · z) (xor-left a b y ha hb) ∙ xor-left (a · y) (b · y) z (product_lt a y ha) (product_lt b y hb)
      ∙ ap₂ bit_xor ea eb ∙ sym (xor-left a b (y · z) ha hb))
