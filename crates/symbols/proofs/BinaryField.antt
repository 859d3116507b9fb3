-- The symbols of a q whose q² is a power of two are a field if each number but 0 times its inverse is 1. Only this depends on
-- what products are reduced by; the other laws hold for any such q, or follow from it.
-- Assumes nothing.
use mathlib.Core.Path.{◌≡◌, refl, sym, ap, ap₂, ◌∙◌}
use mathlib.Core.Logic.{◌≢◌, ⊎_elim}
use Prim.Native.Nat.{ℕ, zero, suc, ◌*◌, ◌-◌, ◌%◌, ◌^◌, ◌<◌}
use native.Mathlib.Omega.{arith}
use lib.Bits.{bit_xor, xor_comm, xor_zero_r, xor_self}
use Rattle.algebra.specs.Symbols.{Laws, power, sum}
use Rattle.symbols.specs.Rule.{size, reduced_by, difference_of, chosen, product, power_of, inverse_of, symbols}
use Rattle.symbols.proofs.Tested.{number-eq}
use Rattle.symbols.proofs.Bytes.{numbered, number-of-small, number-of-xor}
use Rattle.symbols.proofs.Xor.{digit, low_digit, xor_assoc}
use Rattle.symbols.proofs.DigitProducts.{Digits}
use Rattle.symbols.proofs.DigitRing.{one-lt, product_lt, xor-right, zero_left, one_right, comm, assoc}

-- what the field of q stands on: its symbols have m digits, products take all of them, and there are inverses
pub record Binary (q m : ℕ) : Type 0 where
  pub digits : Digits m (reduced_by q) q
  pub square : q * q ≡ 2 ^ m
  pub even : q % 2 ≡ 0
  pub inverses : (x : ℕ) → 0 < x → x < 2 ^ m → product q x (inverse_of q x) ≡ 1

module _ {q m : ℕ} (𝓑 : Binary q m) where
  infixl 65 ◌⊕◌ ◌⊖◌
  infixl 70 ◌⊗◌ ◌·◌
  open symbols q use {K, 𝟘, 𝟙, ◌⊕◌, ◌⊖◌, minus, ◌⊗◌, inverse, number, symbol}

  abbrev 𝓓 : Digits m (reduced_by q) q
  𝓓 = 𝓑.digits

  abbrev ◌·◌ : ℕ → ℕ → ℕ
  x · y = chosen (2 ^ m) (reduced_by q) q x y

  products : (x y : ℕ) → product q x y ≡ x · y
  unfolding product
  products x y = rw 𝓑.square

  full : size q ≡ 2 ^ m
  unfolding size
  full = omega (arith, 𝓑.square, one-lt 𝓓)

  below : (a : K) → number a < 2 ^ m
  below a = rw full at ((numbered q).number-below a)

  kept : (x : ℕ) → x < 2 ^ m → number (symbol x) ≡ x
  kept x h = number-of-small q x (rw full h)

  by_number : {a b : K} → number a ≡ number b → a ≡ b
  by_number {a} {b} = number-eq (symbols q) (size q) (numbered q) a b

  -- each operation by numbers
  of-sum : (a b : K) → number (a ⊕ b) ≡ bit_xor (number a) (number b)
  of-sum a b = sym (number-of-xor q m full a b)

  of-product : (a b : K) → number (a ⊗ b) ≡ number a · number b
  unfolding symbols
  of-product a b =
      ap (λ t. number (symbol t)) (products (number a) (number b)) ∙ kept _ (product_lt 𝓓 (number a) (number b) (below a))

  of_zero : number 𝟘 ≡ 0
  unfolding symbols
  of_zero = kept 0 (omega (arith, one-lt 𝓓))

  of_one : number 𝟙 ≡ 1
  unfolding symbols
  of_one = kept 1 (one-lt 𝓓)

  of-power : (a : K) (n : ℕ) → number (power (symbols q) a n) ≡ power_of q (number a) n
  unfolding power power_of
  of-power a zero = of_one
  of-power a (suc n) =
      of-product a (power (symbols q) a n) ∙ ap (λ t. number a · t) (of-power a n) ∙ sym (products (number a) (power_of q (number a) n))

  -- minus equals plus
  minus-self : (a : K) → number (a ⊕ minus a) ≡ 0
  unfolding symbols
  minus-self a = of-sum a a ∙ xor_self (number a)

  difference : (a b : K) → a ⊖ b ≡ a ⊕ minus b
  unfolding symbols difference_of
  difference a b = refl

  -- a sum of ones is 0 or 1 by turns
  ones : (n : ℕ) → number (sum (symbols q) n (λ k. 𝟙)) ≡ n % 2
  unfolding sum
  ones zero = of_zero
  ones (suc n) =
      of-sum (sum (symbols q) n (λ k. 𝟙)) 𝟙 ∙ ap₂ bit_xor (ones n) of_one
      ∙ ⊎_elim (λ (e : n % 2 ≡ 0). rw e (omega arith)) (λ (e : n % 2 ≡ 1). rw e (omega arith)) (digit (n % 2) (low_digit n))

  -- the inverse is a power
  inverse-power : (a : K) → inverse a ≡ power (symbols q) a (q * q - 2)
  unfolding symbols inverse_of
  inverse-power a = ap symbol (sym (of-power a (q * q - 2))) ∙ (numbered q).symbol-number _

  product-inverse : (a : K) → 0 < number a → a ⊗ inverse a ≡ 𝟙
  unfolding inverse_of
  product-inverse a h =
      by_number
      (of-product a (inverse a) ∙ ap (λ t. number a · t) (ap number (inverse-power a) ∙ of-power a (q * q - 2))
      ∙ sym (products (number a) (inverse_of q (number a))) ∙ 𝓑.inverses (number a) h (below a) ∙ sym of_one)

  times-one : (a : K) → a ⊗ 𝟙 ≡ a
  times-one a = by_number (of-product a 𝟙 ∙ ap (λ t. number a · t) of_one ∙ one_right 𝓓 (number a) (below a))

  -- each symbol is its own power q²: two factors more than its inverse
  own_power : (a : K) → power (symbols q) a (q * q) ≡ a
  unfolding power
  own_power a =
      let e : q * q ≡ suc (suc (q * q - 2)) = omega (arith, 𝓑.square, one-lt 𝓓) in
      ap (power (symbols q) a) e ∙ go (number a) refl
    where
      go : (x : ℕ) → number a ≡ x → a ⊗ (a ⊗ power (symbols q) a (q * q - 2)) ≡ a
      go zero e = by_number (of-product a _ ∙ ap (λ t. t · number (a ⊗ power (symbols q) a (q * q - 2))) e ∙ zero_left 𝓓 _ ∙ sym e)
      go (suc x) e =
          ap (λ t. a ⊗ t)
          (ap (λ t. a ⊗ t) (sym (inverse-power a)) ∙ product-inverse a (rw e (omega arith)))
          ∙ times-one a

  -- other symbols than 0 have numbers above 0
  above : (a : K) → a ≢ 𝟘 → 0 < number a
  above a ne = go (number a) refl
    where
      go : (n : ℕ) → number a ≡ n → 0 < n
      go zero e = absurd (ne (by_number (e ∙ sym of_zero)))
      go (suc n) e = omega arith

  pub field : Laws (symbols q) q
  field =
      record {
        add_comm = λ a b. by_number (of-sum a b ∙ xor_comm (number a) (number b) ∙ sym (of-sum b a));
        add_assoc = λ a b c. by_number (
            of-sum (a ⊕ b) c ∙ ap (λ t. bit_xor t (number c)) (of-sum a b) ∙ xor_assoc (number a) (number b) (number c)
            ∙ ap (bit_xor (number a)) (sym (of-sum b c)) ∙ sym (of-sum a (b ⊕ c)));
        add-zero = λ a. by_number (of-sum a 𝟘 ∙ ap (bit_xor (number a)) of_zero ∙ xor_zero_r (number a));
        add-minus = λ a. by_number (minus-self a ∙ sym of_zero);
        sub_def = difference;
        mul_comm = λ a b. by_number (of-product a b ∙ comm 𝓓 (number b) (below b) (number a) (below a) ∙ sym (of-product b a));
        mul_assoc = λ a b c. by_number (
            of-product (a ⊗ b) c ∙ ap (λ t. t · number c) (of-product a b)
            ∙ assoc 𝓓 (number b) (number c) (below b) (number a) (below a)
            ∙ ap (λ t. number a · t) (sym (of-product b c)) ∙ sym (of-product a (b ⊗ c)));
        mul-one = times-one;
        mul-add = λ a b c. by_number (
            of-product a (b ⊕ c) ∙ ap (λ t. number a · t) (of-sum b c) ∙ xor-right 𝓓 (number a) (number b) (number c)
            ∙ ap₂ bit_xor (sym (of-product a b)) (sym (of-product a c)) ∙ sym (of-sum (a ⊗ b) (a ⊗ c)));
        one-ne-zero = λ e. let z : ◌≡◌ {A = ℕ} 1 0 = sym of_one ∙ ap number e ∙ of_zero in omega arith;
        mul-inverse = λ a ne. product-inverse a (above a ne);
        power-same = own_power;
        q-ones = by_number (ones q ∙ 𝓑.even ∙ sym of_zero);
        number-below = λ a. rw 𝓑.square (below a);
        symbol-number = (numbered q).symbol-number;
        number-symbol = λ n h. kept n (rw 𝓑.square at h);
        number-zero = of_zero;
        number-one = of_one;
      }
