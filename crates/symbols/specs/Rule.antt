-- The symbols of q = 2 and q = 4 and the rule that they follow. Document 01, "Fields and curve".
-- A symbol is a number below q²; each operation ends by taking the remainder, so that it needs no proof of its own.
-- Assumes nothing.
use Rattle.std.specs.Prelude.{◌≡◌, ◌⊎◌, Bool, false, cond, ◌||◌, List, [], ◌∷◌, ℕ, zero, suc, ◌*◌, ◌-◌, ◌/◌, ◌%◌, ◌<◌, leb, ltb, eqb}
use Rattle.std.proofs.Common.{mod-lt, arith, ap, inl, inr}
use Rattle.std.specs.Coded.{Coded-set, coded_ℕ}
use Rattle.std.specs.Int.Bits.{bit_xor}
use Rattle.algebra.specs.Symbols.{Symbols}

-- every other q is refusal 1
unfoldable pub is_known : ℕ → Bool
is_known q = eqb q 2 || eqb q 4

-- the same as a fact
unfoldable pub Known : ℕ → Type 0
Known q = (q ≡ 2) ⊎ (q ≡ 4)

-- it holds in one way at most, so that a type can keep it
pub Known-prop : (q : ℕ) → IsProp (Known q)
unfolding Known
Known-prop q (inl a) (inl b) = ap inl (Coded-set coded_ℕ q 2 a b)
Known-prop q (inl a) (inr b) = absurd (omega (arith, a, b))
Known-prop q (inr a) (inl b) = absurd (omega (arith, a, b))
Known-prop q (inr a) (inr b) = ap inr (Coded-set coded_ℕ q 4 a b)

-- how many symbols there are: q², and one even for q = 0, so that there always is a symbol 0
unfoldable pub size : ℕ → ℕ
size q = suc (q * q - 1)

-- what products are reduced by: a²+a+1 for q = 2, a⁴+a+1 for q = 4, written in binary digits
unfoldable pub reduced_by : ℕ → ℕ
reduced_by q = cond (eqb q 2) 7 19

-- the number of a sum: exclusive or
unfoldable pub sum_of : ℕ → ℕ → ℕ → ℕ
sum_of q a b = bit_xor a b

-- the number of a difference: minus equals plus
unfoldable pub difference_of : ℕ → ℕ → ℕ → ℕ
difference_of q a b = sum_of q a b

-- products in binary digits: of numbers below n, reduced by r
module _ (n r : ℕ) where
  -- a·x for a = 2: one digit up, and reduced where that reaches n
  unfoldable pub twice : ℕ → ℕ
  twice x = cond (ltb (x * 2) n) (x * 2) (bit_xor (x * 2) r)

  -- the sum of those among x, 2·x, 4·x, .. that the lowest d digits of y choose
  unfoldable pub chosen : ℕ → ℕ → ℕ → ℕ
  chosen zero x y = 0
  chosen (suc d) x y = bit_xor (x * (y % 2)) (chosen d (twice x) (y / 2))

-- the product; no symbol has more than q digits
unfoldable pub product : ℕ → ℕ → ℕ → ℕ
product q x y = chosen (q * q) (reduced_by q) q x y

-- x^n
unfoldable pub power_of : ℕ → ℕ → ℕ → ℕ
power_of q x zero = 1
power_of q x (suc n) = product q x (power_of q x n)

-- 1/x is x^(q²-2), and 0 for x = 0
unfoldable pub inverse_of : ℕ → ℕ → ℕ
inverse_of q x = power_of q x (q * q - 2)

-- a number below n, with the proof that it is
unfoldable pub Below : ℕ → Type 0
Below n = (a : ℕ) × (a < n)

pub some : (q : ℕ) → 0 < size q
unfolding size
some q = omega arith

-- the symbol of a number: its remainder
unfoldable pub into : (q : ℕ) → ℕ → Below (size q)
unfolding Below
into q a = (a % size q, mod-lt a (some q))

-- the operations; a symbol is its own negative
unfoldable pub symbols : ℕ → Symbols
unfolding Below into
symbols q =
    record {
      K = Below (size q);
      𝟘 = into q 0;
      𝟙 = into q 1;
      ◌⊕◌ = λ a b. into q (sum_of q a.0 b.0);
      ◌⊖◌ = λ a b. into q (difference_of q a.0 b.0);
      minus = λ a. a;
      ◌⊗◌ = λ a b. into q (product q a.0 b.0);
      inverse = λ a. into q (inverse_of q a.0);
      number = λ a. a.0;
      symbol = into q;
    }

-- the symbols of q, and their numbers
abbrev pub Sym : ℕ → Type 0
Sym q = (symbols q).K

abbrev pub number : (q : ℕ) → Sym q → ℕ
number q = (symbols q).number

abbrev pub symbol : (q : ℕ) → ℕ → Sym q
symbol q = (symbols q).symbol

-- one of these numbers is no symbol's: refusal 5
unfoldable pub any_beyond : ℕ → List ℕ → Bool
any_beyond q [] = false
any_beyond q (a ∷ rest) = leb (q * q) a || any_beyond q rest
