-- A field of symbols: its operations in one record, its laws in a second; powers and finite sums over any.
-- Document 01, "Fields and curve". The definitions take the operations alone, the proofs take the laws too.
-- Assumes nothing.
use Rattle.std.specs.Prelude.{◌≡◌, ◌≢◌, Bool, ℕ, zero, suc, ◌*◌, ◌<◌, eqb}

-- Source 000's signs are kept; where minus equals plus, as for q = 2 and q = 4, `◌⊖◌` is the same function as `◌⊕◌`.
pub record Symbols : Type 1 where
  pub K : Type 0
  pub 𝟘 : K
  pub 𝟙 : K
  pub ◌⊕◌ : K → K → K
  pub ◌⊖◌ : K → K → K
  pub minus : K → K
  pub ◌⊗◌ : K → K → K
  pub inverse : K → K
  pub number : K → ℕ
  pub symbol : ℕ → K

module _ (𝓢 : Symbols) where
  infixl 65 ◌⊕◌ ◌⊖◌
  infixl 70 ◌⊗◌
  open 𝓢 use {K, 𝟘, 𝟙, ◌⊕◌, ◌⊖◌, minus, ◌⊗◌, inverse, number, symbol}

  -- two symbols are the same if their numbers are
  unfoldable pub same : K → K → Bool
  same a b = eqb (number a) (number b)

  -- a^n, with 0^0 = 1
  unfoldable pub power : K → ℕ → K
  power a zero = 𝟙
  power a (suc n) = a ⊗ power a n

  -- f 0 + .. + f (n - 1)
  unfoldable pub sum : ℕ → (ℕ → K) → K
  sum zero f = 𝟘
  sum (suc n) f = sum n f ⊕ f n

  -- a field of q² symbols, numbered from 0 to q² - 1, whose characteristic divides q
  pub record Laws (q : ℕ) : Type 0 where
    pub add_comm : (a b : K) → a ⊕ b ≡ b ⊕ a
    pub add_assoc : (a b c : K) → (a ⊕ b) ⊕ c ≡ a ⊕ (b ⊕ c)
    pub add-zero : (a : K) → a ⊕ 𝟘 ≡ a
    pub add-minus : (a : K) → a ⊕ minus a ≡ 𝟘
    pub sub_def : (a b : K) → a ⊖ b ≡ a ⊕ minus b
    pub mul_comm : (a b : K) → a ⊗ b ≡ b ⊗ a
    pub mul_assoc : (a b c : K) → (a ⊗ b) ⊗ c ≡ a ⊗ (b ⊗ c)
    pub mul-one : (a : K) → a ⊗ 𝟙 ≡ a
    pub mul-add : (a b c : K) → a ⊗ (b ⊕ c) ≡ a ⊗ b ⊕ a ⊗ c
    pub one-ne-zero : 𝟙 ≢ 𝟘
    pub mul-inverse : (a : K) → a ≢ 𝟘 → a ⊗ inverse a ≡ 𝟙
    pub power-same : (a : K) → power a (q * q) ≡ a
    pub q-ones : sum q (λ n. 𝟙) ≡ 𝟘
    pub number-below : (a : K) → number a < q * q
    pub symbol-number : (a : K) → symbol (number a) ≡ a
    pub number-symbol : (n : ℕ) → n < q * q → number (symbol n) ≡ n
    pub number-zero : number 𝟘 ≡ 0
    pub number-one : number 𝟙 ≡ 1
