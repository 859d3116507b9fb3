-- Horner's rule on bytes: from the last coefficient down, the value of the part of the polynomial that was passed.
-- Assumes nothing.
use mathlib.Core.Path.{◌≡◌, sym, ap, ap₂, ◌∙◌}
use mathlib.Core.List.{List}
use Prim.Native.Nat.{ℕ, suc, ◌+◌, ◌-◌, ◌%◌, ◌<◌}
use native.Mathlib.Nat.{add-zero, zero-add, add-suc, suc-add, sub-zero}
use native.Mathlib.Omega.{arith}
use lib.ListN.{length, get_or}
use Rattle.algebra.specs.Symbols.{Symbols, Laws}
use Rattle.algebra.specs.Functions.{value_in}
use Rattle.algebra.proofs.Ring.{add_comm, add-zero as plus-zero, mul-zero}
use Rattle.algebra.proofs.Polynomials.{value_in-zero, value_in-head, value_in-cong}
use Rattle.symbols.specs.Sizes.{most_symbols}
use Rattle.symbols.specs.Rule.{Known, Sym, sum_of, symbols, number, symbol}
use Rattle.symbols.specs.Tables.{product_row, Holds}
use Rattle.symbols.proofs.FieldLaws.{laws-of}
use Rattle.symbols.proofs.Bytes.{number-of-sum}
use Rattle.symbols.proofs.TableRules.{table_row-number}
use Rattle.evaluation.specs.Stages.{IsValue}

-- the value of n coefficients from the one of x^i on
unfoldable pub part : (𝓢 : Symbols) → ℕ → (ℕ → 𝓢.K) → 𝓢.K → ℕ → ℕ → 𝓢.K
part 𝓢 q a x i n = value_in 𝓢 q n (λ k. a (i + k)) x

module _ {𝓢 : Symbols} {q : ℕ} (𝓛 : Laws 𝓢 q) where
  infixl 65 ◌⊕◌
  infixl 70 ◌⊗◌
  open 𝓢 use {K, 𝟘, ◌⊕◌, ◌⊗◌}

  -- of one coefficient
  part-last : (a : ℕ → K) (x : K) (i : ℕ) → a i ≡ part 𝓢 q a x i 1
  unfolding part
  part-last a x i =
      sym
      (value_in-head 𝓛 0 (λ k. a (i + k)) x
      ∙ ap₂ (λ s t. a s ⊕ x ⊗ t) (add-zero i) (value_in-zero 𝓢 q (λ k. a (i + suc k)) x)
      ∙ ap (λ s. a i ⊕ s) (mul-zero 𝓛 x)
      ∙ plus-zero 𝓛 (a i))

  -- of one more
  part-next : (a : ℕ → K) (x : K) (i n : ℕ) → x ⊗ part 𝓢 q a x (suc i) n ⊕ a i ≡ part 𝓢 q a x i (suc n)
  unfolding part
  part-next a x i n =
      add_comm 𝓛 (x ⊗ part 𝓢 q a x (suc i) n) (a i)
      ∙ sym
      (value_in-head 𝓛 n (λ k. a (i + k)) x
      ∙ ap₂ (λ s t. a s ⊕ x ⊗ t) (add-zero i) (value_in-cong 𝓢 q n x (λ k h. ap a (add-suc i k ∙ sym (suc-add i k)))))

  -- of all
  part-whole : (a : ℕ → K) (x : K) (n : ℕ) → part 𝓢 q a x 0 n ≡ value_in 𝓢 q n a x
  unfolding part
  part-whole a x n = value_in-cong 𝓢 q n x (λ k h. ap a (zero-add k))

-- what a loop has after it passed the coefficients from number i on
abbrev pub IsPart : ℕ → List ℕ → List ℕ → ℕ → ℕ → Type 0
IsPart q products coefficients i value =
    (a : ℕ) (α : ℕ → Sym q) → Known q → products ≡ product_row q a → Holds q coefficients (length coefficients) α
    → value ≡ number q (part (symbols q) q α (symbol q a) i (length coefficients - i))

-- none
pub horner-none : (q : ℕ) (products coefficients : List ℕ) → length coefficients ≡ 0 → IsValue q products coefficients 0
horner-none q products coefficients none a α k e held =
    rw (none, value_in-zero) (sym (laws-of q k).number-zero)

-- the last coefficient
pub horner-last : (q : ℕ) (products coefficients : List ℕ) (i : ℕ) → length coefficients ≡ suc i
    → IsPart q products coefficients i (get_or coefficients i 0)
horner-last q products coefficients i last a α k e held =
    let one : length coefficients - i ≡ 1 = omega arith in
    rw one (held.at i (omega arith) ∙ ap (number q) (part-last (laws-of q k) α (symbol q a) i))

-- one more
pub horner-next : (q : ℕ) (products coefficients : List ℕ) (i value : ℕ) → i < length coefficients
    → IsPart q products coefficients (suc i) value
    → IsPart q products coefficients i (sum_of q (get_or products (value % most_symbols) 0) (get_or coefficients i 0))
horner-next q products coefficients i value l known a α k e held =
    let tail = part (symbols q) q α (symbol q a) (suc i) (length coefficients - suc i) in
    let more : suc (length coefficients - suc i) ≡ length coefficients - i = omega arith in
    let next = part-next (laws-of q k) α (symbol q a) i (length coefficients - suc i) in
    rw (
      e,
      known a α k e held,
      table_row-number q k a tail,
      held.at i (omega arith),
      number-of-sum q k ((symbols q).◌⊗◌ (symbol q a) tail) (α i),
    )
    (ap (number q) (rw more at next))

-- all
pub horner-all : (q : ℕ) (products coefficients : List ℕ) (value : ℕ) → IsPart q products coefficients 0 value
    → IsValue q products coefficients value
horner-all q products coefficients value known a α k e held =
    (rw sub-zero at (known a α k e held)) ∙ ap (number q) (part-whole (laws-of q k) α (symbol q a) (length coefficients))
