-- Sums and products of symbols: what follows from the laws of a field, the rewriting set `ring` that proves identities of
-- rings, `linear` that brings a hypothesis in, and the decision whether two symbols are the same.
use mathlib.Core.Path.{◌≡◌, sym, ap, ◌∙◌, ◌≡⟨◌⟩◌, ◌∎}
use mathlib.Core.Logic.{◌≢◌}
use mathlib.Core.Bool.{true, false}
use Prim.Native.Nat.{ℕ}
use native.Mathlib.Decide.{ℕ_discrete}
use borrow.Author.Tests.{eqb-true, eqb-false, eq-eqb}
use Rattle.algebra.specs.Symbols.{Symbols, Laws, same}

module _ {𝓢 : Symbols} {q : ℕ} (𝓛 : Laws 𝓢 q) where
  infixl 65 ◌⊕◌ ◌⊖◌
  infixl 70 ◌⊗◌
  open 𝓢 use {K, 𝟘, 𝟙, ◌⊕◌, ◌⊖◌, minus, ◌⊗◌, inverse, number, symbol}

  -- the laws once more as lemmas, since a ruleset lists lemmas only
  pub add_comm : (a b : K) → a ⊕ b ≡ b ⊕ a
  add_comm = 𝓛.add_comm

  -- sums may be regrouped
  pub add_assoc : (a b c : K) → (a ⊕ b) ⊕ c ≡ a ⊕ (b ⊕ c)
  add_assoc = 𝓛.add_assoc

  -- zero adds nothing
  pub add-zero : (a : K) → a ⊕ 𝟘 ≡ a
  add-zero = 𝓛.add-zero

  -- a and minus a cancel
  pub add-minus : (a : K) → a ⊕ minus a ≡ 𝟘
  add-minus = 𝓛.add-minus

  -- to subtract is to add the negative
  pub sub_def : (a b : K) → a ⊖ b ≡ a ⊕ minus b
  sub_def = 𝓛.sub_def

  -- products may be exchanged
  pub mul_comm : (a b : K) → a ⊗ b ≡ b ⊗ a
  mul_comm = 𝓛.mul_comm

  -- products may be regrouped
  pub mul_assoc : (a b c : K) → (a ⊗ b) ⊗ c ≡ a ⊗ (b ⊗ c)
  mul_assoc = 𝓛.mul_assoc

  -- one multiplies to the same
  pub mul-one : (a : K) → a ⊗ 𝟙 ≡ a
  mul-one = 𝓛.mul-one

  -- products distribute over sums
  pub mul-add : (a b c : K) → a ⊗ (b ⊕ c) ≡ a ⊗ b ⊕ a ⊗ c
  mul-add = 𝓛.mul-add

  -- zero and negation
  pub zero-add : (a : K) → 𝟘 ⊕ a ≡ a
  zero-add a = rw (add_comm 𝟘 a) (add-zero a)

  -- the second term of a sum first
  pub add_left_comm : (a b c : K) → a ⊕ (b ⊕ c) ≡ b ⊕ (a ⊕ c)
  add_left_comm a b c = rw (← add_assoc a b c, add_comm a b) (add_assoc b a c)

  -- the second factor of a product first
  pub mul_left_comm : (a b c : K) → a ⊗ (b ⊗ c) ≡ b ⊗ (a ⊗ c)
  mul_left_comm a b c = rw (← mul_assoc a b c, mul_comm a b) (mul_assoc b a c)

  -- minus a and a cancel
  pub minus-add-self : (a : K) → minus a ⊕ a ≡ 𝟘
  minus-add-self a = rw (add_comm (minus a) a) (add-minus a)

  -- minus a takes a out of a sum
  pub minus-add-cancel : (a b : K) → minus a ⊕ (a ⊕ b) ≡ b
  minus-add-cancel a b = simp (← add_assoc, minus-add-self, zero-add)

  -- a takes minus a out of a sum
  pub add-minus-cancel : (a b : K) → a ⊕ (minus a ⊕ b) ≡ b
  add-minus-cancel a b = simp (← add_assoc, add-minus, zero-add)

  -- equal sums with one equal part have the other part equal
  pub add_left_cancel : (a : K) {b c : K} → a ⊕ b ≡ a ⊕ c → b ≡ c
  add_left_cancel a {b} {c} e = sym (minus-add-cancel a b) ∙ ap (λ x. minus a ⊕ x) e ∙ minus-add-cancel a c

  -- there is one negative
  pub minus-unique : (a b : K) → a ⊕ b ≡ 𝟘 → b ≡ minus a
  minus-unique a b e = add_left_cancel a (e ∙ sym (add-minus a))

  -- twice negated
  pub minus_minus : (a : K) → minus (minus a) ≡ a
  minus_minus a = sym (minus-unique (minus a) a (minus-add-self a))

  -- zero negated
  pub minus-zero : minus 𝟘 ≡ 𝟘
  minus-zero = sym (minus-unique 𝟘 𝟘 (add-zero 𝟘))

  -- a sum negated
  pub minus-add : (a b : K) → minus (a ⊕ b) ≡ minus a ⊕ minus b
  minus-add a b =
      sym (minus-unique (a ⊕ b) (minus a ⊕ minus b)
      (simp (add_assoc, add_left_comm b (minus a) (minus b), add-minus, add-zero)))

  -- a product by zero
  pub mul-zero : (a : K) → a ⊗ 𝟘 ≡ 𝟘
  mul-zero a = add_left_cancel (a ⊗ 𝟘) (simp (← mul-add, add-zero))

  -- a product of zero
  pub zero-mul : (a : K) → 𝟘 ⊗ a ≡ 𝟘
  zero-mul a = rw (mul_comm 𝟘 a) (mul-zero a)

  -- a product of one
  pub one-mul : (a : K) → 𝟙 ⊗ a ≡ a
  one-mul a = rw (mul_comm 𝟙 a) (mul-one a)

  -- products distribute over sums, from the right
  pub add-mul : (a b c : K) → (a ⊕ b) ⊗ c ≡ a ⊗ c ⊕ b ⊗ c
  add-mul a b c = rw (mul_comm (a ⊕ b) c, mul_comm a c, mul_comm b c) (mul-add c a b)

  -- a product by a negative
  pub mul-minus : (a b : K) → a ⊗ minus b ≡ minus (a ⊗ b)
  mul-minus a b = minus-unique (a ⊗ b) (a ⊗ minus b) (simp (← mul-add, add-minus, mul-zero))

  -- a product of a negative
  pub minus-mul : (a b : K) → minus a ⊗ b ≡ minus (a ⊗ b)
  minus-mul a b = rw (mul_comm (minus a) b, mul_comm a b) (mul-minus b a)

  -- cancellation at a distance, for the sorted sums that `simp` makes
  pub cancel₂ : (a b : K) → a ⊕ (b ⊕ minus a) ≡ b
  cancel₂ a b = rw (add_comm b (minus a)) (add-minus-cancel a b)

  -- over two places, with more behind
  pub cancel₂' : (a b c : K) → a ⊕ (b ⊕ (minus a ⊕ c)) ≡ b ⊕ c
  cancel₂' a b c = rw (add_left_comm b (minus a) c) (add-minus-cancel a (b ⊕ c))

  -- over three places
  pub cancel₃ : (a b c : K) → a ⊕ (b ⊕ (c ⊕ minus a)) ≡ b ⊕ c
  cancel₃ a b c = rw (add_comm c (minus a)) (cancel₂' a b c)

  -- over three places, with more behind
  pub cancel₃' : (a b c d : K) → a ⊕ (b ⊕ (c ⊕ (minus a ⊕ d))) ≡ b ⊕ (c ⊕ d)
  cancel₃' a b c d = rw (add_left_comm c (minus a) d) (cancel₂' a b (c ⊕ d))

  -- over four places
  pub cancel₄ : (a b c d : K) → a ⊕ (b ⊕ (c ⊕ (d ⊕ minus a))) ≡ b ⊕ (c ⊕ d)
  cancel₄ a b c d = rw (add_comm d (minus a)) (cancel₃' a b c d)

  -- over four places, with more behind
  pub cancel₄' : (a b c d e : K) → a ⊕ (b ⊕ (c ⊕ (d ⊕ (minus a ⊕ e)))) ≡ b ⊕ (c ⊕ (d ⊕ e))
  cancel₄' a b c d e = rw (add_left_comm d (minus a) e) (cancel₃' a b c (d ⊕ e))

  pub ruleset cancels = (
    add-minus,
    minus-add-self,
    minus-add-cancel,
    add-minus-cancel,
    cancel₂,
    cancel₂',
    cancel₃,
    cancel₃',
    cancel₄,
    cancel₄',
  )

  -- what zero and one do
  pub ruleset units = (add-zero, zero-add, mul-one, one-mul, mul-zero, zero-mul, minus-zero, minus_minus)

  -- sums sorted, and products sorted
  pub ruleset sorted+ = (add_comm, add_assoc, add_left_comm)

  pub ruleset sorted* = (mul_comm, mul_assoc, mul_left_comm)

  -- an identity of rings
  pub ruleset ring = (units, sub_def, sorted+, sorted*, mul-add, add-mul, minus-add, mul-minus, minus-mul, cancels)

  -- a less a
  pub sub_self : (a : K) → a ⊖ a ≡ 𝟘
  sub_self a = simp ring

  -- no difference, so equal
  pub equal-of-sub : {a b : K} → a ⊖ b ≡ 𝟘 → a ≡ b
  equal-of-sub {a} {b} e = let e' : a ⊖ b ⊕ b ≡ 𝟘 ⊕ b = ap (λ x. x ⊕ b) e in simp ring at e'

  -- different, so with a difference
  pub sub-ne : {a b : K} → a ≢ b → a ⊖ b ≢ 𝟘
  sub-ne h e = h (equal-of-sub e)

  -- a goal l ≡ r from a hypothesis a ≡ b: leaves l ⊕ b ≡ r ⊕ a to `simp (ring, 𝓛)`
  pub linear : {a b l r : K} → a ≡ b → l ⊕ b ≡ r ⊕ a → l ≡ r
  linear {a} {b} {l} {r} e d = add_left_cancel b (add_comm b l ∙ d ∙ ap (λ x. r ⊕ x) e ∙ add_comm r b)

  -- a product is zero only if a factor is
  pub zero-factor : (a b : K) → a ⊗ b ≡ 𝟘 → a ≢ 𝟘 → b ≡ 𝟘
  zero-factor a b e h =
      b ≡⟨ sym (one-mul b) ⟩
      𝟙 ⊗ b ≡⟨ ap (λ x. x ⊗ b) (sym (𝓛.mul-inverse a h)) ⟩
      a ⊗ inverse a ⊗ b ≡⟨ (simp sorted*) ⟩
      inverse a ⊗ (a ⊗ b) ≡⟨ ap (λ x. inverse a ⊗ x) e ⟩
      inverse a ⊗ 𝟘 ≡⟨ mul-zero (inverse a) ⟩
      𝟘 ∎

  -- a quotient times its divisor
  pub divide-back : (a b : K) → b ≢ 𝟘 → a ⊗ inverse b ⊗ b ≡ a
  divide-back a b h = linear (ap (λ x. a ⊗ x) (𝓛.mul-inverse b h)) (simp ring)

  -- symbols are told apart by their numbers
  pub number-cancel : (a b : K) → number a ≡ number b → a ≡ b
  number-cancel a b e = sym (𝓛.symbol-number a) ∙ ap symbol e ∙ 𝓛.symbol-number b

  -- the number 0 is that of zero
  pub zero-of-number : (a : K) → number a ≡ 0 → a ≡ 𝟘
  zero-of-number a e = number-cancel a 𝟘 (e ∙ sym 𝓛.number-zero)

  -- whether two symbols are equal
  pub decide : (a b : K) → Dec (a ≡ b)
  decide a b = elim (ℕ_discrete (number a) (number b)) [
    | yes e ↦ yes (number-cancel a b e)
    | no ne ↦ no (λ e. ne (ap number e))
  ]

  -- what the test `same` says
  pub same_true : (a b : K) → same 𝓢 a b ≡ true → a ≡ b
  unfolding same
  same_true a b t = number-cancel a b (eqb-true (number a) (number b) t)

  -- it fails for different symbols
  pub same_false : (a b : K) → same 𝓢 a b ≡ false → a ≢ b
  unfolding same
  same_false a b t e = eqb-false (number a) (number b) t (ap number e)

  -- and so it is true of equal symbols
  pub equal-same : (a b : K) → a ≡ b → same 𝓢 a b ≡ true
  unfolding same
  equal-same a b e = eq-eqb (number a) (number b) (ap number e)
