-- Bounds on the weights of a function, and its coefficient at a weight: what becomes of them in sums and in products by x,
-- by y and by the monomial of a weight.
use mathlib.Core.Path.{◌≡◌, refl, sym, ap, ◌∙◌}
use mathlib.Core.Bool.{true}
use Prim.Native.Nat.{ℕ, zero, suc, ◌+◌, ◌*◌, ◌-◌, ◌≤◌, ◌<◌}
use native.Mathlib.Omega.{arith}
use native.Mathlib.Decide.{dec_le, dec_lt, ℕ_discrete}
use Rattle.algebra.specs.Symbols.{Symbols, Laws}
use Rattle.algebra.specs.Weights.{weight, nongap, x_power, y_power}
use Rattle.algebra.specs.Functions.{Fn, shift, times_x, times_y, times_ys, times_monomial}
use Rattle.algebra.proofs.Ring.{ring, units}
use Rattle.algebra.proofs.Powers.{two-le-q}
use Rattle.algebra.proofs.Polynomials.{shift-add, shift_zero, shift_none}
use Rattle.algebra.proofs.WeightLaws.{weight-x, weight-y, weight-wrap, weight-row-strict, weight-mono, weight-row-mono, weight-wide, weight-inj, powers-weigh}

module _ (𝓢 : Symbols) (q : ℕ) where
  infixl 65 ◌⊕◌ ◌⊖◌
  infixl 70 ◌⊗◌
  open 𝓢 use {K, 𝟘, ◌⊕◌, ◌⊖◌, ◌⊗◌}

  -- the same function: only the rows below q count
  abbrev pub Agree : Fn 𝓢 q → Fn 𝓢 q → Type 0
  Agree a b = (j i : ℕ) → j < q → a j i ≡ b j i

  -- every coefficient whose weight plus m is above n is zero
  pub record Cut (n m : ℕ) (a : Fn 𝓢 q) : Type 0 where
    pub off : (j i : ℕ) → j < q → n < weight q j i + m → a j i ≡ 𝟘

  -- the coefficient at the weight w is c
  pub record Lead (w : ℕ) (c : K) (a : Fn 𝓢 q) : Type 0 where
    pub j : ℕ
    pub i : ℕ
    pub small : j < q
    pub weighs : weight q j i ≡ w
    pub coefficient : a j i ≡ c

  -- a + c b, the one operation on functions
  unfoldable pub plus : K → Fn 𝓢 q → Fn 𝓢 q → Fn 𝓢 q
  plus c a b j i = a j i ⊕ c ⊗ b j i

  -- its coefficients
  pub plus-at : (c : K) (a b : Fn 𝓢 q) (j i : ℕ) → plus c a b j i ≡ a j i ⊕ c ⊗ b j i
  unfolding plus
  plus-at c a b j i = refl

  -- y times a function, row by row
  pub times_y-zero : (f : Fn 𝓢 q) (i : ℕ) → times_y 𝓢 q f 0 i ≡ shift 𝓢 q (q + 1) (f (q - 1)) i
  unfolding times_y
  times_y-zero f i = refl

  -- row 1 loses what y^q takes away
  pub times_y-one : (f : Fn 𝓢 q) (i : ℕ) → times_y 𝓢 q f 1 i ≡ f 0 i ⊖ f (q - 1) i
  unfolding times_y
  times_y-one f i = refl

  -- the other rows move up by one
  pub times_y-more : (f : Fn 𝓢 q) (j i : ℕ) → times_y 𝓢 q f (suc (suc j)) i ≡ f (suc j) i
  unfolding times_y
  times_y-more f j i = refl

  -- a weaker bound
  pub cut-le : {n m n' m' : ℕ} {a : Fn 𝓢 q} → n + m' ≤ n' + m → Cut n m a → Cut n' m' a
  cut-le l h = record { off = λ j i hj l'. h.off j i hj (omega arith) }

  -- a bound by one weight less, if the coefficient at that weight is zero
  pub cut_at : {n : ℕ} {a : Fn 𝓢 q} → Cut n 0 a → ((j i : ℕ) → j < q → weight q j i ≡ n → a j i ≡ 𝟘) → Cut n 1 a
  cut_at {n} h z = record {
    off = λ j i hj l. elim (ℕ_discrete (weight q j i) n) [ yes e ↦ z j i hj e | no ne ↦ h.off j i hj (omega arith) ];
  }

  -- equal functions have the same bounds
  pub cut-cong : {n m : ℕ} {a b : Fn 𝓢 q} → Agree a b → Cut n m a → Cut n m b
  cut-cong e h = record { off = λ j i hj l. sym (e j i hj) ∙ h.off j i hj l }

  -- a bound below qW leaves nothing from x^W on
  pub cut-width : {n : ℕ} {a : Fn 𝓢 q} (W : ℕ) → Cut n 0 a → n < q * W → (j i : ℕ) → j < q → W ≤ i → a j i ≡ 𝟘
  cut-width W h l j i hj hi = h.off j i hj (omega (arith, weight-wide q j hi))

  -- powers of x below W bound the weights by that of x^(W-1) y^(q-1)
  pub cut-degree : {a : Fn 𝓢 q} (W : ℕ) → ((j i : ℕ) → j < q → W ≤ i → a j i ≡ 𝟘) → Cut (weight q (q - 1) (W - 1)) 0 a
  cut-degree W h = record {
    off = λ j i hj l. elim (dec_le W i) [
      | yes le ↦ h j i hj le
      | no lt ↦ let row = weight-row-mono q {j = j} {j' = q - 1} i (omega arith) in
          absurd (omega (arith, row, weight-mono q (q - 1) {i = i} {i' = W - 1} (omega arith)))
    ];
  }

  -- x^c raises a bound by q c
  pub cut-x : {n m : ℕ} (c : ℕ) {a : Fn 𝓢 q} → Cut n m a → Cut (n + q * c) m (times_x 𝓢 q c a)
  unfolding times_x
  cut-x {n} c {a} h = record {
    off = λ j i hj l. shift_none 𝓢 q c (a j) i (λ k e. h.off j k hj (omega (arith, weight-x q j c k, rw e at l)));
  }

  -- the coefficients of x^c a are those of a, c places on
  pub x-at : (c : ℕ) (a : Fn 𝓢 q) (j i : ℕ) → times_x 𝓢 q c a j (c + i) ≡ a j i
  unfolding times_x
  x-at c a j i = shift-add 𝓢 q c (a j) i

  -- x^0 changes nothing
  pub x-zero : (a : Fn 𝓢 q) (j i : ℕ) → times_x 𝓢 q 0 a j i ≡ a j i
  unfolding times_x
  x-zero a j i = shift_zero 𝓢 q (a j) i

  -- the coefficient at a weight goes with the product by x^c
  pub lead-x : {w : ℕ} {e : K} (c : ℕ) {a : Fn 𝓢 q} → Lead w e a → Lead (w + q * c) e (times_x 𝓢 q c a)
  lead-x c {a} l = record {
    j = l.j;
    i = c + l.i;
    small = l.small;
    weighs = omega (arith, l.weighs, weight-x q l.j c l.i);
    coefficient = x-at c a l.j l.i ∙ l.coefficient;
  }

  -- the coefficient at a weight, at the place that has this weight
  pub lead-at : {w : ℕ} {c : K} {a : Fn 𝓢 q} (j i : ℕ) → j < q → weight q j i ≡ w → Lead w c a → a j i ≡ c
  lead-at {a = a} j i hj e l =
      let same = weight-inj q j i l.j l.i hj l.small (e ∙ sym l.weighs) in
      rw (same.0, same.1) l.coefficient

module _ {𝓢 : Symbols} {q : ℕ} (𝓛 : Laws 𝓢 q) where
  infixl 65 ◌⊖◌
  infixl 70 ◌⊗◌
  open 𝓢 use {K, 𝟘, ◌⊖◌, minus, ◌⊗◌}

  -- where b is zero the sum a + c b is a
  pub plus-left : (c : K) (a b : Fn 𝓢 q) (j i : ℕ) → b j i ≡ 𝟘 → plus 𝓢 q c a b j i ≡ a j i
  plus-left c a b j i h = plus-at 𝓢 q c a b j i ∙ simp (h, units, 𝓛)

  -- a - c b, in this form
  pub plus-minus : (c : K) (a b : Fn 𝓢 q) (j i : ℕ) → plus 𝓢 q (minus c) a b j i ≡ a j i ⊖ c ⊗ b j i
  plus-minus c a b j i = plus-at 𝓢 q (minus c) a b j i ∙ simp (ring, 𝓛)

  -- a bound of a and of b is one of a + c b
  pub cut-plus : {n m : ℕ} (c : K) {a b : Fn 𝓢 q} → Cut 𝓢 q n m a → Cut 𝓢 q n m b → Cut 𝓢 q n m (plus 𝓢 q c a b)
  cut-plus c {a} {b} ha hb = record { off = λ j i hj h. plus-left c a b j i (hb.off j i hj h) ∙ ha.off j i hj h }

  -- y raises a bound by q + 1
  pub cut-y : {n m : ℕ} {a : Fn 𝓢 q} → Cut 𝓢 q n m a → Cut 𝓢 q (n + (q + 1)) m (times_y 𝓢 q a)
  cut-y {n} {m} {a} h = record { off = go }
    where
      go : (j i : ℕ) → j < q → n + (q + 1) < weight q j i + m → times_y 𝓢 q a j i ≡ 𝟘
      go zero i hj l =
          times_y-zero 𝓢 q a i ∙ shift_none 𝓢 q (q + 1) (a (q - 1)) i (λ k e.
          h.off (q - 1) k (omega arith) (omega (arith, weight-wrap q k hj, rw e at l)))
      go (suc zero) i hj l =
          let w = weight-y q 0 i in
          let last = weight-row-strict q {j = 0} {j' = q - 1} i (omega arith) in
          times_y-one 𝓢 q a i
          ∙ simp (h.off 0 i (omega arith) (omega arith), h.off (q - 1) i (omega arith) (omega arith), ring, 𝓛)
      go (suc (suc j)) i hj l = times_y-more 𝓢 q a j i ∙ h.off (suc j) i (omega arith) (omega (arith, weight-y q (suc j) i))

  -- the coefficient at the largest weight goes with the product by y
  pub lead_y : {w : ℕ} {c : K} {a : Fn 𝓢 q} → Cut 𝓢 q w 0 a → Lead 𝓢 q w c a → Lead 𝓢 q (w + (q + 1)) c (times_y 𝓢 q a)
  lead_y {w} {c} {a} h l = go l.j l.i l.small l.weighs l.coefficient
    where
      two : 2 ≤ q
      two = two-le-q 𝓛

      go : (j i : ℕ) → j < q → weight q j i ≡ w → a j i ≡ c → Lead 𝓢 q (w + (q + 1)) c (times_y 𝓢 q a)
      go zero i hj hw hc =
          let last = weight-row-strict q {j = 0} {j' = q - 1} i (omega (arith, two)) in
          record {
            j = 1;
            i = i;
            small = two;
            weighs = omega (arith, weight-y q 0 i);
            coefficient = times_y-one 𝓢 q a i ∙ simp (h.off (q - 1) i (omega arith) (omega arith), ring, hc, 𝓛);
          }
      go (suc j) i hj hw hc = elim (dec_lt (suc (suc j)) q) [
        | yes l ↦ record {
          j = suc (suc j);
          i = i;
          small = l;
          weighs = omega (arith, weight-y q (suc j) i);
          coefficient = times_y-more 𝓢 q a j i ∙ hc;
        }
        | no l ↦ let e : q - 1 ≡ suc j = omega arith in record {
          j = 0;
          i = q + 1 + i;
          small = omega arith;
          weighs = omega (arith, weight-wrap q i (omega arith), ap (λ n. weight q n i) e);
          coefficient = times_y-zero 𝓢 q a (q + 1 + i) ∙ shift-add 𝓢 q (q + 1) (a (q - 1)) i ∙ ap (λ n. a n i) e ∙ hc;
        }
      ]

  -- y^b raises a bound by (q + 1) b
  pub cut-ys : (b : ℕ) {n m : ℕ} {a : Fn 𝓢 q} → Cut 𝓢 q n m a → Cut 𝓢 q (n + (q + 1) * b) m (times_ys 𝓢 q b a)
  unfolding times_ys
  cut-ys zero h = cut-le 𝓢 q (omega arith) h
  cut-ys (suc b) h = cut-le 𝓢 q (omega arith) (cut-y (cut-ys b h))

  -- and takes the coefficient at the largest weight along
  pub lead-ys : (b : ℕ) {w : ℕ} {c : K} {a : Fn 𝓢 q} → Cut 𝓢 q w 0 a → Lead 𝓢 q w c a
      → Lead 𝓢 q (w + (q + 1) * b) c (times_ys 𝓢 q b a)
  unfolding times_ys
  lead-ys zero {w} h l = let e : w + (q + 1) * 0 ≡ w = omega arith in rw e l
  lead-ys (suc b) {w} h l =
      let e : w + (q + 1) * suc b ≡ w + (q + 1) * b + (q + 1) = omega arith in
      rw e (lead_y (cut-ys b h) (lead-ys b h l))

  -- the weight of a product by the monomial of s is s more
  module _ (s : ℕ) (t : nongap q s ≡ true) where
    -- it raises a bound by s
    pub cut-monomial : {n m : ℕ} {a : Fn 𝓢 q} → Cut 𝓢 q n m a → Cut 𝓢 q (n + s) m (times_monomial 𝓢 q s a)
    unfolding times_monomial
    cut-monomial h =
        let e = powers-weigh q s (omega (arith, two-le-q 𝓛)) t in
        cut-le 𝓢 q (omega arith) (cut-x 𝓢 q (x_power q s) (cut-ys (y_power q s) h))

    -- and takes the coefficient at the largest weight along
    pub lead-monomial : {w : ℕ} {c : K} {a : Fn 𝓢 q} → Cut 𝓢 q w 0 a → Lead 𝓢 q w c a
        → Lead 𝓢 q (w + s) c (times_monomial 𝓢 q s a)
    unfolding times_monomial
    lead-monomial {w} h l =
        let both = powers-weigh q s (omega (arith, two-le-q 𝓛)) t in
        let e : w + s ≡ w + (q + 1) * y_power q s + q * x_power q s = omega arith in
        rw e (lead-x 𝓢 q (x_power q s) (lead-ys (y_power q s) h l))
