-- The partner of i at step s: i' = (i + s) mod q. Going from i to i' is a permutation of the rows; and with q t + i' = i + s
-- the monomials of weight s more than x^a y^i stand at k + i' = a + i + t, with no gap, integer or division.
use mathlib.Core.Path.{◌≡◌, sym, ap, ◌∙◌}
use mathlib.Core.Bool.{true}
use Prim.Native.Nat.{ℕ, zero, suc, ◌+◌, ◌*◌, ◌-◌, ◌/◌, ◌%◌, ◌≤◌, ◌<◌}
use native.Mathlib.Nat as Nat
use native.Mathlib.Omega.{arith}
use Rattle.algebra.specs.Weights.{weight, nongap}
use Rattle.algebra.proofs.NumberSums.{total, total-permuted}
use Rattle.algebra.proofs.WeightLaws.{weight-rows, weight-mod, weight-x, x_power-rows, nongap-weight, nongap-add}

-- the partner of i at step s
unfoldable pub partner : ℕ → ℕ → ℕ → ℕ
partner q s i = (i + s) % q

-- whose partner j is
unfoldable pub partner_back : ℕ → ℕ → ℕ → ℕ
partner_back q s j = (j + s * (q - 1)) % q

-- s and s (q - 1) are together a multiple of q
there_and_back : (q s : ℕ) → 0 < q → s * (q - 1) + s ≡ q * s
there_and_back zero s h = absurd (omega arith)
there_and_back (suc r) s h = let e : suc r - 1 ≡ r = omega arith in rw e (omega arith)

module _ (q : ℕ) where
  -- a partner is a row
  pub partner-below : (s i : ℕ) → 0 < q → partner q s i < q
  unfolding partner
  partner-below s i h = Nat.mod-lt (i + s) h

  -- and so is the way back
  pub partner_back-below : (s j : ℕ) → 0 < q → partner_back q s j < q
  unfolding partner_back
  partner_back-below s j h = Nat.mod-lt (j + s * (q - 1)) h

  -- back and forth
  pub partner-partner_back : (s j : ℕ) → j < q → partner q s (partner_back q s j) ≡ j
  unfolding partner partner_back
  partner-partner_back s j h =
      let e : j + s * (q - 1) + s ≡ j + q * s = omega (arith, there_and_back q s (omega arith)) in
      Nat.mod-add-mod (j + s * (q - 1)) q s ∙ ap (λ n. n % q) e ∙ Nat.add-mul-mod_self_left j q s ∙ Nat.mod-eq_of_lt h

  -- forth and back
  pub partner_back-partner : (s i : ℕ) → i < q → partner_back q s (partner q s i) ≡ i
  unfolding partner partner_back
  partner_back-partner s i h =
      let e : i + s + s * (q - 1) ≡ i + q * s = omega (arith, there_and_back q s (omega arith)) in
      Nat.mod-add-mod (i + s) q (s * (q - 1)) ∙ ap (λ n. n % q) e ∙ Nat.add-mul-mod_self_left i q s ∙ Nat.mod-eq_of_lt h

  -- different rows have different partners
  pub partner-inj : (s i i' : ℕ) → i < q → i' < q → partner q s i ≡ partner q s i' → i ≡ i'
  partner-inj s i i' h h' e = sym (partner_back-partner s i h) ∙ ap (partner_back q s) e ∙ partner_back-partner s i' h'

  -- a sum over all partners is a sum over all rows
  pub total-partner : (s : ℕ) (f : ℕ → ℕ) → 0 < q → total q (λ i. f (partner q s i)) ≡ total q f
  total-partner s f pos =
      total-permuted q f (partner q s) (partner_back q s) (λ i hi. partner-below s i pos) (λ j hj. partner_back-below s j pos)
      (partner_back-partner s) (partner-partner_back s)

  -- j is the partner of i
  pub record Paired (s i j : ℕ) : Type 0 where
    pub t : ℕ
    pub small : i < q
    pub small' : j < q
    pub rows : i + s ≡ q * t + j

  -- every row has its partner
  pub paired : (s i : ℕ) → i < q → Paired s i (partner q s i)
  unfolding partner
  paired s i h = record {
    t = (i + s) / q;
    small = h;
    small' = Nat.mod-lt (i + s) (omega arith);
    rows = sym (Nat.div-add-mod (i + s) q);
  }

  -- x^c times x^k y^j has the weight that x^e times x^D y^j has, if c + k = e + D; so s more than x^c times x^A y^i
  pub pair-balance : (s i A j k c e D : ℕ) → weight q i A + s ≡ weight q j k → c + k ≡ e + D
      → weight q i (c + A) + s ≡ weight q j D + q * e
  pair-balance s i A j k c e D pair even =
      omega (arith, weight-x q j e D, weight-x q i c A, weight-x q j c k, ap (weight q j) even)

  module _ {s i j : ℕ} (P : Paired s i j) where
    -- the weight of x^a y^i and s, by rows
    pair-total : (a : ℕ) → weight q i a + s ≡ q * (a + i + P.t) + j
    pair-total a = omega (arith, P.rows, weight-rows q i a)

    -- what the steps compute from the weight of x^a y^i and s: its remainder is j, its quotient is k + j
    pub pair-remainder : (a : ℕ) → (weight q i a + s) % q ≡ j
    pair-remainder a = rw (pair-total a, Nat.mul-add-mod_self_left) (Nat.mod-eq_of_lt P.small')

    -- the quotient
    pub pair-quotient : (a : ℕ) → (weight q i a + s) / q ≡ a + i + P.t
    pair-quotient a =
        ap (λ n. n / q) (pair-total a) ∙ Nat.mul-add-div (omega (arith, P.small)) (a + i + P.t) j
        ∙ ap (λ n. a + i + P.t + n) (Nat.div-eq_of_lt P.small') ∙ Nat.add-zero (a + i + P.t)

    -- x^k y^j is the monomial of weight s more than x^a y^i
    pub pair-weight : (a k : ℕ) → k + j ≡ a + i + P.t → weight q i a + s ≡ weight q j k
    pair-weight a k e = pair-total a ∙ ap (λ n. q * n + j) (sym e) ∙ sym (weight-rows q j k)

    -- and every monomial of that weight in row j stands there
    pub pair_place : (a k : ℕ) → weight q i a + s ≡ weight q j k → k + j ≡ a + i + P.t
    pair_place a k e =
        let rows : q * (k + j) ≡ q * (a + i + P.t) = omega (arith, pair-total a, weight-rows q j k) in
        Nat.eq_of_mul-eq-mul_left q (omega (arith, P.small)) (k + j) (a + i + P.t) rows

    -- no other row than j has a monomial of such a weight
    pub pair_row : (a j' k : ℕ) → j' < q → weight q j' k ≡ weight q i a + s → j' ≡ j
    pair_row a j' k h e = sym (weight-mod q j' k h) ∙ ap (λ n. n % q) e ∙ pair-remainder a

    -- if s is no gap there is such a monomial: two non-gaps add up to a non-gap
    pub pair-nonnegative : nongap q s ≡ true → (a : ℕ) → j ≤ a + i + P.t
    pair-nonnegative h a =
        let pos : 0 < q = omega (arith, P.small) in
        let both = nongap-add q (weight q i a) s pos (nongap-weight q i a P.small) h in
        omega (arith, x_power-rows q (weight q i a + s) pos both, pair-remainder a, pair-quotient a)
