-- The numbers that step s works with, for each i. Document 01, "The decoder's steps": A, i', k, D, c, b, w_i, μ_i and ν; the scores
-- and the vote. w_i has source 000's minus, which document 01 drops, minus being plus there.
-- Assumes nothing.
use Rattle.std.specs.Prelude.{Bool, true, false, cond, ◌&&◌, List, [], ◌∷◌, ℕ, zero, suc, ◌+◌, ◌*◌, ◌-◌, ◌/◌, ◌%◌, leb, ltb, eqb, ℤ, pos, negsuc, ◌-ℤ◌}
use Rattle.std.proofs.Math.IntN.{sub_ℕ}
use Rattle.algebra.specs.Symbols.{Symbols}
use Rattle.algebra.specs.Weights.{nongap}
use Rattle.published.specs.Start.{Polynomials, coefficient, width, upper, lower, f, g}

-- the degree of the polynomial whose coefficients' numbers are a 0 to a (n - 1); 0 if all are zero
unfoldable pub degree : (ℕ → ℕ) → ℕ → ℕ
degree a zero = 0
degree a (suc n) = elim (eqb (a n) 0) [ true ↦ degree a n | false ↦ n ]

-- k and c are integers; no sign is lost
unfoldable pub is_negative : ℤ → Bool
is_negative (pos n) = false
is_negative (negsuc n) = true

-- max(c, 0)
unfoldable pub positive_part : ℤ → ℕ
positive_part (pos n) = n
positive_part (negsuc n) = 0

-- max(-c, 0)
unfoldable pub negative_part : ℤ → ℕ
negative_part (pos n) = 0
negative_part (negsuc n) = suc n

-- s is at most u, and no gap
unfoldable pub is_voted : ℕ → ℕ → ℕ → Bool
is_voted q u s = leb s u && nongap q s

-- the numbers i' < q and k with total = qk + (q+1)i': i' is the remainder by q, and the quotient is k + i'
unfoldable pub partner_of : ℕ → ℕ → ℕ
partner_of q total = total % q

unfoldable pub k_of : ℕ → ℕ → ℤ
k_of q total = sub_ℕ (total / q) (total % q)

-- of the symbols from 0 to n the lowest one that no other's score passes; so 0 where every score is 0
unfoldable pub best : (ℕ → ℕ) → ℕ → ℕ
best score zero = 0
best score (suc n) = let m = best score n in cond (ltb (score m) (score (suc n))) (suc n) m

module _ (𝓢 : Symbols) (q : ℕ) where
  infixl 70 ◌⊗◌
  open 𝓢 use {K, 𝟘, 𝟙, minus, ◌⊗◌, inverse, number, symbol}

  -- the degree of the y^j polynomial in a part of polynomial p
  unfoldable pub degree_of : Polynomials 𝓢 q → ℕ → ℕ → ℕ → ℕ
  degree_of S p part j = degree (λ i. number (coefficient 𝓢 q S p part j i)) (width q)

  -- A and D
  unfoldable pub degree_f : Polynomials 𝓢 q → ℕ → ℕ
  degree_f S i = degree_of S (f q i) upper i

  unfoldable pub degree_g : Polynomials 𝓢 q → ℕ → ℕ
  degree_g S i = degree_of S (g q i) lower i

  -- the leading coefficients of f_i and g_i
  unfoldable pub lead_f : Polynomials 𝓢 q → ℕ → K
  lead_f S i = coefficient 𝓢 q S (f q i) upper i (degree_f S i)

  unfoldable pub lead_g : Polynomials 𝓢 q → ℕ → K
  lead_g S i = coefficient 𝓢 q S (g q i) lower i (degree_g S i)

  pub record Pairing : Type 0 where
    pub partner : ℕ
    pub k : ℤ
    pub c : ℤ
    pub w : K
    pub μ : K
    pub ν : K

  -- b: what f_i has below at x^k y^i'
  unfoldable pub looked : Polynomials 𝓢 q → ℕ → ℕ → ℤ → K
  looked S i partner k = coefficient 𝓢 q S (f q i) lower partner (positive_part k)

  -- w_i, the symbol that pair i names, and μ_i, its factor in r
  pub record Naming : Type 0 where
    pub w : K
    pub μ : K

  -- voted: μ_i is f_i's leading coefficient and w_i = -b/μ_i; where k < 0 they are 1 and 0
  unfoldable pub in_voted_step : ℤ → K → K → Naming
  in_voted_step k b lead =
      record {
        w = cond (is_negative k) 𝟘 (minus b ⊗ inverse lead);
        μ = cond (is_negative k) 𝟙 lead;
      }

  -- unvoted: μ_i = 1 and w_i = -b; where k < 0 they are 1 and 0
  unfoldable pub in_unvoted_step : ℤ → K → Naming
  in_unvoted_step k b = record { w = cond (is_negative k) 𝟘 (minus b); μ = 𝟙 }

  -- the numbers of i at step s
  unfoldable pub pairing : ℕ → ℕ → Polynomials 𝓢 q → ℕ → Pairing
  pairing u s S i =
      let total = q * degree_f S i + (q + 1) * i + s in
      let partner = partner_of q total in
      let k = k_of q total in
      let b = looked S i partner k in
      let named = cond (is_voted q u s) (in_voted_step k b (lead_f S i)) (in_unvoted_step k b) in
      record {
        partner = partner;
        k = k;
        c = pos (degree_g S partner) -ℤ k;
        w = named.w;
        μ = named.μ;
        ν = lead_g S partner;
      }

  -- the score of the symbol a: max(c, 0) of every pair with w_i = a, added up
  unfoldable pub score : List Pairing → ℕ → ℕ
  score [] a = 0
  score (P ∷ Ps) a = cond (eqb (number P.w) a) (positive_part P.c) 0 + score Ps a

  -- w: in a voted step the best symbol, else 0
  unfoldable pub vote : ℕ → ℕ → List Pairing → K
  vote u s Ps = cond (is_voted q u s) (symbol (best (score Ps) (q * q - 1))) 𝟘
