-- What a step does, and the state after t steps. Document 01, "The decoder's steps": the substitution in all 2q polynomials,
-- the update of each pair, the votes. Minus stands where source 000 has it; document 01 drops it, minus being plus there.
-- Assumes nothing.
use Rattle.std.specs.Prelude.{true, false, List, [], map, ℕ, zero, suc, ◌*◌, ◌-◌, eqb, ltb, pos, get_or, set, replicate}
use Rattle.algebra.specs.Symbols.{Symbols, same}
use Rattle.algebra.specs.Functions.{Fn, times_x, times_monomial}
use Rattle.lists.specs.Tables.{tab}
use Rattle.curve.specs.Codes.{nongaps}
use Rattle.published.specs.Start.{Polynomial, Polynomials, coefficient, polynomial, polynomials, start, start_weight, step_count, upper, lower, f, g}
use Rattle.published.specs.Pairing.{Pairing, pairing, vote, positive_part, negative_part}

module _ (𝓢 : Symbols) (q : ℕ) where
  infixl 65 ◌⊕◌ ◌⊖◌
  infixl 70 ◌⊗◌
  open 𝓢 use {K, 𝟘, ◌⊕◌, ◌⊖◌, ◌⊗◌, inverse, number}

  -- w times the monomial of s is added to z: that, times the upper part, goes to the lower one
  unfoldable pub substituted_part : ℕ → K → Polynomials 𝓢 q → ℕ → ℕ → Fn 𝓢 q
  substituted_part s w S p zero j i = coefficient 𝓢 q S p upper j i
  substituted_part s w S p (suc part) j i =
      coefficient 𝓢 q S p lower j i ⊕ w ⊗ times_monomial 𝓢 q s (coefficient 𝓢 q S p upper) j i

  -- so it is done to all 2q polynomials, unless w = 0
  unfoldable pub substituted : ℕ → K → Polynomials 𝓢 q → Polynomials 𝓢 q
  substituted s w S = elim (eqb (number w) 0) [ true ↦ S | false ↦ polynomials 𝓢 q (substituted_part s w S) ]

  -- x^c f_i - r·g_i'
  unfoldable pub raised_part : Polynomials 𝓢 q → ℕ → ℕ → ℕ → K → ℕ → Fn 𝓢 q
  raised_part S i partner c r part j n =
      times_x 𝓢 q c (coefficient 𝓢 q S (f q i) part) j n ⊖ r ⊗ coefficient 𝓢 q S (g q partner) part j n

  -- f_i - r·x^(-c)·g_i', where this c is -c
  unfoldable pub reduced_part : Polynomials 𝓢 q → ℕ → ℕ → ℕ → K → ℕ → Fn 𝓢 q
  reduced_part S i partner c r part j n =
      coefficient 𝓢 q S (f q i) part j n ⊖ r ⊗ times_x 𝓢 q c (coefficient 𝓢 q S (g q partner) part) j n

  -- new f_i
  unfoldable pub replaced : ℕ → Polynomial 𝓢 q → Polynomials 𝓢 q → Polynomials 𝓢 q
  replaced i new S = tab (2 * q) (λ p. elim (eqb p (f q i)) [ true ↦ new | false ↦ get_or S p [] ])

  -- new f_i, and the old f_i in the place of g_i'
  unfoldable pub exchanged : ℕ → ℕ → Polynomial 𝓢 q → Polynomials 𝓢 q → Polynomials 𝓢 q
  exchanged i partner new S =
      tab (2 * q) (λ p. elim (eqb p (f q i)) [
        | true ↦ new
        | false ↦ elim (eqb p (g q partner)) [ true ↦ get_or S (f q i) [] | false ↦ get_or S p [] ]
      ])

  -- r = μ_i(w - w_i)/ν
  unfoldable pub ratio : K → Pairing 𝓢 q → K
  ratio w P = P.μ ⊗ (w ⊖ P.w) ⊗ inverse P.ν

  -- the three cases: nothing if w_i = w; otherwise an exchange if c > 0, and a new f_i alone if c ≤ 0
  unfoldable pub changed : K → ℕ → Pairing 𝓢 q → Polynomials 𝓢 q → Polynomials 𝓢 q
  changed w i P S =
      elim (same 𝓢 P.w w) [
        | true ↦ S
        | false ↦ elim (ltb 0 (positive_part P.c)) [
          | true ↦ exchanged i P.partner (polynomial 𝓢 q (raised_part S i P.partner (positive_part P.c) (ratio w P))) S
          | false ↦ replaced i (polynomial 𝓢 q (reduced_part S i P.partner (negative_part P.c) (ratio w P))) S
        ]
      ]

  -- no pair: what stands past the q pairs
  unfoldable pub no_pair : Pairing 𝓢 q
  no_pair = record { partner = 0; k = pos 0; c = pos 0; w = 𝟘; μ = 𝟘; ν = 𝟘 }

  -- the i below n, one after the other. No two i have a polynomial in common, so the order does not matter
  unfoldable pub updated : K → List (Pairing 𝓢 q) → Polynomials 𝓢 q → ℕ → Polynomials 𝓢 q
  updated w Ps S zero = S
  updated w Ps S (suc n) = changed w n (get_or Ps n no_pair) (updated w Ps S n)

  -- the polynomials, and the vote of each weight (0 where not yet voted, and where no vote is)
  pub record State : Type 0 where
    pub polys : Polynomials 𝓢 q
    pub votes : List K

  -- the numbers of all pairs
  unfoldable pub pairings : ℕ → ℕ → Polynomials 𝓢 q → List (Pairing 𝓢 q)
  pairings u s S = tab q (pairing 𝓢 q u s S)

  -- step s
  unfoldable pub step : ℕ → ℕ → State → State
  step u s state =
      let Ps = pairings u s state.polys in
      let w = vote 𝓢 q u s Ps in
      record { polys = updated w Ps (substituted s w state.polys) q; votes = set state.votes s w }

  -- after t steps; step t + 1 is at the start weight less t
  unfoldable pub after : ℕ → List K → ℕ → State
  after u row zero = record { polys = start 𝓢 q row; votes = replicate (step_count q) 𝟘 }
  after u row (suc t) = step u (start_weight q - t) (after u row t)

  -- the message: the votes at the non-gaps up to u, the lowest first
  unfoldable pub message_of : ℕ → List K → List K
  message_of u votes = map (λ s. get_or votes s 𝟘) (nongaps q u)
