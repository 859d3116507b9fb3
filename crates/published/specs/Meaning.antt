-- What the lent bytes mean after any number of steps, whatever row was received: each of the 2q polynomials is zero at every
-- point of the curve paired with the received symbol less what the votes so far give there; each has its leading term in its
-- own place under the weight then in force; the leading degrees in x add up to n; no degree in x passes q²+2q-2. It is said
-- of what a caller holds: the row, the votes and the work area, as numbers of symbols. Document 01, "The decoder's steps".
-- Assumes nothing.
use Rattle.std.specs.Prelude.{◌≡◌, ◌≢◌, ◌⊎◌, true, false, List, map, ℕ, ◌+◌, ◌*◌, ◌-◌, ◌≤◌, ◌<◌, eqb, ltb, ℤ, pos, ◌+ℤ◌, get_or, ◌<ℤ◌}
use Rattle.std.proofs.Math.IntN.{sub_ℕ}
use Rattle.algebra.specs.Symbols.{Symbols}
use Rattle.algebra.specs.Weights.{weight}
use Rattle.algebra.specs.Functions.{Fn, value_at}
use Rattle.algebra.specs.Totals.{total}
use Rattle.curve.specs.Points.{Point, point_at}
use Rattle.curve.specs.Codes.{point_count, nongaps}
use Rattle.curve.specs.Rows.{message_at}
use Rattle.published.specs.Start.{Polynomials, width, start_weight, upper, lower, f, g, h, table, start_part}
use Rattle.published.specs.Pairing.{pairing, vote, positive_part, negative_part}
use Rattle.published.specs.Steps.{substituted_part, substituted, raised_part, reduced_part, ratio}
use Rattle.published.specs.Steps.{updated, pairings, after}
use Rattle.published.specs.Picture.{place}

-- the weight in force after t steps: each takes 1 off the start weight, and the last leaves -1
unfoldable pub weight_after : ℕ → ℕ → ℤ
weight_after q t = sub_ℕ (start_weight q) t

-- a monomial of a polynomial: in the upper part (times z) or in the lower part, with its powers of y and x
pub record PartMonomial : Type 0 where
  pub part : ℕ
  pub y : ℕ
  pub x : ℕ

-- z x^i y^j
abbrev pub in_upper : ℕ → ℕ → PartMonomial
in_upper j i = record { part = upper; y = j; x = i }

-- x^i y^j
abbrev pub in_lower : ℕ → ℕ → PartMonomial
in_lower j i = record { part = lower; y = j; x = i }

-- what a monomial weighs under s: s is added in the upper part
unfoldable pub weighs : ℕ → ℤ → PartMonomial → ℤ
weighs q s m =
    elim (eqb m.part upper) [
      | true ↦ pos (weight q m.y m.x) +ℤ s
      | false ↦ pos (weight q m.y m.x)
    ]

-- m is smaller than n: it weighs less, or as much, and n is the one in the upper part
unfoldable pub Smaller : ℕ → ℤ → PartMonomial → PartMonomial → Type 0
Smaller q s m n = (weighs q s m <ℤ weighs q s n) ⊎ ((weighs q s m ≡ weighs q s n) × (m.part ≡ lower) × (n.part ≡ upper))

module _ (𝓢 : Symbols) (q : ℕ) where
  infixl 65 ◌⊕◌ ◌⊖◌
  infixl 70 ◌⊗◌
  open 𝓢 use {K, 𝟘, ◌⊕◌, ◌⊖◌, ◌⊗◌, symbol}

  -- a monomial occurs in a polynomial, given by its parts, if its coefficient is not zero
  pub record Occurs (F : ℕ → Fn 𝓢 q) (m : PartMonomial) : Type 0 where
    pub in_part : m.part ≤ lower
    pub in_row : m.y < q
    pub nonzero : F m.part m.y m.x ≢ 𝟘

  -- the leading term is the greatest monomial that occurs
  pub record Leading (s : ℤ) (F : ℕ → Fn 𝓢 q) (m : PartMonomial) : Type 0 where
    pub occurs : Occurs F m
    pub greatest : (n : PartMonomial) → Occurs F n → (n ≡ m) ⊎ Smaller q s n m

  -- the parts of polynomial p in a work area, which has places for x^0 to x^(q²+2q-2)
  unfoldable pub part_in : List ℕ → ℕ → ℕ → Fn 𝓢 q
  part_in work p part j i = elim (ltb i (width q)) [ true ↦ symbol (get_or work (place q p part j i) 0) | false ↦ 𝟘 ]

  -- the value of polynomial p at a point paired with the symbol z
  unfoldable pub value_with : List ℕ → ℕ → Point 𝓢 q → K → K
  value_with work p P z =
      let U = value_at 𝓢 q (width q) (part_in work p upper) P.x P.y in
      let L = value_at 𝓢 q (width q) (part_in work p lower) P.x P.y in
      z ⊗ U ⊕ L

  -- the received symbol at point m less what the votes, by rising non-gap, give there
  unfoldable pub unexplained : ℕ → List ℕ → List ℕ → ℕ → K
  unexplained u row votes m = symbol (get_or row m 0) ⊖ message_at 𝓢 q (nongaps q u) (map symbol votes) (point_at 𝓢 q m)

  -- a rule for the parts of a polynomial gives nothing past x^(q²+2q-2), so that the work area loses none of it
  unfoldable pub Fits : (ℕ → Fn 𝓢 q) → Type 0
  Fits F = (part j i : ℕ) → part ≤ lower → j < q → q * q + 2 * q - 2 < i → F part j i ≡ 𝟘

  -- the vote of step s on the polynomials S, and the polynomials of that step when it comes to pair i
  unfoldable pub vote_on : ℕ → ℕ → Polynomials 𝓢 q → K
  vote_on u s S = vote 𝓢 q u s (pairings 𝓢 q u s S)

  unfoldable pub reached : ℕ → ℕ → Polynomials 𝓢 q → ℕ → Polynomials 𝓢 q
  reached u s S i = updated 𝓢 q (vote_on u s S) (pairings 𝓢 q u s S) (substituted 𝓢 q s (vote_on u s S) S) i

  -- what the substitution and the two updates of step s give
  pub record StepFits (u s : ℕ) (S : Polynomials 𝓢 q) : Type 0 where
    pub substitution : (p : ℕ) → p < 2 * q → Fits (substituted_part 𝓢 q s (vote_on u s S) S p)
    pub raised : (i : ℕ) → i < q → Fits (raised_part 𝓢 q (reached u s S i) i (pairing 𝓢 q u s S i).partner
        (positive_part (pairing 𝓢 q u s S i).c) (ratio 𝓢 q (vote_on u s S) (pairing 𝓢 q u s S i)))
    pub reduced : (i : ℕ) → i < q → Fits (reduced_part 𝓢 q (reached u s S i) i (pairing 𝓢 q u s S i).partner
        (negative_part (pairing 𝓢 q u s S i).c) (ratio 𝓢 q (vote_on u s S) (pairing 𝓢 q u s S i)))

  -- no rule up to step t gave a coefficient that has no place
  pub record NothingLost (u : ℕ) (row : List K) (t : ℕ) : Type 0 where
    pub start : (p : ℕ) → p < 2 * q → Fits (start_part 𝓢 q (table 𝓢 q (h 𝓢 q row)) p)
    pub steps : (n : ℕ) → n < t → StepFits u (start_weight q - n) (after 𝓢 q u row n).polys

  -- what the votes and the work area mean after t steps on a row of the code (q, u)
  pub record Meaning (u : ℕ) (row : List ℕ) (t : ℕ) (votes work : List ℕ) : Type 0 where
    -- each of the 2q polynomials is zero at every curve point paired with the received symbol less what the votes give there
    pub zeros : (p m : ℕ) → p < 2 * q → m < point_count q → value_with work p (point_at 𝓢 q m) (unexplained u row votes m) ≡ 𝟘
    -- g_i leads with a lower monomial, f_i with an upper one, both at y^i
    pub degree_g : ℕ → ℕ
    pub degree_f : ℕ → ℕ
    pub leading_g : (i : ℕ) → i < q → Leading (weight_after q t) (part_in work (g q i)) (in_lower i (degree_g i))
    pub leading_f : (i : ℕ) → i < q → Leading (weight_after q t) (part_in work (f q i)) (in_upper i (degree_f i))
    -- the leading degrees in x add up to n
    pub degrees : total q degree_g + total q degree_f ≡ point_count q
    -- no degree in x passes q²+2q-2 in what the rules gave, from the start to this step; past it the area has no places
    pub nothing_lost : NothingLost u (map symbol row) t
