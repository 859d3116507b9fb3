-- The hand-worked table of document 01: the entries marked P, together, as one record over the definitions.
-- Assumes nothing.
use Rattle.std.specs.Prelude.{◌≡◌, Bool, true, false, cond, ◌&&◌, ◌||◌, List, [], ◌∷◌, map, ℕ, ◌+◌, ◌*◌, ◌/◌, ◌%◌, eqb, pos, negsuc, get_or, Ok, Err}
use Rattle.algebra.specs.Weights.{x_power, y_power, gap}
use Rattle.lists.specs.Tables.{tab}
use Rattle.symbols.specs.Rule.{symbols, number, symbol}
use Rattle.refusals.specs.declared.Refusal.TheVariants.{BeyondReach}
use Rattle.curve.specs.Points.{points}
use Rattle.encoder.specs.Encoding.{row_numbers}
use Rattle.published.specs.Start.{width, table, h, start, f, g}
use Rattle.published.specs.Pairing.{Pairing, pairing, partner_of, k_of}
use Rattle.steps.specs.Stop.{state_after}
use Rattle.voting.specs.Voting.{voted}
use Rattle.decoder.specs.Decoding.{decoded}

-- ---- a polynomial written as a sum of terms with coefficient 1

pub data Term : Type 0 where
  z·x^◌y^◌ : ℕ → ℕ → Term
  x^◌y^◌ : ℕ → ℕ → Term

-- the term is the one of x^i y^j in the part
unfoldable pub is : Term → ℕ → ℕ → ℕ → Bool
is (z·x^◌y^◌ a b) part j i = eqb part 0 && (eqb b j && eqb a i)
is (x^◌y^◌ a b) part j i = eqb part 1 && (eqb b j && eqb a i)

unfoldable pub has : List Term → ℕ → ℕ → ℕ → Bool
has [] part j i = false
has (t ∷ ts) part j i = is t part j i || has ts part j i

-- its coefficients for q = 2: four rows of seven
unfoldable pub terms : List Term → List (List ℕ)
terms ts = tab 4 (λ r. tab (width 2) (λ i. cond (has ts (r / 2) (r % 2) i) 1 0))

-- ---- what the entries speak of

-- the points of q = 2, as numbers
unfoldable pub point_numbers : List (List ℕ)
point_numbers = map (λ P. number 2 P.x ∷ number 2 P.y ∷ []) (points (symbols 2) 2)

-- a monomial's powers of x and of y
unfoldable pub powers : ℕ → ℕ → List ℕ
powers q s = x_power q s ∷ y_power q s ∷ []

-- the row 1 0 0 0 0 0 0 0
abbrev pub row : List ℕ
row = 1 ∷ 0 ∷ 0 ∷ 0 ∷ 0 ∷ 0 ∷ 0 ∷ 0 ∷ []

-- polynomial p after t steps on that row, q = 2, u = 4
unfoldable pub polynomial_after : ℕ → ℕ → List (List ℕ)
polynomial_after t p = map (map (number 2)) (get_or (state_after 2 4 row t).polys p [])

-- pair 1 at step 9
unfoldable pub pair_one : Pairing (symbols 2) 2
pair_one = pairing (symbols 2) 2 4 9 (start (symbols 2) 2 (map (symbol 2) row)) 1

-- x³y+x³+y+1
abbrev pub h_terms : List Term
h_terms = x^◌y^◌ 3 1 ∷ x^◌y^◌ 3 0 ∷ x^◌y^◌ 0 1 ∷ x^◌y^◌ 0 0 ∷ []

-- ---- the table

pub record Table : Type 0 where
  -- 2·9 = 1 and 8·8 = 12 for q = 4
  pub product-2-9 : number 4 ((symbols 4).◌⊗◌ (symbol 4 2) (symbol 4 9)) ≡ 1
  pub product-8-8 : number 4 ((symbols 4).◌⊗◌ (symbol 4 8) (symbol 4 8)) ≡ 12
  -- Points, q = 2
  pub points-2 : point_numbers
      ≡ (0 ∷ 0 ∷ []) ∷ (0 ∷ 1 ∷ []) ∷ (1 ∷ 2 ∷ []) ∷ (1 ∷ 3 ∷ []) ∷ (2 ∷ 2 ∷ []) ∷ (2 ∷ 3 ∷ []) ∷ (3 ∷ 2 ∷ []) ∷ (3 ∷ 3 ∷ []) ∷ []
  -- for q = 4: 11 is no weight; 12, 15 and 45 are those of x³, y³ and x^10·y
  pub gap-11 : gap 4 11 ≡ true
  pub no-gap-12 : gap 4 12 ≡ false
  pub monomial-12 : powers 4 12 ≡ 3 ∷ 0 ∷ []
  pub no-gap-15 : gap 4 15 ≡ false
  pub monomial-15 : powers 4 15 ≡ 0 ∷ 3 ∷ []
  pub no-gap-45 : gap 4 45 ≡ false
  pub monomial-45 : powers 4 45 ≡ 10 ∷ 1 ∷ []
  -- the two messages' rows
  pub row-of-y : row_numbers 2 4 (0 ∷ 0 ∷ 1 ∷ 0 ∷ []) ≡ 0 ∷ 1 ∷ 2 ∷ 3 ∷ 2 ∷ 3 ∷ 2 ∷ 3 ∷ []
  pub row-of-1203 : row_numbers 2 4 (1 ∷ 2 ∷ 0 ∷ 3 ∷ []) ≡ 1 ∷ 1 ∷ 0 ∷ 0 ∷ 0 ∷ 0 ∷ 1 ∷ 1 ∷ []
  -- h = x³y+x³+y+1, by power of y
  pub h-is : map (map (number 2)) (table (symbols 2) 2 (h (symbols 2) 2 (map (symbol 2) row))) ≡ (1 ∷ 0 ∷ 0 ∷ 1 ∷ []) ∷ (1 ∷ 0 ∷ 0 ∷ 1 ∷ []) ∷ []
  -- the polynomials after step 9: x⁴+x and z+h for the g, xz+x⁴+x and yz for the f
  pub g0-after-9 : polynomial_after 1 (g 2 0) ≡ terms (x^◌y^◌ 4 0 ∷ x^◌y^◌ 1 0 ∷ [])
  pub g1-after-9 : polynomial_after 1 (g 2 1) ≡ terms (z·x^◌y^◌ 0 0 ∷ h_terms)
  pub f0-after-9 : polynomial_after 1 (f 2 0) ≡ terms (z·x^◌y^◌ 1 0 ∷ x^◌y^◌ 4 0 ∷ x^◌y^◌ 1 0 ∷ [])
  pub f1-after-9 : polynomial_after 1 (f 2 1) ≡ terms (z·x^◌y^◌ 0 1 ∷ [])
  -- there i = 1 had i' = 0, k = 6, c = -2
  pub partner-at-9 : pair_one.partner ≡ 0
  pub k-at-9 : pair_one.k ≡ pos 6
  pub c-at-9 : pair_one.c ≡ negsuc 1
  -- xz and yz for the f after step 6
  pub f0-after-6 : polynomial_after 4 (f 2 0) ≡ terms (z·x^◌y^◌ 1 0 ∷ [])
  pub f1-after-6 : polynomial_after 4 (f 2 1) ≡ terms (z·x^◌y^◌ 0 1 ∷ [])
  -- Weight 1, i = 0, A = 0: i' = 1, k = -1
  pub partner-of-weight-1 : partner_of 2 (2 * 0 + 3 * 0 + 1) ≡ 1
  pub k-of-weight-1 : k_of 2 (2 * 0 + 3 * 0 + 1) ≡ negsuc 0
  -- Row 1 1 1 1 1 1 1 0: accepted, 1 0 0 0, count 1
  pub accepted-with : decoded 2 4 (1 ∷ 1 ∷ 1 ∷ 1 ∷ 1 ∷ 1 ∷ 1 ∷ 0 ∷ []) ≡ Ok 1
  pub accepted-as : voted 2 4 (1 ∷ 1 ∷ 1 ∷ 1 ∷ 1 ∷ 1 ∷ 1 ∷ 0 ∷ []) ≡ 1 ∷ 0 ∷ 0 ∷ 0 ∷ []
  -- Row 1 1 0 0 0 0 0 0: refused 8
  pub refused : decoded 2 4 (1 ∷ 1 ∷ 0 ∷ 0 ∷ 0 ∷ 0 ∷ 0 ∷ 0 ∷ []) ≡ Err BeyondReach
