-- The two stages of encoding: the polynomials in x that stand at the powers of y are evaluated at an x, and then, at each y above
-- it, the polynomial in y that has these values.
-- Assumes nothing.
use Rattle.std.specs.Prelude.{◌≡◌, true, false, List, ℕ, ◌+◌, ◌*◌, ◌<◌, ltb, length, get_or, replicate}
use Rattle.algebra.specs.Weights.{weight}
use Rattle.algebra.specs.Functions.{Fn, value_in}
use Rattle.lists.specs.Tables.{put}
use Rattle.symbols.specs.Sizes.{most_q, most_symbols}
use Rattle.symbols.specs.Rule.{Known, Sym, symbols, number, symbol}
use Rattle.symbols.specs.Tables.{product_row, Holds}
use Rattle.curve.specs.Points.{point_at}
use Rattle.curve.specs.Ranks.{rank}

-- with the products of a, whatever they are, the value at a of the polynomial with these coefficients
abbrev pub IsValue : ℕ → List ℕ → List ℕ → ℕ → Type 0
IsValue q products coefficients value =
    (a : ℕ) (α : ℕ → Sym q) → Known q → products ≡ product_row q a → Holds q coefficients (length coefficients) α
    → value ≡ number q (value_in (symbols q) q (length coefficients) α (symbol q a))

-- the message's byte for the weight of x^i y^j, if that is below s
unfoldable pub placed : ℕ → ℕ → List ℕ → ℕ → ℕ → ℕ
placed q s message j i = elim (ltb (weight q j i) s) [ true ↦ get_or message (rank q (weight q j i)) 0 | false ↦ 0 ]

-- a byte for each power of y and x: those of the message in their places
abbrev pub IsSpread : ℕ → ℕ → List ℕ → List ℕ → Type 0
IsSpread q s message bytes = (j i : ℕ) → j < q → i < most_symbols → get_or bytes (j * most_symbols + i) 0 ≡ placed q s message j i

-- a byte for each power of y and x: the numbers of a function's coefficients
abbrev pub HoldsFunction : (q : ℕ) → Fn (symbols q) q → List ℕ → Type 0
HoldsFunction q f bytes = (j i : ℕ) → j < q → i < most_symbols → get_or bytes (j * most_symbols + i) 0 ≡ number q (f j i)

-- the value at x of the polynomial in x that stands at y^j
unfoldable pub column_number : (q : ℕ) → Fn (symbols q) q → ℕ → ℕ → ℕ → ℕ
column_number q f width x j = number q (value_in (symbols q) q width (f j) (symbol q x))

-- the values of all of them
abbrev pub IsColumn : ℕ → ℕ → ℕ → List ℕ → List ℕ → Type 0
IsColumn q width x coefficients values =
    (f : Fn (symbols q) q) → HoldsFunction q f coefficients → values ≡ put (replicate most_q 0) 0 q (column_number q f width x)

-- the value at y number b above x number a of the polynomial in y with coefficients v
unfoldable pub fibre_number : (q : ℕ) → (ℕ → Sym q) → ℕ → ℕ → ℕ
fibre_number q v a b = number q (value_in (symbols q) q q v (point_at (symbols q) q (a * q + b)).y)

-- the places of x number a hold its values
abbrev pub IsFibre : ℕ → ℕ → List ℕ → List ℕ → List ℕ → Type 0
IsFibre q a values old new = (v : ℕ → Sym q) → Holds q values q v → new ≡ put old (a * q) q (fibre_number q v a)
