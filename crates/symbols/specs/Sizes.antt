-- The largest q, and the sizes that follow from it: of the arrays and tables in the code, and of the numbers in a step. The code has
-- the same in symbols/src/sizes.rt; a proof fails where the two differ.
-- Assumes nothing.
use Rattle.std.specs.Prelude.{ℕ, ◌+◌, ◌*◌, ◌-◌}

abbrev pub most_q : ℕ
most_q = 4

-- symbols, which number the places of a row of products
abbrev pub most_symbols : ℕ
most_symbols = most_q * most_q

-- a row of products for each symbol
abbrev pub table_size : ℕ
table_size = most_symbols * most_symbols

-- points of the curve
abbrev pub most_points : ℕ
most_points = most_q * most_symbols

-- polynomials in the work area, and rows of each
abbrev pub most_polynomials : ℕ
most_polynomials = 2 * most_q

-- powers of x in such a row
abbrev pub most_width : ℕ
most_width = most_symbols + 2 * most_q - 1

-- bytes of the work area
abbrev pub most_area : ℕ
most_area = most_polynomials * most_polynomials * most_width

-- what the parts of a step allow: weights, of which the first step's is below twice the points; degrees, also negative ones and sums
-- of weights; and differences of two degrees
abbrev pub most_weight : ℕ
most_weight = 2 * most_points

abbrev pub most_degree : ℕ
most_degree = most_symbols * most_points

abbrev pub most_shift : ℕ
most_shift = 2 * most_degree
