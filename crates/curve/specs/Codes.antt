-- The codes: q and u, how long messages and rows are, the distance and the reach. Document 01, "Fields and curve"; the distance
-- is that of Wish 2.
-- Assumes nothing.
use Rattle.std.specs.Prelude.{Bool, cond, ◌&&◌, List, ℕ, ◌+◌, ◌*◌, ◌-◌, ◌/◌, ◌%◌, leb, ltb, length}
use Rattle.algebra.specs.Weights.{nongap}
use Rattle.lists.specs.Tables.{tab, keep}

-- n, how many points there are
unfoldable pub point_count : ℕ → ℕ
point_count q = q * q * q

-- whether u names a code: from q to n - 1 and no gap
unfoldable pub is_code : ℕ → ℕ → Bool
is_code q u = leb q u && (ltb u (point_count q) && nongap q u)

-- the non-gaps from 0 to u, rising
unfoldable pub nongaps : ℕ → ℕ → List ℕ
nongaps q u = keep (nongap q) (tab (u + 1) (λ s. s))

-- k, how many there are
unfoldable pub dimension : ℕ → ℕ → ℕ
dimension q u = length (nongaps q u)

-- the distance (source 000, proposition 14), with u = aq + b and b below q: n - aq where b ≤ a - (q² - q), and n - u where not; the
-- test has q² - q on the left, since a may be less than that
unfoldable pub distance : ℕ → ℕ → ℕ
distance q u =
    let a = u / q in
    let b = u % q in
    cond (leb (b + (q * q - q)) a) (point_count q - a * q) (point_count q - u)

-- τ, the reach: half of the distance less one, rounded down
unfoldable pub reach : ℕ → ℕ → ℕ
reach q u = (distance q u - 1) / 2

-- a code as contracts see it: its q and u, how many symbols a row and a message have, and its reach
pub record Code : Type 0 where
  pub q : ℕ
  pub u : ℕ
  pub n : ℕ
  pub k : ℕ
  pub reach : ℕ
