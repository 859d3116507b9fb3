-- How large the numbers of a known q are: what the code's sums and products need so as to fit.
-- Assumes nothing.
use mathlib.Core.Path.{◌≡◌, sym, subst}
use mathlib.Core.Logic.{⊎_elim}
use Prim.Native.Nat.{ℕ, ◌+◌, ◌*◌, ◌<◌, ◌≤◌}
use native.Mathlib.Nat.{mul-le-mul}
use native.Mathlib.Omega.{arith}
use Rattle.lists.proofs.Grid.{row_within}
use Rattle.symbols.specs.Sizes.{most_q, most_symbols, most_points, most_polynomials, most_width, most_area, most_weight}
use Rattle.symbols.specs.Rule.{Known}
use Rattle.published.specs.Start.{width, start_weight}
use Rattle.published.specs.Picture.{area_size}
use Rattle.workarea.specs.Area.{Area, row_place}
use Rattle.workarea.proofs.Cells.{size_is}

pub record Sizes (q : ℕ) : Type 0 where
  pub some : 2 ≤ q
  pub few : q ≤ most_q
  pub square-some : 4 ≤ q * q
  pub square-few : q * q ≤ most_symbols
  pub cube-some : 8 ≤ q * q * q
  pub cube-few : q * q * q ≤ most_points
  pub wide : q * q < width q
  pub narrow : width q ≤ most_width
  pub area : area_size q ≤ most_area
  pub start : start_weight q ≤ most_weight

-- the sizes of both q
pub sizes : (q : ℕ) → Known q → Sizes q
unfolding Known width area_size start_weight
sizes q =
    ⊎_elim
    (λ (e : q ≡ 2). subst Sizes (sym e) (record { some = omega arith; few = omega arith; square-some = omega arith; square-few = omega arith; cube-some = omega arith; cube-few = omega arith; wide = omega arith; narrow = omega arith; area = omega arith; start = omega arith }))
    (λ (e : q ≡ 4). subst Sizes (sym e) (record { some = omega arith; few = omega arith; square-some = omega arith; square-few = omega arith; cube-some = omega arith; cube-few = omega arith; wide = omega arith; narrow = omega arith; area = omega arith; start = omega arith }))

-- the area's numbers, where there is room for it
pub area_of : {q n : ℕ} → Known q → area_size q ≤ n → Area q n
area_of {q} known room =
    let s = sizes q known in
    record { known = known; some = s.some; few = s.few; square = s.wide; narrow = s.narrow; room = room }

-- the places of a row are below the largest area
pub row_small : (q p r : ℕ) → Known q → p < 2 * q → r < 2 * q → row_place q p r + width q ≤ most_area
unfolding row_place
row_small q p r known hp hr = omega (arith, (sizes q known).area, size_is q, row_within (2 * q) (2 * q) (width q) p r hp hr)

-- the number of a row among all rows is small
pub row_number-below : (q p r : ℕ) → q ≤ most_q → p < 2 * q → r < 2 * q → p * (2 * q) + r ≤ most_polynomials * most_polynomials + most_polynomials
row_number-below q p r few hp hr = omega (arith, mul-le-mul {n₁ = p} {m₁ = 2 * q} {n₂ = most_polynomials} {m₂ = most_polynomials} (omega arith) (omega arith))
