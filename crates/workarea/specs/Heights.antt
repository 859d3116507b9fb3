-- How many powers of x the upper parts of the polynomials need: kept beside the area, so that no work is done on zeros.
-- Assumes nothing.
use Rattle.std.specs.Prelude.{◌≡◌, List, ℕ, ◌+◌, ◌*◌, ◌<◌, ◌≤◌, min, max, length, get_or, set}
use Rattle.symbols.specs.Sizes.{most_polynomials}
use Rattle.symbols.specs.Rule.{symbols}
use Rattle.published.specs.Start.{Polynomials, width}
use Rattle.workarea.specs.Area.{Cells, cells_of, Becomes}

-- a height for each of the 2q polynomials, none more than the width
pub record Heights (q : ℕ) (heights : List ℕ) : Type 0 where
  pub enough : 2 * q ≤ length heights
  pub low : (p : ℕ) → p < 2 * q → get_or heights p 0 ≤ width q

-- no symbol but zero stands in an upper row from the polynomial's height on
pub record WithinHeights (q : ℕ) (heights : List ℕ) (S : Cells q) : Type 0 where
  pub above : (p r i : ℕ) → p < 2 * q → r < q → i < width q → get_or heights p 0 ≤ i → S p r i ≡ (symbols q).𝟘

-- bytes that start with the picture of S start after the code with that of T, whose upper parts these heights bound
pub record BecomesBelow (q : ℕ) (before after : List ℕ) (S T : Polynomials (symbols q) q) (heights : List ℕ) : Type 0 where
  pub becomes : Becomes q before after S T
  pub below : WithinHeights q heights (cells_of q T)

-- the heights before the first step: g_i has no upper part, and that of f_i is y^i
pub record AtStart (q : ℕ) (heights : List ℕ) : Type 0 where
  pub long : length heights ≡ most_polynomials
  pub g-none : (p : ℕ) → p < q → get_or heights p 0 ≡ 0
  pub f-one : (p : ℕ) → q ≤ p → p < 2 * q → get_or heights p 0 ≡ 1

-- the height of a sum of two upper parts with these heights: what stands past the width is not held
unfoldable pub height_of_sum : ℕ → ℕ → ℕ → ℕ
height_of_sum q a b = min (width q) (max a b)

-- the heights after polynomial f has become f - ρ·x^c·g
unfoldable pub heights_added : ℕ → ℕ → ℕ → ℕ → List ℕ → List ℕ
heights_added q f g c heights = set heights f (height_of_sum q (get_or heights f 0) (get_or heights g 0 + c))

-- the heights after f has become x^c·f - ρ·g, and g what f was
unfoldable pub heights_exchanged : ℕ → ℕ → ℕ → ℕ → List ℕ → List ℕ
heights_exchanged q f g c heights =
    set (set heights f (height_of_sum q (get_or heights f 0 + c) (get_or heights g 0))) g (get_or heights f 0)
