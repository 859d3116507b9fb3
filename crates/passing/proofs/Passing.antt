-- The length of the row that is passed on says all of it.
-- Assumes nothing.
use mathlib.Core.Path.{◌≡◌, refl, sym, ap}
use mathlib.Core.Bool.{Bool, true, false, cond, ◌&&◌}
use mathlib.Core.List.{List, []}
use Prim.Native.Nat.{ℕ}
use lib.Dec.{leb}
use lib.ListN.{length, take}
use lib.Seq.{length-take-le}
use borrow.Author.Tests.{leb-true}
use Rattle.symbols.specs.Rule.{is_known}
use Rattle.curve.specs.Codes.{point_count}
use Rattle.passing.specs.PassOn.{first_row, passed_on}

module _ (q : ℕ) (row : List ℕ) where
  -- it is as many of the row's first symbols as it has
  first-by-length : first_row q row ≡ take (length (first_row q row)) row
  unfolding first_row
  first-by-length = go (is_known q) (leb (point_count q) (length row)) refl
    where
      go : (known enough : Bool) → leb (point_count q) (length row) ≡ enough →
          elim (known && enough) [ true ↦ take (point_count q) row | false ↦ [] ]
          ≡ take (length {A = ℕ} (elim (known && enough) [ true ↦ take (point_count q) row | false ↦ [] ])) row
      go true true e = sym (ap (λ (n : ℕ). take n row) (length-take-le (point_count q) row (leb-true (point_count q) (length row) e)))
      go true false e = refl
      go false enough e = refl

-- so a caller in C, who is told the row and the length, knows the part
pub passed-by-length : (q : ℕ) (accepted : Bool) (received corrected : List ℕ)
    → passed_on q accepted received corrected ≡ take (length (passed_on q accepted received corrected)) (cond accepted corrected received)
unfolding passed_on
passed-by-length q accepted received corrected = first-by-length q (cond accepted corrected received)
