-- Numbers for heights: sums' heights, and lists of heights with some replaced.
-- Assumes nothing.
use mathlib.Core.Path.{◌≡◌}
use mathlib.Core.Logic.{⊎_elim}
use mathlib.Core.List.{List}
use Prim.Native.Nat.{ℕ, ◌*◌, ◌<◌, ◌≤◌}
use native.Mathlib.Omega.{arith}
use lib.ListN.{set, length-set}
use lib.Seq.{get_or-set_same, get_or-set_other}
use Rattle.lists.proofs.Numbers.{lt-or-ge, same_or_not}
use Rattle.symbols.specs.Rule.{Known}
use Rattle.published.specs.Start.{width}
use Rattle.workarea.specs.Heights.{Heights, AtStart, height_of_sum}
use Rattle.workarea.proofs.Sizes.{sizes}

-- the height of a sum is no more than the width; a place at or past it is past both parts, or past the width
pub sum_low : (q a b : ℕ) → height_of_sum q a b ≤ width q
unfolding height_of_sum
sum_low q a b = omega arith

pub sum_past : (q a b i : ℕ) → i < width q → height_of_sum q a b ≤ i → (a ≤ i) × (b ≤ i)
unfolding height_of_sum
sum_past q a b i inside past = (omega arith, omega arith)

-- a height replaced by one that is no more than the width
pub heights-set : (q : ℕ) (heights : List ℕ) (p n : ℕ) → Heights q heights → p < 2 * q → n ≤ width q → Heights q (set heights p n)
heights-set q heights p n h hp hn =
    record {
      enough = rw length-set h.enough;
      low = λ p' hp'. ⊎_elim
          (λ (e : p' ≡ p). rw (e, get_or-set_same heights p n 0 (omega (arith, h.enough))) hn)
          (λ ne. rw (get_or-set_other heights p p' n 0 ne) (h.low p' hp'))
          (same_or_not p' p);
    }

-- those before the first step are heights
pub start-many : (q : ℕ) (heights : List ℕ) → Known q → AtStart q heights → Heights q heights
start-many q heights known at =
    let s = sizes q known in
    record {
      enough = omega (arith, at.long, s.few);
      low = λ p hp. ⊎_elim
          (λ (l : p < q). omega (arith, at.g-none p l))
          (λ (l : q ≤ p). omega (arith, at.f-one p l hp, s.wide))
          (lt-or-ge p q);
    }
