-- The number of a row among all rows is small.
-- Assumes nothing.
use native.Mathlib.Omega.{arith}
use Rattle.workarea.proofs.Sizes.{sizes, row_number-below}
use Rattle.workarea.proofs.area.row_place.Goals as goal

pub overflow_mul-result-2 : goal.overflow_mul-result-2
overflow_mul-result-2 c = omega (arith, row_number-below _ _ _ (sizes _ c.requires.known).few c.requires.p_bound.0 c.requires.p_bound.1)

pub overflow_add-result : goal.overflow_add-result
overflow_add-result c = omega (arith, row_number-below _ _ _ (sizes _ c.requires.known).few c.requires.p_bound.0 c.requires.p_bound.1)
