-- The sum is no more than the width, and what stood in the place of f was not.
-- Assumes nothing.
use native.Mathlib.Omega.{arith}
use Rattle.workarea.proofs.HeightLaws.{heights-set, sum_low}
use Rattle.heights.proofs.Low.{known_sizes}
use Rattle.heights.proofs.Heights.exchange.Goals as goal

pub overflow_add-old : goal.overflow_add-old
overflow_add-old c = omega (arith, (known_sizes _ c.args.self.now.known).narrow, c.of-old.ensures.low)

pub invariant_of-self : goal.invariant_of-self
invariant_of-self c = record {
  known = c.args.self.now.known;
  low = heights-set _ _ _ _
      (heights-set _ _ _ _ c.args.self.now.low c.requires.0 (rw c.height_of_sum-sum.ensures (sum_low _ _ _)))
      c.requires.1 c.of-old.ensures.low;
}
