-- The sum is no more than the width.
-- Assumes nothing.
use native.Mathlib.Omega.{arith}
use Rattle.workarea.proofs.HeightLaws.{heights-set, sum_low}
use Rattle.heights.proofs.Low.{known_sizes}
use Rattle.heights.proofs.Heights.add.Goals as goal

pub overflow_add-of : goal.overflow_add-of
overflow_add-of c = omega (arith, (known_sizes _ c.args.self.now.known).narrow, c.of-2.ensures.low)

pub invariant_of-self : goal.invariant_of-self
invariant_of-self c = record {
  known = c.args.self.now.known;
  low = heights-set _ _ _ _ c.args.self.now.low c.requires.0 (rw c.height_of_sum-sum.ensures (sum_low _ _ _));
}
