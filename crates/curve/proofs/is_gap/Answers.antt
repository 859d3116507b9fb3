-- `curve::is_gap` meets its contract. Assumes nothing.
use native.Mathlib.Omega.{arith}
use Rattle.algebra.specs.Weights.{gap}
use Rattle.symbols.proofs.Bytes.{known-high}
use Rattle.curve.proofs.Sizes.{least-small}
use Rattle.curve.proofs.is_gap.Goals as goal

pub overflow_add-result : goal.overflow_add-result
overflow_add-result c = omega (arith, known-high _ c.requires)

pub overflow_mul-result : goal.overflow_mul-result
overflow_mul-result c = rw c.remainder.ensures (omega (arith, least-small _ c.args.s c.requires))

pub returns : goal.returns
unfolding gap
returns c = rw c.remainder.ensures
