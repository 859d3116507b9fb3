-- `curve::point_count` meets its contract. Assumes nothing.
use mathlib.Core.Path.{refl}
use native.Mathlib.Omega.{arith}
use Rattle.symbols.proofs.Bytes.{square-small, cube-small}
use Rattle.curve.specs.Codes.{point_count}
use Rattle.curve.proofs.point_count.Goals as goal

pub overflow_mul-result : goal.overflow_mul-result
overflow_mul-result c = omega (arith, square-small _ c.requires)

pub overflow_mul-result-2 : goal.overflow_mul-result-2
overflow_mul-result-2 c = omega (arith, cube-small _ c.requires)

pub returns : goal.returns
unfolding point_count
returns c = refl
