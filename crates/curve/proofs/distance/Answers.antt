-- `curve::distance` meets its contract: the test is that of the definition, and aq is at most u. Assumes nothing.
use mathlib.Core.Path.{sym}
use Prim.Native.Nat.{◌+◌, ◌*◌, ◌-◌, ◌/◌, ◌%◌, ◌≤◌, ◌<◌}
use native.Mathlib.Nat.{mul-le-mul_left, mod-lt, div-mul-le_self}
use native.Mathlib.Omega.{arith}
use Rattle.symbols.proofs.Bytes.{known-positive, known-high, square-small}
use Rattle.curve.proofs.Distances.{distance-far, distance-near}
use Rattle.curve.proofs.distance.Goals as goal
use Rattle.curve.proofs.distance.Goals.{After-remainder-b, Then-b-q}

-- aq is at most u, so it is below n
in_row : (c : Then-b-q) → c.quotient-a.result * c.args.q ≤ c.args.u
in_row c = rw c.quotient-a.ensures (div-mul-le_self _ _)

-- q is at most q²
square : (c : After-remainder-b) → c.args.q * 1 ≤ c.args.q * c.args.q
square c = mul-le-mul_left c.args.q (known-positive _ c.requires.0)

pub overflow_mul-q : goal.overflow_mul-q
overflow_mul-q c = omega (arith, square-small _ c.requires.0)

pub overflow_add-b : goal.overflow_add-b
overflow_add-b c =
    let less : c.args.u % c.args.q < c.args.q = mod-lt c.args.u (known-positive _ c.requires.0) in
    omega (arith, c.remainder-b.ensures, less, known-high _ c.requires.0, square-small _ c.requires.0)

pub returns-then-b-q : goal.returns-then-b-q
returns-then-b-q c =
    let far : c.args.u % c.args.q + (c.args.q * c.args.q - c.args.q) ≤ c.args.u / c.args.q = omega
    (arith, c.if-b-q.true, c.remainder-b.ensures, c.quotient-a.ensures) in
    rw (c.point_count-n.ensures, c.quotient-a.ensures) (sym (distance-far _ _ far))

pub returns-else-b-q : goal.returns-else-b-q
returns-else-b-q c =
    let near : c.args.u / c.args.q < c.args.u % c.args.q + (c.args.q * c.args.q - c.args.q) = omega
    (arith, c.if-b-q.false, c.remainder-b.ensures, c.quotient-a.ensures) in
    rw c.point_count-n.ensures (sym (distance-near _ _ near))
