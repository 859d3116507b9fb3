-- `curve::monomial_of` meets its contract. Assumes nothing.
use native.Mathlib.Omega.{arith}
use Rattle.std.proofs.Math.Nat.{lt_of_not-le}
use borrow.Author.Tests.{lt-ltb, le-ltb}
use Rattle.algebra.specs.Weights.{gap, x_power, y_power}
use Rattle.symbols.proofs.Bytes.{known-high}
use Rattle.curve.specs.Answers.{monomial_of}
use Rattle.curve.proofs.Sizes.{least-small}
use Rattle.curve.proofs.monomial_of.Goals as goal

pub overflow_add-q : goal.overflow_add-q
overflow_add-q c = omega (arith, known-high _ c.requires)

pub overflow_mul-q : goal.overflow_mul-q
overflow_mul-q c = rw c.remainder-y.ensures (omega (arith, least-small _ c.args.s c.requires))

pub returns-in_err-rest : goal.returns-in_err-rest
unfolding monomial_of gap
returns-in_err-rest c =
    let beyond = rw c.remainder-y.ensures at (c.in_err-rest.ensures) in
    rw (c.from_residual.ensures, lt-ltb _ _ (lt_of_not-le beyond), monomial_of)

pub returns : goal.returns
unfolding monomial_of gap x_power y_power
returns c =
    let within = rw c.remainder-y.ensures at (c.in_ok-rest.ensures) in
    rw (le-ltb _ _ within.0, monomial_of, c.quotient.ensures, within.1, c.remainder-y.ensures)
