-- `evaluation::value_in` meets its contract. The loop's invariant: the value of the coefficients passed. Assumes nothing.
use mathlib.Core.Path.{◌≡◌}
use lib.ListN.{length, take}
use Rattle.evaluation.proofs.Horner.{IsPart}
use Rattle.evaluation.proofs.value_in.Given as goal

abbrev pub invariant-loop-coefficient : goal.invariant-loop-coefficient
invariant-loop-coefficient l =
    let rest = l.coefficient-iterator.iter.rest.now in
    (rest ≡ take (length rest) l.coefficients) × IsPart l.q l.products l.coefficients (length rest) l.value
