-- `ordinates::norm` meets its contract: the goals that the check leaves open. Assumes nothing.
use mathlib.Core.Path.{sym, ap, ◌∙◌}
use native.Mathlib.Numerals.{add-one}
use native.Mathlib.Omega.{arith}
use Rattle.algebra.specs.Symbols.{power}
use Rattle.algebra.proofs.Powers.{power_zero, power-suc}
use Rattle.symbols.specs.Rule.{symbols, number, symbol}
use Rattle.symbols.proofs.FieldLaws.{laws-of}
use Rattle.symbols.proofs.Bytes.{known-high}
use Rattle.symbols.proofs.TableRules.{table_row-number}
use Rattle.ordinates.proofs.norm.Goals as goal

pub overflow_add-end : goal.overflow_add-end
overflow_add-end c = omega (arith, known-high _ c.requires)

pub loop-init : goal.loop-init
loop-init c = λ x e. sym (ap (number _) (power_zero (symbols _) (symbol _ x)) ∙ (laws-of _ c.requires).number-one)

pub loop-preserved : goal.loop-preserved
loop-preserved c = λ x e.
    let q = c.args.q in
    let n = c.loop.counter in
    rw (e, c.loop.invariant x e)
    (table_row-number q c.requires x (power (symbols q) (symbol q x) n)
    ∙ ap (number q) (sym (power-suc (symbols q) (symbol q x) n)
    ∙ ap (power (symbols q) (symbol q x)) (sym (add-one n))))
