-- `curve::is_code` meets its contract: the tests are those of the definition. Assumes nothing.
use mathlib.Core.Path.{sym, ◌∙◌}
use native.Mathlib.Omega.{arith}
use borrow.Author.Tests.{lt-leb, le-leb, leb-true}
use Rattle.algebra.specs.Weights.{nongap}
use Rattle.curve.specs.Codes.{is_code}
use Rattle.curve.proofs.is_code.Goals as goal
use Rattle.curve.proofs.is_code.Goals.{then-q-u, else-q-u}

pub returns-then-u-point_count : goal.returns-then-u-point_count
unfolding is_code nongap
returns-then-u-point_count c =
    elim c.if-q-u.branch [
      | then-q-u w ↦
          let below = sym w.value-is ∙ c.if-u-point_count.true in
          rw (le-leb _ _ w.if-q-u.true, rw w.point_count.ensures at below, c.is_gap.ensures)
      | else-q-u w ↦ absurd (omega (arith, leb-true _ _ (sym w.value-is ∙ c.if-u-point_count.true), w.if-q-u.false))
    ]

pub returns-else-u-point_count : goal.returns-else-u-point_count
unfolding is_code nongap
returns-else-u-point_count c =
    elim c.if-q-u.branch [
      | then-q-u w ↦
          let above = sym w.value-is ∙ c.if-u-point_count.false in
          rw (le-leb _ _ w.if-q-u.true, rw w.point_count.ensures at above, c.if-u-point_count.false)
      | else-q-u w ↦ rw (lt-leb _ _ w.if-q-u.false, c.if-u-point_count.false)
    ]
