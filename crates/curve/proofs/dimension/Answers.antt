-- `curve::dimension` meets its contract: the goals that the check leaves open. Assumes nothing.
use mathlib.Core.Bool.{not}
use mathlib.Core.Path.{ap, ◌≡◌, sym, ◌∙◌}
use Prim.Native.Nat.{◌+◌}
use native.Mathlib.Omega.{arith}
use Rattle.algebra.specs.Weights.{nongap}
use Rattle.curve.proofs.Sizes.{count_small}
use Rattle.curve.proofs.Ranks.{rank-zero, rank-nongap, rank-gap, rank-le, dimension-rank}
use Rattle.curve.proofs.dimension.Goals as goal
use Rattle.curve.proofs.dimension.Goals.{then-not-is_gap, else-not-is_gap}

pub overflow_add-s-end : goal.overflow_add-s-end
overflow_add-s-end c = omega (arith, c.requires.1, count_small _ c.requires.0)

pub loop-s-init : goal.loop-s-init
loop-s-init c = sym (rank-zero _)

pub overflow_add-count : goal.overflow_add-count
overflow_add-count c =
    let at = c.loop-s in
    omega (arith, rank-le c.args.q at.s, count_small _ c.requires.0, at.invariant)

pub loop-s-preserved : goal.loop-s-preserved
unfolding nongap
loop-s-preserved c =
    let q = c.args.q in
    let at = c.loop-s in
    elim c.if-not-is_gap.branch [
      | then-not-is_gap w ↦ w.count-is ∙ (rw at.invariant (sym (rank-nongap q at.s (rw c.is_gap.ensures at (ap not w.if-not-is_gap.true)))))
      | else-not-is_gap w ↦ w.count-is ∙ (rw at.invariant (sym (rank-gap q at.s (rw c.is_gap.ensures at (ap not w.if-not-is_gap.false)))))
    ]

pub returns : goal.returns
returns c =
    let e : c.loop-s.s ≡ c.args.u + 1 = omega (arith, c.loop-s-test.false, c.loop-s.auto) in
    c.loop-s.invariant ∙ (rw e (sym (dimension-rank c.args.q c.args.u)))
