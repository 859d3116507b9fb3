-- `stepvotes::best_of` meets its contract: the goals that the check leaves open. Assumes nothing.
use mathlib.Core.Path.{◌≡◌}
use Prim.Native.Nat.{◌+◌, ◌-◌}
use native.Mathlib.Omega.{arith}
use Rattle.workarea.proofs.Sizes.{sizes}
use Rattle.published.proofs.Best.{best-first, best-higher, best-kept}
use Rattle.stepvotes.proofs.best_of.Goals as goal
use Rattle.stepvotes.proofs.best_of.Goals.{then-scores-winner, else-scores-winner}

pub loop-a-init : goal.loop-a-init
loop-a-init c = (omega arith, λ f is. best-first f)

pub loop-a-preserved : goal.loop-a-preserved
loop-a-preserved c =
    let z = sizes _ c.requires in
    let n : c.loop-a.a + 1 - 1 ≡ c.loop-a.a = omega arith in
    elim c.if-scores-winner.branch [
      | then-scores-winner w ↦ (omega arith, λ f is. rw (n, w.winner-is) (best-higher f _ _ (c.loop-a.invariant.1 f is) (omega arith) (rw (← is c.loop-a.winner (omega arith), ← is c.loop-a.a (omega arith)) w.if-scores-winner.true)))
      | else-scores-winner w ↦ (omega arith, λ f is. rw (n, w.winner-is) (best-kept f _ _ (c.loop-a.invariant.1 f is) (omega arith) (rw (← is c.loop-a.winner (omega arith), ← is c.loop-a.a (omega arith)) w.if-scores-winner.false)))
    ]
