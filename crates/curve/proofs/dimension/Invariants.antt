-- `curve::dimension` meets its contract. The loop's invariant: so many non-gaps were passed. Assumes nothing.
use mathlib.Core.Path.{◌≡◌}
use Rattle.curve.specs.Ranks.{rank}
use Rattle.curve.proofs.dimension.Given as goal

abbrev pub invariant-loop-s : goal.invariant-loop-s
invariant-loop-s l = l.count ≡ rank l.q l.s
