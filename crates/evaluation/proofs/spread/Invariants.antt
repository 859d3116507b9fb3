-- `evaluation::spread` meets its contract. The loop's invariant: the bytes for the weights passed stand in their places.
-- Assumes nothing.
use mathlib.Core.Path.{◌≡◌}
use lib.ListN.{length}
use Rattle.symbols.specs.Sizes.{most_points}
use Rattle.curve.specs.Ranks.{rank}
use Rattle.evaluation.specs.Stages.{IsSpread}
use Rattle.evaluation.proofs.spread.Given as goal

abbrev pub invariant-loop-s : goal.invariant-loop-s
invariant-loop-s l =
    (l.taken ≡ rank l.q l.s) × (length l.places ≡ most_points) × IsSpread l.q l.s l.message l.places
