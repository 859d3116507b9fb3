-- `products::part_of` meets its contract. The loop's invariant: the places passed hold the table's part, and the others are
-- still zero. Assumes nothing.
use mathlib.Core.Path.{◌≡◌}
use lib.ListN.{replicate}
use Rattle.lists.specs.Tables.{put}
use Rattle.symbols.specs.Sizes.{most_symbols}
use Rattle.symbols.specs.Tables.{places_on}
use Rattle.products.proofs.part_of.Given as goal

abbrev pub invariant-loop-i : goal.invariant-loop-i
invariant-loop-i g l = l.row ≡ put (replicate most_symbols 0) 0 l.i (places_on l.table l.start)
