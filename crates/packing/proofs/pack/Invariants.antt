-- `packing::pack` meets its contract: after i bytes the first i are those of the symbols. Assumes nothing.
use mathlib.Core.Path.{◌≡◌}
use mathlib.Core.List.{◌++◌}
use lib.ListN.{drop}
use Rattle.lists.specs.Tables.{tab}
use Rattle.packing.specs.Packing.{packed_byte}
use Rattle.packing.proofs.pack.Given as goal

abbrev pub invariant-loop-i : goal.invariant-loop-i
invariant-loop-i l = l.bytes ≡ tab l.i (packed_byte l.symbols) ++ drop l.i l.initial.bytes
