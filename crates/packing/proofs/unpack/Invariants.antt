-- `packing::unpack` meets its contract: after i bytes the first 2i places are their symbols.
-- Assumes nothing.
use mathlib.Core.Path.{◌≡◌}
use mathlib.Core.List.{◌++◌}
use Prim.Native.Nat.{◌*◌}
use lib.ListN.{drop}
use Rattle.lists.specs.Tables.{tab}
use Rattle.packing.specs.Packing.{symbol_in}
use Rattle.packing.proofs.unpack.Given as goal

abbrev pub invariant-loop-i : goal.invariant-loop-i
invariant-loop-i l = l.symbols ≡ tab (2 * l.i) (symbol_in l.bytes) ++ drop (2 * l.i) l.initial.symbols
