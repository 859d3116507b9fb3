-- `block::write` meets its contract: the tests are the checks in their order, and after r rows the area holds the block's first
-- 8 + 32r bytes. Assumes nothing.
use mathlib.Core.Path.{◌≡◌}
use Prim.Native.Nat.{◌+◌, ◌*◌}
use Rattle.layout.specs.Layout.{row_bytes, header_bytes}
use Rattle.block.proofs.Writes.{written}
use Rattle.block.proofs.write.Given as goal

abbrev pub invariant-loop-r : goal.invariant-loop-r
invariant-loop-r l = l.block ≡ written l.payload (header_bytes + row_bytes * l.r) l.initial.block
