-- `taperow::reading::gather_row` meets its contract: the part of the block is the row where it stands.
-- Assumes nothing.
use mathlib.Core.Path.{◌≡◌, sym, ◌∙◌}
use Prim.Native.Nat.{◌+◌, ◌-◌, ◌*◌}
use native.Mathlib.Omega.{arith}
use Rattle.layout.proofs.Reading.{row-part}
use Rattle.taperow.proofs.reading.gather_row.Goals as goal

pub returns-clause-gathered : goal.returns-clause-gathered
returns-clause-gathered c = let n : 40 + 32 * c.args.r - (8 + 32 * c.args.r) ≡ 32 = omega arith in
    let unpacked = c.unpack.ensures in
    rw (n, c.requires.1) at unpacked.0 ∙ sym (row-part c.args.block.now c.args.r)
