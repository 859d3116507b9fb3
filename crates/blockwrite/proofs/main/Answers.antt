-- The length that writing tells is within the area.
use Rattle.std.proofs.Common.{sym, arith, length-take-le}
use Rattle.block.proofs.Writes.{told-length}
use Rattle.blockwrite.proofs.main.Goals as goal

pub slice_bounds-area-end : goal.slice_bounds-area-end
slice_bounds-area-end c =
    omega (arith, (told-length _ _ _ (sym c.in-Ok.ensures.answered)).1, c.write-written.auto.block)

pub slice_bounds-save-end : goal.slice_bounds-save-end
slice_bounds-save-end c =
    sym
    (length-take-le c.in-Ok.length c.write-written.new.block
    (omega (arith, (told-length _ _ _ (sym c.in-Ok.ensures.answered)).1, c.write-written.auto.block)))
