-- `laying::lay_row` meets its contract: the part of the block comes back as the row's bytes, the rest is as it was.
-- Assumes nothing.
use mathlib.Core.Path.{◌≡◌, ◌∙◌}
use Prim.Native.Nat.{◌+◌, ◌-◌, ◌*◌}
use native.Mathlib.Omega.{arith}
use Rattle.lists.proofs.Pasted.{part-pasted}
use Rattle.packing.proofs.Packed.{length-packed}
use Rattle.laying.specs.Laying.{code_row}
use Rattle.laying.proofs.Encoded.{row-packed}
use Rattle.laying.proofs.lay_row.Goals as goal

pub returns : goal.returns
returns c =
    let start = c.args in
    let payload = start.payload.now in
    let m : 20 + 20 * start.r - 20 * start.r ≡ 20 = omega arith in
    let new = rw m at c.encode_packed.ensures ∙ row-packed payload start.r in
    part-pasted start.block.now _ _ (8 + 32 * start.r) (40 + 32 * start.r) 32 (omega arith) new
    (length-packed (code_row payload start.r) 32)
