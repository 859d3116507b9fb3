-- `packing::unpack` meets its contract: the goals that the check leaves open. Assumes nothing.
use mathlib.Core.Path.{◌≡◌, sym}
use native.Mathlib.Omega.{arith}
use lib.ListN.{length}
use Rattle.lists.proofs.Filled.{fill_none}
use Rattle.packing.proofs.Unpacked.{unpack-next, unpack-all, none-beyond}
use Rattle.packing.proofs.unpack.Goals as goal

pub loop-i-init : goal.loop-i-init
loop-i-init c = sym (fill_none _ _)

pub loop-i-preserved : goal.loop-i-preserved
loop-i-preserved c = unpack-next _ _ _ c.loop-i.i (omega arith) c.loop-i.invariant

pub returns : goal.returns
returns c =
    let s = c.args in
    let e : c.loop-i.i ≡ length s.bytes.now = omega arith in
    let u = unpack-all s.bytes.now s.symbols.now _ c.loop-i.i (omega arith) c.loop-i.invariant in
    (u, rw u (none-beyond s.bytes.now _ (λ i h. (c.type_inv.bytes i).fits)))
