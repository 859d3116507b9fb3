-- `workarea::rows::exchange_above` meets its contract: the goals that the check leaves open. Assumes nothing.
use mathlib.Core.Path.{◌≡◌, sym}
use Prim.Native.Nat.{◌+◌, ◌-◌}
use native.Mathlib.Nat.{sub_self}
use native.Mathlib.Omega.{arith}
use Rattle.workarea.proofs.Bytes.{above-none, above_more}
use Rattle.workarea.proofs.rows.exchange_above.Goals as goal

pub loop-i-init : goal.loop-i-init
loop-i-init c = (c.requires.shift_within, rw sub_self (sym (above-none _ _ _ _ _ _ _)))

pub loop-i-preserved : goal.loop-i-preserved
loop-i-preserved c =
    let i : c.loop-i.i ≡ c.loop-i.i - 1 + 1 = omega arith in
    (omega arith, rw c.difference.ensures (above_more _ _ _ _ _ _ _ _ _ c.requires.apart (omega arith) (rw i at c.loop-i.invariant.1)))
