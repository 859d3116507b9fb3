-- `packing::pack` meets its contract: the goals that the check leaves open. Assumes nothing.
use mathlib.Core.Path.{◌≡◌, sym, ap, ◌∙◌}
use Prim.Native.Nat.{◌+◌, ◌*◌, ◌<◌}
use native.Mathlib.Omega.{arith}
use lib.ListN.{length, get_or}
use Rattle.lists.specs.Tables.{tab}
use Rattle.lists.proofs.Filled.{fill_none, fill-next, fill-all}
use Rattle.symbols.proofs.SymbolLists.{below_all}
use Rattle.packing.specs.Packing.{packed_byte, packed, packed_q}
use Rattle.packing.proofs.pack.Goals as goal
use Rattle.packing.proofs.pack.Goals.{In-loop-i}

-- both symbols are below 16
small : (c : In-loop-i) → let symbols = c.args.symbols.now in
    (get_or symbols (2 * c.loop-i.i) 0 < 16) × (get_or symbols (2 * c.loop-i.i + 1) 0 < 16)
small c =
    let below = below_all packed_q c.args.symbols.now c.requires.1 in
    (below (2 * c.loop-i.i) (omega arith), below (2 * c.loop-i.i + 1) (omega arith))

pub loop-i-init : goal.loop-i-init
loop-i-init c = sym (fill_none _ _)

pub overflow_mul-byte : goal.overflow_mul-byte
overflow_mul-byte c = omega (arith, small (goal.at.overflow_mul-byte c).In-loop-i)

pub overflow_add-byte : goal.overflow_add-byte
overflow_add-byte c = omega (arith, small (goal.at.overflow_add-byte c).In-loop-i)

pub loop-i-preserved : goal.loop-i-preserved
unfolding packed_byte
loop-i-preserved c =
    let start = c.args in
    rw c.loop-i.invariant (fill-next (packed_byte start.symbols.now) c.loop-i.i start.bytes.now (omega arith))

pub returns : goal.returns
unfolding packed
returns c =
    let start = c.args in
    let f = packed_byte start.symbols.now in
    let end : c.loop-i.i ≡ length start.bytes.now = omega arith in
    c.loop-i.invariant ∙ fill-all f c.loop-i.i start.bytes.now (omega arith) ∙ ap (λ n. tab n f) end
