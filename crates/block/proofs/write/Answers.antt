-- `block::write` meets its contract: the goals that the check leaves open. Assumes nothing.
use mathlib.Core.Path.{◌≡◌, sym, ap, ◌∙◌}
use mathlib.Core.Bool.{true, not}
use Prim.Native.Nat.{◌/◌}
use native.Mathlib.Omega.{arith}
use lib.ListN.{length}
use borrow.Author.Tests.{not-false, le-ltb}
use Rattle.refusals.proofs.Checks.{clear, done}
use Rattle.layout.specs.Layout.{message_bytes}
use Rattle.block.specs.Writing.{rows_filled, is_payload, write_checks}
use Rattle.block.proofs.CodeRows.{fills}
use Rattle.block.proofs.Writes.{header-written, row_written, all-written, writing}
use Rattle.block.proofs.write.Goals as goal
use Rattle.block.proofs.write.Goals.{Else-not-is_payload}

-- the first test is passed: the payload fills rows
right : (c : Else-not-is_payload) → is_payload c.args.payload.now ≡ true
right c = sym c.is_payload.ensures ∙ not-false _ (ap not c.if-not-is_payload.false)

pub put_header-requires : goal.put_header-requires
unfolding rows_filled
put_header-requires c = ((fills _ (right (goal.at.put_header-requires c).Else-not-is_payload)).most, omega (arith, c.if-block-size.false))

pub loop-r-init : goal.loop-r-init
unfolding rows_filled
loop-r-init c = header-written c.args.payload.now c.args.block.now _ c.put_header.ensures

pub loop-r-preserved : goal.loop-r-preserved
unfolding rows_filled
loop-r-preserved c = c.lay_row.ensures ∙ (rw c.loop-r.invariant (row_written c.args.payload.now _ c.loop-r.r (omega arith)))

-- the block is written, and reads back
pub returns : goal.returns
unfolding write_checks rows_filled
returns c =
    let payload = c.args.payload.now in
    let whole = right (goal.at.returns c).Else-not-is_payload in
    let all : c.loop-r.r ≡ length payload / message_bytes = omega arith in
    let done = writing payload c.args.block.now whole (λ i. (c.type_inv.payload i).fits)
    (clear (ap not whole) (clear (le-ltb _ _ c.if-block-size.false) done))
    (c.loop-r.invariant ∙ (rw all (all-written payload c.args.block.now _ c.put_header.ensures))) in
    record { answered = done.answer-is; block_left = done.left-is; untouched = done.untouched-is }
