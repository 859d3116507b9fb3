-- `textlines::line_end` meets its contract: the goals that the check leaves open. Assumes nothing.
use Rattle.std.proofs.Common.{◌≡◌, length, arith, rules}
use Rattle.textlines.proofs.Ends.{line_from, line-newline, line-goes-on, line-none}
use Rattle.textlines.proofs.line_end.Goals as goal

pub returns-then-text-i-eq10-clause-line : goal.returns-then-text-i-eq10-clause-line
returns-then-text-i-eq10-clause-line c =
    omega (arith, c.loop-i.invariant, line-newline c.args.text.now c.loop-i.i c.loop-i-test.true c.if-text-i-eq10.true)

pub loop-i-preserved : goal.loop-i-preserved
loop-i-preserved c =
    let goes_on = line-goes-on c.args.text.now c.loop-i.i c.loop-i-test.true (search rules) in
    omega (arith, c.loop-i.invariant, goes_on)

pub returns-clause-line : goal.returns-clause-line
returns-clause-line c =
    let end : c.loop-i.i ≡ length c.args.text.now = omega (arith, c.loop-i-test.false, c.loop-i.auto) in
    let none : line_from c.args.text.now c.loop-i.i ≡ 0 = rw end (line-none c.args.text.now) in
    omega (arith, c.loop-i.invariant, none)
