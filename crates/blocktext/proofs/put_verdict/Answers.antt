-- `blocktext::put_verdict` meets its contract, case by case.
-- Assumes nothing.
use Rattle.std.proofs.Common.{arith}
use Rattle.lines.specs.Text.{ascii}
use Rattle.report.proofs.Lengths.{length-refuse}
use Rattle.blocktext.specs.Report.{verdict_line}
use Rattle.blocktext.proofs.put_verdict.Goals as goal

pub returns-in-Ok-Copied-clause-wrote : goal.returns-in-Ok-Copied-clause-wrote
unfolding verdict_line ascii
returns-in-Ok-Copied-clause-wrote c =
    let which = rw c.in-Ok-Copied.is at c.in-Ok-Copied.field-0-is in
    rw (c.in-Ok-Copied.is, which) c.put_line.ensures.wrote

pub returns-in-Ok-Differs-clause-wrote : goal.returns-in-Ok-Differs-clause-wrote
unfolding verdict_line ascii
returns-in-Ok-Differs-clause-wrote c =
    let which = rw c.in-Ok-Differs.is at c.in-Ok-Differs.field-0-is in
    rw (c.in-Ok-Differs.is, which) c.put_line-in-Ok-Differs.ensures.wrote

pub returns-in-Ok-Unreadable-clause-wrote : goal.returns-in-Ok-Unreadable-clause-wrote
unfolding verdict_line ascii
returns-in-Ok-Unreadable-clause-wrote c =
    let which = rw c.in-Ok-Unreadable.is at c.in-Ok-Unreadable.field-0-is in
    rw (c.in-Ok-Unreadable.is, which) c.put_line-in-Ok-Unreadable.ensures.wrote

pub put_refusal-requires : goal.put_refusal-requires
put_refusal-requires c = omega (arith, length-refuse c.in-Err.why)

pub returns-in-Err-clause-wrote : goal.returns-in-Err-clause-wrote
unfolding verdict_line
returns-in-Err-clause-wrote c = rw c.in-Err.is c.put_refusal.ensures

pub returns-in-Err-clause-upper_bound : goal.returns-in-Err-clause-upper_bound
returns-in-Err-clause-upper_bound c = omega (arith, length-refuse c.in-Err.why)
