-- `trace::rows::put_decoded` meets its contract: each answer has its line.
-- Assumes nothing.
use Rattle.trace.specs.Trace.{last_line}
use Rattle.trace.proofs.rows.put_decoded.Goals as goal

pub put_acceptance-requires : goal.put_acceptance-requires
unfolding last_line
put_acceptance-requires c = rw c.in-Ok.is at c.requires

pub put_refusal-requires : goal.put_refusal-requires
unfolding last_line
put_refusal-requires c = rw c.in-Err.is at c.requires

pub returns-in-Ok : goal.returns-in-Ok
unfolding last_line
returns-in-Ok c =
    rw c.in-Ok.is c.put_acceptance.ensures

pub returns-in-Err : goal.returns-in-Err
unfolding last_line
returns-in-Err c =
    rw c.in-Err.is c.put_refusal.ensures
