-- `rowlines::put_rows` meets its contract: the goals that the check leaves open. Assumes nothing.
use Rattle.std.proofs.Common.{◌+◌, ◌*◌, arith, get_or}
use Rattle.rowlines.proofs.Rows.{rows_none, rows_next, rows_end}
use Rattle.rowlines.proofs.put_rows.Goals as goal

pub loop-r-init : goal.loop-r-init
loop-r-init c = record { short = omega arith; wrote = rows_none _ _ }

pub loop-r-preserved : goal.loop-r-preserved
loop-r-preserved c =
    let r = c.loop-r.r in
    let records = c.args.records.now in
    record {
      short =
          rows_end c.args.page.now.end r (get_or records (2 * r) 0) (get_or records (2 * r + 1) 0) (omega arith)
          (omega (arith, c.type_inv.records (2 * r))) (omega (arith, c.type_inv.records (2 * r + 1)))
          c.loop-r.invariant.short c.put_row.ensures;
      wrote = rows_next records r (omega arith) c.loop-r.invariant.wrote c.put_row.ensures;
    }
