-- `taperow::reading::row_record` meets its contract: what was gathered is judged against the message where it stands.
-- Assumes nothing.
use mathlib.Core.Path.{◌≡◌, ◌∙◌}
use Prim.Native.Nat.{◌+◌, ◌-◌, ◌*◌}
use native.Mathlib.Omega.{arith}
use Rattle.taperow.proofs.Outcomes.{row-judged}
use Rattle.taperow.proofs.reading.row_record.Goals as goal

pub returns : goal.returns
returns c =
    let s = c.args in
    let n : 20 + 20 * s.r - 20 * s.r ≡ 20 = omega arith in
    let judged = c.judge_row.ensures in (
      rw (n, c.gather_row.ensures.gathered) at judged.outcome ∙ row-judged s.block.now s.payload.now s.r,
      judged.work_left,
    )
