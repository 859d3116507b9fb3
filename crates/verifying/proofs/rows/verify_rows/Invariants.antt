-- After r rows the first r records are theirs, the work area is `worked r`, and the verdict is `after` r rows.
-- Assumes nothing.
use mathlib.Core.Path.{◌≡◌}
use Rattle.std.specs.Prelude.{Ok}
use Rattle.taperow.specs.Reading.{row_record}
use Rattle.verifying.proofs.Rounds.{worked, after}
use Rattle.verifying.proofs.rows.verify_rows.Given as goal

abbrev pub invariant-loop-r : goal.invariant-loop-r
invariant-loop-r g l = record {
  records : l.records ≡ g.S.Stored.filled l.r (row_record l.block l.payload) l.initial.records;
  room : g.S.Stored.room l.records ≡ g.S.Stored.room l.initial.records;
  work : l.work ≡ worked l.r l.initial.work;
  verdict : l.verdict ≡ Ok (after (row_record l.block l.payload) l.r);
}
