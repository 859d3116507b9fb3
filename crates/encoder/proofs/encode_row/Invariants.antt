-- `encoder::encode_row` meets its contract. The loop's invariant: the columns passed are written. Assumes nothing.
use mathlib.Core.Path.{◌≡◌}
use Prim.Native.Nat.{◌*◌}
use lib.ListN.{length}
use Rattle.lists.specs.Tables.{put}
use Rattle.encoder.proofs.RowNumbers.{row_number}
use Rattle.encoder.proofs.encode_row.Given as goal

abbrev pub invariant-loop-x : goal.invariant-loop-x
invariant-loop-x l =
    (length l.row ≡ length l.initial.row) × (l.row ≡ put l.initial.row 0 (l.x * l.q) (row_number l.q l.u l.message))
