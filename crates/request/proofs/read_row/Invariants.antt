-- The row so far and the numbers of what is left are the numbers of the text from the place on, and each number took a byte
-- at least, so that the row has room.
-- Assumes nothing.
use Rattle.std.proofs.Common.{◌≡◌, ◌+◌, ◌-◌, ◌≤◌, ◌++◌, length, map, take, drop}
use Rattle.asking.specs.Request.{numbers_from, as_byte}
use Rattle.request.proofs.read_row.Given as goal

abbrev pub invariant-loop-found : goal.invariant-loop-found
invariant-loop-found l =
    record {
      room : l.from + l.count ≤ l.at;
      within : l.count ≤ length l.row;
      so_far : map as_byte (numbers_from 0 (drop l.from l.text)) ≡ take l.count l.row ++ map as_byte (numbers_from 0 (drop l.at l.text));
    }

abbrev pub decreases-loop-found : goal.decreases-loop-found
decreases-loop-found l = length l.text - l.at
