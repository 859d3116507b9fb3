-- The line goes on to where the line from `i` on ends. Assumes nothing.
use Rattle.std.proofs.Common.{◌≡◌, ◌+◌}
use Rattle.textlines.proofs.Ends.{line_from}
use Rattle.textlines.proofs.line_end.Given as goal

abbrev pub invariant-loop-i : goal.invariant-loop-i
invariant-loop-i l = l.start + line_from l.text l.start ≡ l.i + line_from l.text l.i
