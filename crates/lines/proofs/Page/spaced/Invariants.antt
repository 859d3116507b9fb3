-- As many numbers are written as are passed.
use Rattle.std.proofs.Common.{take}
use Rattle.lines.specs.Text.{spaced}
use Rattle.lines.specs.Page.{Put}
use Rattle.lines.proofs.Page.spaced.Given as goal

abbrev pub invariant-loop-number : goal.invariant-loop-number
invariant-loop-number l = Put l.initial.self (spaced (take l.number-index l.numbers)) l.self
