-- `tape_decode` meets its contract: it passes decoding's answer on as an integer. Assumes nothing.
use mathlib.Core.Path.{sym, subst}
use Rattle.results.specs.Results.{CountFits}
use Rattle.tape.proofs.Counts.{answer-fits}
use Rattle.tape.proofs.tape_decode.Goals as goal

pub of_count-requires : goal.of_count-requires
of_count-requires c = subst CountFits (sym c.decode.ensures.answered) (answer-fits _ _ _ _ _ _)
