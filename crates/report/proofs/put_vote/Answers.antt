-- By whether there is a vote: a space and its digits, or " -".
-- Assumes nothing.
use Rattle.lines.specs.Text.{ascii}
use Rattle.report.specs.Report.{vote_text}
use Rattle.report.proofs.put_vote.Goals as goal

pub spaced-requires : goal.spaced-requires
unfolding vote_text
spaced-requires c = rw c.in-Some.is at c.requires

pub returns-in-Some : goal.returns-in-Some
unfolding vote_text
returns-in-Some c = rw c.in-Some.is c.spaced.ensures

pub word-requires : goal.word-requires
unfolding vote_text ascii
word-requires c = rw c.in-None.is at c.requires

pub returns-in-None : goal.returns-in-None
unfolding vote_text ascii
returns-in-None c = rw c.in-None.is c.word.ensures
