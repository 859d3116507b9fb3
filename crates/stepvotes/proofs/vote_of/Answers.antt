-- A voting step takes the best of the scores.
-- Assumes nothing.
use mathlib.Core.Path.{◌∙◌}
use Rattle.lists.specs.Tables.{tab}
use Rattle.symbols.specs.Rule.{symbols}
use Rattle.published.specs.Pairing.{score}
use Rattle.stepvotes.proofs.VoteLaws.{vote-yes, vote-no}
use Rattle.stepvotes.proofs.vote_of.Goals as goal

pub returns-then-voted-clause-vote : goal.returns-then-voted-clause-vote
returns-then-voted-clause-vote c = λ P u s numbers v.
    vote-yes _ u s _ c.requires.known (tab _ P) (v ∙ c.if-voted.true) c.best_of.ensures.symbol
    (c.best_of.ensures.best (score (symbols _) _ (tab _ P)) (c.scores_of-scores.ensures P numbers))

pub returns-clause-vote : goal.returns-clause-vote
returns-clause-vote c = λ P u s numbers v. vote-no _ u s c.requires.known (tab _ P) (v ∙ c.if-voted.false)
