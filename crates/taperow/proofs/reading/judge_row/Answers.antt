-- `taperow::reading::judge_row` meets its contract: what reading the row answered settles its record.
-- Assumes nothing.
use mathlib.Core.Path.{◌∙◌}
use Rattle.taperow.proofs.Outcomes.{judged-by, judged-reached}
use Rattle.taperow.proofs.reading.judge_row.Goals as goal

pub record_of-requires-clause-reached : goal.record_of-requires-clause-reached
record_of-requires-clause-reached c = judged-reached _ _ c.read_row-answer.ensures.answered

pub returns-clause-outcome : goal.returns-clause-outcome
returns-clause-outcome c = c.record_of.ensures ∙ judged-by _ _ _ _ _ c.read_row-answer.ensures.answered c.read_row-answer.ensures.message_left
