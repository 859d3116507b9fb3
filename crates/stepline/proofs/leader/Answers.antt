-- `stepline::leader` meets its contract.
-- Assumes nothing.
use mathlib.Core.Path.{sym}
use native.Mathlib.Omega.{arith}
use Rattle.stepline.proofs.LeadingRows.{leader-upper, leader-lower}
use Rattle.stepline.proofs.leader.Goals as goal

pub returns-then-r-q : goal.returns-then-r-q
returns-then-r-q c = (sym (leader-upper c.args.q c.args.r c.if-r-q.true), omega arith)

pub returns-else-r-q : goal.returns-else-r-q
returns-else-r-q c = (sym (leader-lower c.args.q c.args.r c.if-r-q.false), omega arith)
