-- The function calls itself with the tenth of its number.
use Rattle.lines.proofs.Page.+number.Given as goal

abbrev pub decreases-number : goal.decreases-number
decreases-number l = l.n
