-- `symbols::inverse` meets its contract: each table is what antt computes by the rule. Assumes nothing.
use Rattle.symbols.proofs.Bytes.{known-other}
use Rattle.symbols.proofs.TableRules.{inverse-at, computing}
use Rattle.symbols.proofs.inverse.Goals as goal

pub returns-then-q-eq4 : goal.returns-then-q-eq4
unfolding computing
returns-then-q-eq4 c = rw c.if-q-eq4.true (inverse-at 4 c.args.a)

pub returns-else-q-eq4 : goal.returns-else-q-eq4
unfolding computing
returns-else-q-eq4 c = rw (known-other _ c.requires c.if-q-eq4.false) (inverse-at 2 c.args.a)
