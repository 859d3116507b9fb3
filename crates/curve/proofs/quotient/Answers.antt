-- `curve::quotient` meets its contract. Assumes nothing.
use Rattle.symbols.proofs.Bytes.{known-other}
use Rattle.curve.proofs.quotient.Goals as goal

pub returns-else-q-eq4 : goal.returns-else-q-eq4
returns-else-q-eq4 c = rw (known-other _ c.requires c.if-q-eq4.false)
