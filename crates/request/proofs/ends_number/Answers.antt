-- The tests of the byte are those of the definition.
-- Assumes nothing.
use Rattle.std.proofs.Common.{inl, inr, arith}
use Rattle.std.proofs.lemmas.Bool.Decides.{nat_tests}
use Rattle.asking.specs.Request.{ends_number}
use Rattle.request.proofs.ends_number.Goals as goal

pub returns-in-32 : goal.returns-in-32
unfolding ends_number
returns-in-32 c = elim c.in-32.is [ inl e ↦ rw e | inr e ↦ rw e ]

pub returns-in_default : goal.returns-in_default
unfolding ends_number
returns-in_default c = grind (arith, nat_tests)
