-- `ordinates::ordinates` meets its contract. Assumes nothing.
use native.Mathlib.Omega.{arith}
use borrow.Author.Tests.{eq-eqb, ne_eqb}
use Rattle.ordinates.specs.Ordinates.{sets4, sets2, ordinate_set, ordinates_above}
use Rattle.ordinates.proofs.OrdinateSets.{place-small}
use Rattle.ordinates.proofs.ordinates.Goals as goal

pub offset_bounds-place : goal.offset_bounds-place
offset_bounds-place c = omega (arith, c.set_place-place.ensures, place-small c.norm-norm.result)

pub bounds-place-place : goal.bounds-place-place
bounds-place-place c = omega (arith, c.set_place-place.ensures, place-small c.norm-norm.result)

pub returns-then-q-eq4 : goal.returns-then-q-eq4
unfolding ordinates_above ordinate_set sets4
returns-then-q-eq4 c =
    λ x e. rw (eq-eqb _ _ c.if-q-eq4.true, c.set_place-place.ensures, c.norm-norm.ensures x e)

pub returns-else-q-eq4 : goal.returns-else-q-eq4
unfolding ordinates_above ordinate_set sets2
returns-else-q-eq4 c = λ x e. rw (ne_eqb _ _ c.if-q-eq4.false, c.norm-norm.ensures x e)
