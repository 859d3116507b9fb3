-- `evaluation::spread` meets its contract: the goals that the check leaves open. Assumes nothing.
use mathlib.Core.Path.{◌≡◌, refl, sym, ap, ◌∙◌}
use mathlib.Core.Bool.{not}
use Prim.Native.Nat.{◌+◌, ◌*◌, ◌<◌}
use native.Mathlib.Omega.{arith}
use lib.ListN.{length, length-set}
use Rattle.symbols.specs.Sizes.{most_symbols, most_points}
use Rattle.algebra.specs.Weights.{nongap}
use Rattle.curve.proofs.Sizes.{count_small}
use Rattle.curve.specs.Ranks.{rank}
use Rattle.curve.proofs.Ranks.{rank-zero, rank-le, rank-nongap, rank-gap, rank_below}
use Rattle.curve.proofs.MonomialAnswers.{Found, found, missed}
use Rattle.evaluation.specs.Stages.{IsSpread}
use Rattle.evaluation.proofs.Spreading.{spread_none, spread-gap, spread-next, powers-fit}
use Rattle.evaluation.proofs.spread.Goals as goal
use Rattle.evaluation.proofs.spread.Goals.{In-Some, Joined-monomial_of, in-Some, in_default}

-- the powers that a turn is told are those of its weight
here : (c : In-Some) → Found c.args.q c.loop-s.s c.in-Some.field-0
here c = found c.args.q c.loop-s.s _ (sym c.monomial_of.ensures ∙ c.in-Some.is)

-- they are within the places
fits : (c : In-Some) → c.in-Some.field-0.y * most_symbols + c.in-Some.field-0.x < most_points
fits c =
    let found = here c in
    omega (arith, powers-fit c.args.q c.args.message.now c.loop-s.s c.requires.0 (omega arith) found.nongap)

pub loop-s-init : goal.loop-s-init
loop-s-init c = (sym (rank-zero _), refl, spread_none _ c.args.message.now c.requires.0)

pub bounds-message-taken : goal.bounds-message-taken
unfolding nongap
bounds-message-taken c =
    let found = here (goal.at.bounds-message-taken c).In-Some in
    omega (
      arith,
      rank_below c.args.q c.args.u c.loop-s.s (ap not found.nongap)
          (omega arith),
      c.loop-s.invariant.1,
      c.requires.2,
    )

pub overflow_mul-places : goal.overflow_mul-places
overflow_mul-places c = omega (arith, fits (goal.at.overflow_mul-places c).In-Some)

pub overflow_add-places : goal.overflow_add-places
overflow_add-places c = omega (arith, fits (goal.at.overflow_add-places c).In-Some)

pub bounds-places-y : goal.bounds-places-y
bounds-places-y c = omega (arith, fits (goal.at.bounds-places-y c).In-Some)

pub overflow_add-taken : goal.overflow_add-taken
overflow_add-taken c =
    omega (arith, rank-le c.args.q c.loop-s.s, c.loop-s.invariant.1, count_small _ c.requires.0)

-- a turn leaves what the next weight's begins with
turned : (c : Joined-monomial_of) → let s = c.loop-s.s + 1 in
    (c.match-monomial_of.taken ≡ rank c.args.q s) × (length c.match-monomial_of.places ≡ most_points) × IsSpread c.args.q s c.args.message.now c.match-monomial_of.places
unfolding nongap
turned c =
    let q = c.args.q in
    let s = c.loop-s.s in
    let message = c.args.message.now in
    let before = c.loop-s.invariant in
    elim c.match-monomial_of.branch [
      | in-Some w ↦
          let found = found q s _ (sym c.monomial_of.ensures ∙ w.in-Some.is) in (
            rw (w.taken-is, before.0) (sym (rank-nongap q s (ap not found.nongap))),
            rw w.places-is (simp length-set before.1),
            rw (w.places-is, found.power-x, found.power-y, before.0) (spread-next q message s c.requires.0 (omega arith) found.nongap c.loop-s.places before.1 before.2),
          )
      | in_default w ↦
          let none = missed q s (sym c.monomial_of.ensures ∙ w.in_default.is) in (
            rw (w.taken-is, before.0) (sym (rank-gap q s (ap not none))),
            rw w.places-is before.1,
            rw w.places-is (spread-gap q message s c.loop-s.places none before.2),
          )
    ]

pub loop-s-preserved : goal.loop-s-preserved
loop-s-preserved c = turned (goal.at.loop-s-preserved c).Joined-monomial_of

pub returns-after-monomial_of : goal.returns-after-monomial_of
returns-after-monomial_of c =
    let end : c.loop-s.s ≡ c.args.u = omega arith in
    rw end at (turned (goal.at.returns-after-monomial_of c).Joined-monomial_of).2
