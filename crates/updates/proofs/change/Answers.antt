-- The three cases of the definition, by the sign of c.
-- Assumes nothing.
use mathlib.Core.Path.{sym, ap, ◌∙◌}
use native.Mathlib.Omega.{arith}
use lib.IntN.{nat_abs}
use Rattle.symbols.specs.Rule.{symbols}
use Rattle.published.specs.Pairing.{positive_part, negative_part}
use Rattle.published.specs.Steps.{ratio}
use Rattle.pair.proofs.Signed.{back, positive-yes, positive-no}
use Rattle.workarea.proofs.Multipliers.{multiplies-symbol}
use Rattle.workarea.proofs.Becoming.{becomes-same}
use Rattle.updates.proofs.ChangeLaws.{unchanged, changed-raised, changed-reduced}
use Rattle.updates.proofs.BelowUpdates.{becomes-reduced, becomes-exchanged}
use Rattle.updates.proofs.change.Goals as goal

pub returns-then-pair-vote-clause-becomes_below : goal.returns-then-pair-vote-clause-becomes_below
returns-then-pair-vote-clause-becomes_below c = λ S ω P ev n below.
    let same = unchanged _ c.requires.area.known S ω c.args.i P (sym n.w ∙ c.if-pair-vote.true ∙ ev) in
    record { becomes = becomes-same _ S _ same; below = rw same below }

pub returns-then-pair-gt0-clause-becomes_below : goal.returns-then-pair-gt0-clause-becomes_below
returns-then-pair-gt0-clause-becomes_below c = let known = c.requires.area.known in
    let held = c.requires.i_lt_q.1 in
    let hi = c.requires.i_lt_q.0 in
    let z = c.args.pair.c in
    let up = positive-yes z (rw (back z held.c) at c.if-pair-gt0.true) in
    λ S ω P ev n below.
    let found = c.ratio_of.ensures ω P ev n.w n.μ n.ν in
    let shift = c.unsigned_abs-shift.ensures.value ∙ ap nat_abs (back z held.c) ∙ up.0 ∙ ap positive_part n.c in
    let few = rw n.partner at held.partner in
    becomes-exchanged _ known _ _ (rw c.requires.same_q at c.args.heights.now.low) S _ below _ _ _ _ (omega (arith, hi)) (omega (arith, few)) (λ d. omega (arith, few))
    (rw (n.partner, shift) at (c.exchange_polynomials.ensures (ratio (symbols c.args.products.q) c.args.products.q ω P) (rw (c.row-row.ensures, found) (multiplies-symbol _ known (ratio (symbols c.args.products.q) c.args.products.q ω P)))))
    (rw (c.requires.same_q, n.partner, shift) at c.exchange.ensures.exchanged)
    (changed-raised _ known S ω _ P (λ d. c.if-pair-vote.false (n.w ∙ d ∙ sym ev)) (rw n.c at up.1) few)

pub returns-else-pair-gt0-clause-becomes_below : goal.returns-else-pair-gt0-clause-becomes_below
returns-else-pair-gt0-clause-becomes_below c = let known = c.requires.area.known in
    let held = c.requires.i_lt_q.1 in
    let hi = c.requires.i_lt_q.0 in
    let z = c.args.pair.c in
    let down = positive-no z (rw (back z held.c) at c.if-pair-gt0.false) in
    λ S ω P ev n below.
    let found = c.ratio_of.ensures ω P ev n.w n.μ n.ν in
    let shift = c.unsigned_abs-shift.ensures.value ∙ ap nat_abs (back z held.c) ∙ down.0 ∙ ap negative_part n.c in
    let few = rw n.partner at held.partner in
    let height = rw n.partner at c.of.ensures.value in
    becomes-reduced _ known _ _ (rw c.requires.same_q at c.args.heights.now.low) S _ below _ _ _ _ (omega (arith, hi)) (omega (arith, few)) _
    (rw (n.partner, shift) at (c.reduce_polynomial.ensures (ratio (symbols c.args.products.q) c.args.products.q ω P) (rw (c.row-row.ensures, found) (multiplies-symbol _ known (ratio (symbols c.args.products.q) c.args.products.q ω P)))))
    (rw (c.requires.same_q, n.partner, shift) at c.add.ensures.added)
    (changed-reduced _ known S ω _ P _ (λ r m hr hm past. below.above _ r m (omega (arith, few)) hr hm (rw height at past))
    (λ d. c.if-pair-vote.false (n.w ∙ d ∙ sym ev)) (ap positive_part (sym n.c) ∙ down.1))
