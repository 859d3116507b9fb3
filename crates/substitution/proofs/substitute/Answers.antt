-- No vote, or a weight that has a monomial.
-- Assumes nothing.
use mathlib.Core.Path.{sym, ◌∙◌}
use native.Mathlib.Omega.{arith}
use Rattle.curve.proofs.MonomialAnswers.{found, missed}
use Rattle.workarea.proofs.Becoming.{becomes, becomes-same}
use Rattle.workarea.proofs.Multipliers.{multiplies-symbol}
use Rattle.substitution.proofs.ReplaceLaws.{powers-small, substituted-none, substituted-cells}
use Rattle.substitution.proofs.substitute.Goals as goal

pub returns-then-vote-eq0 : goal.returns-then-vote-eq0
returns-then-vote-eq0 c = λ S ω ev below. becomes-same _ S _ (substituted-none _ c.requires.area.known S _ below _ ω (sym ev ∙ c.if-vote-eq0.true))

pub returns-in_default : goal.returns-in_default
returns-in_default c =
    let gap = missed _ _ (sym c.monomial_of.ensures ∙ c.in_default.is) in
    let none = c.requires.s_le_most_degree.1 c.if-vote-eq0.false in
    absurd (cc)

pub replace_z-requires-clause-y_lt_q : goal.replace_z-requires-clause-y_lt_q
replace_z-requires-clause-y_lt_q c =
    let it = found _ _ _ (sym c.monomial_of.ensures ∙ c.in-Some.is) in
    let b = powers-small c.args.products.q c.args.s (omega (arith, c.requires.area.some)) in
    rw (it.power-x, it.power-y) (b.0, omega (arith, b.1))

pub returns : goal.returns
returns c =
    λ S ω ev below.
    let known = c.requires.area.known in
    let it = found _ _ _ (sym c.monomial_of.ensures ∙ c.in-Some.is) in
    becomes _ _ (rw (it.power-x, it.power-y) at (c.replace_z.ensures ω (rw (c.row.ensures, ev) (multiplies-symbol _ known ω))))
    (substituted-cells _ known S _ below _ ω (λ z. c.if-vote-eq0.false (ev ∙ z)))
