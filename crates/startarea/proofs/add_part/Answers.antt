-- `startarea::add_part` meets its contract: the goals that the check leaves open. Assumes nothing.
use mathlib.Core.Path.{◌≡◌, sym}
use native.Mathlib.Omega.{arith}
use lib.ListN.{length-set}
use Rattle.symbols.specs.Rule.{symbol}
use Rattle.symbols.proofs.Bytes.{number-of-below}
use Rattle.workarea.proofs.Multipliers.{multiplies}
use Rattle.startarea.proofs.StartParts.{added_none, added_more, term-first, term-more, added-all}
use borrow.Author.Rules.{rules}
use Rattle.startarea.proofs.add_part.Goals as goal

pub loop-i-init : goal.loop-i-init
loop-i-init c = (
  search rules,
  λ a F row held. (
    term-first _ c.requires.known _ (symbol _ a) _ F _ (sym (number-of-below _ _ c.requires.known c.requires.n_nonzero.3)),
    added_none _ c.requires.known _ _ _ F held,
  ),
)

pub loop-i-preserved : goal.loop-i-preserved
loop-i-preserved c =
    let at = c.loop-i in (
      simp length-set at.invariant.0,
      λ a F row held.
          let old = at.invariant.1 a F row held in (
            term-more c.args.q c.requires.known c.args.n (symbol _ a) (symbol _ c.args.factor) F c.args.products at.i _ (rw row (multiplies _ _ c.requires.known)) (omega arith) (omega arith) old.0,
            rw c.sum.ensures (added_more _ c.requires.known _ _ _ F _ _ _ (omega arith) (omega arith) (omega arith) old.0 old.1),
          ),
    )

pub returns : goal.returns
returns c =
    λ a F row held.
    let at = c.loop-i in
    let none : at.i ≡ 0 = omega arith in
    rw c.sum-2.ensures (added-all _ c.requires.known _ _ _ F _ _ _ c.requires.n_nonzero.0 (omega arith) (sym (number-of-below _ _ c.requires.known c.requires.n_nonzero.2)) (rw none at (at.invariant.1 a F row held).1))
