-- A byte that ends a number gives the number that was found, any other byte is read into it, and past the text's end there is none.
-- Assumes nothing.
use Rattle.std.proofs.Common.{◌∙◌, ℕ, ◌+◌, drop, ap, arith, sym}
use Rattle.asking.specs.Request.{numbers_from}
use Rattle.asking.proofs.Numbers.{numbers-end-at, numbers-go-at, numbers-past}
use Rattle.request.specs.Reader.{FoundIn}
use Rattle.request.proofs.number_at.Goals as goal

pub returns-then-ends_number : goal.returns-then-ends_number
unfolding FoundIn
returns-then-ends_number c =
    let ends = sym c.ends_number.ensures ∙ c.if-ends_number.true in
    record {
      later = omega arith;
      within = omega arith;
      small = c.loop-at.invariant.small;
      numbers = c.loop-at.invariant.numbers ∙ numbers-end-at c.loop-at.value c.args.text.now c.loop-at.at c.loop-at-test.true ends;
    }

pub loop-at-preserved : goal.loop-at-preserved
loop-at-preserved c =
    let text = c.args.text.now in
    let at = c.loop-at.at in
    let goes = sym c.ends_number.ensures ∙ c.if-ends_number.false in
    record {
      small = c.grown-value.ensures.1;
      numbers =
          c.loop-at.invariant.numbers ∙ numbers-go-at c.loop-at.value text at c.loop-at-test.true goes
          ∙ ap (λ (value : ℕ). numbers_from value (drop (at + 1) text)) (sym c.grown-value.ensures.0);
    }

pub returns : goal.returns
unfolding FoundIn
returns c =
    c.loop-at.invariant.numbers ∙ numbers-past c.loop-at.value c.args.text.now c.loop-at.at c.loop-at-test.false
