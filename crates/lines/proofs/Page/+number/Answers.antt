-- The digits of the tenth are written first, and the last digit after them.
use Rattle.std.proofs.Common.{◌≡◌, ◌%◌, ap, arith, length}
use Rattle.lines.proofs.Digits.{digits-small, digits-large, length-digits-large}
use Rattle.lines.proofs.Pages.{put_more}
use Rattle.lines.proofs.Page.+number.Goals as goal
use Rattle.lines.proofs.Page.+number.Goals.{then-n-ge10, else-n-ge10}

pub number-requires : goal.number-requires
number-requires t c = (omega arith, omega (arith, length-digits-large c.args.n (omega arith)))

pub byte-requires : goal.byte-requires
byte-requires t c =
    elim c.if-n-ge10.branch [
      | then-n-ge10 w ↦ rw w.self-is (omega (arith, length-digits-large c.args.n (omega arith)))
      | else-n-ge10 w ↦ rw w.self-is (omega (arith, ap length (digits-small c.args.n (omega arith))))
    ]

pub returns : goal.returns
returns t c =
    elim c.if-n-ge10.branch [
      | then-n-ge10 w ↦
          rw (digits-large c.args.n w.if-n-ge10.true)
          (put_more (omega (arith, length-digits-large c.args.n (omega arith))) w.number.ensures (rw w.self-is at c.byte.ensures))
      | else-n-ge10 w ↦
          let last : c.args.n % 10 ≡ c.args.n = omega arith in
          rw (digits-small c.args.n (omega arith)) (rw (w.self-is, last) at c.byte.ensures)
    ]
