-- Nothing, or three pieces and the end of the line.
use Rattle.std.proofs.Common.{sym, ◌∙◌, arith}
use Rattle.lines.specs.Text.{ascii}
use Rattle.rowlines.proofs.Pieces.{quiet-written, row_written}
use Rattle.rowlines.proofs.put_row.Goals as goal

pub returns-then-not-is_told : goal.returns-then-not-is_told
returns-then-not-is_told c = quiet-written _ _ _ _ (sym c.is_told.ensures ∙ c.if-not-is_told.true)

pub returns : goal.returns
unfolding ascii
returns c =
    row_written c.args.r c.args.state c.args.count c.ranges.r.fits (omega arith) (omega arith) c.requires
    (sym c.is_told.ensures ∙ c.if-not-is_told.false)
    c.put_piece.ensures.wrote (rw c.from.ensures at c.put_piece-2.ensures.wrote)
    (rw c.from-2.ensures at c.put_piece-3.ensures.wrote) c.byte.ensures
