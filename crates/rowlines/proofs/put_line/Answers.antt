-- The piece and then the end of the line.
use Rattle.rowlines.proofs.Pieces.{line-written}
use Rattle.rowlines.proofs.put_line.Goals as goal

pub returns-clause-wrote : goal.returns-clause-wrote
returns-clause-wrote c = line-written c.args.word.now c.args.n c.ranges.n.fits c.requires c.put_piece.ensures.wrote c.byte.ensures
