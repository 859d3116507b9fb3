-- The word and then the number.
use Rattle.std.proofs.Common.{arith}
use Rattle.rowlines.proofs.Pieces.{digits-short, piece-written}
use Rattle.rowlines.proofs.put_piece.Goals as goal

pub number-requires : goal.number-requires
number-requires c = omega (arith, digits-short c.args.n c.ranges.n.fits)

pub returns-clause-wrote : goal.returns-clause-wrote
returns-clause-wrote c = (piece-written c.args.n c.ranges.n.fits c.requires c.word.ensures c.number.ensures).0

pub returns-clause-upper_bound : goal.returns-clause-upper_bound
returns-clause-upper_bound c = (piece-written c.args.n c.ranges.n.fits c.requires c.word.ensures c.number.ensures).1
