-- Zeros, the first of each kind, h, and the others.
-- Assumes nothing.
use Rattle.startarea.proofs.StartBytes.{blank-cleared}
use Rattle.startarea.proofs.StartCells.{begun_first, begun_all}
use Rattle.startarea.proofs.begin.Goals as goal

pub returns : goal.returns
returns c =
    let known = c.args.products.known in
    let firsts = c.put_firsts.ensures _ (blank-cleared _ known _ _ _ c.area_size.ensures c.clear.ensures) in
    let first = begun_first _ known c.args.row.now _ _ (c.subtract_h.ensures.shows _ _ firsts) in
    begun_all _ known c.args.row.now _ _ (c.add_all_multiples.ensures _ _ first)
