-- `startarea::column_sums` meets its contract: the goals that the check leaves open. Assumes nothing.
use native.Mathlib.Omega.{arith}
use Rattle.symbols.proofs.Bytes.{known-low, known-high}
use Rattle.symbols.proofs.SymbolLists.{below_all}
use Rattle.startarea.proofs.StartColumns.{holds-cong, holds-zeros, point-place, column-none, column-more}
use Rattle.startarea.proofs.column_sums.Goals as goal

pub loop-b-init : goal.loop-b-init
loop-b-init c = holds-zeros _ c.args.products.known _ (omega (arith, known-high _ c.args.products.known)) (column-none _ c.args.products.known _ _)

pub overflow_mul-received : goal.overflow_mul-received
overflow_mul-received c = omega (arith, point-place _ c.args.products.known _ _ c.requires.a_bound c.loop-b-test.true)

pub bounds-row-a : goal.bounds-row-a
bounds-row-a c = omega (arith, point-place _ c.args.products.known _ _ c.requires.a_bound c.loop-b-test.true)

pub add_part-more-requires-clause-n_nonzero : goal.add_part-more-requires-clause-n_nonzero
add_part-more-requires-clause-n_nonzero c = let place = (point-place _ c.args.products.known _ _ c.requires.a_bound c.loop-b-test.true).within in
    let symbol = below_all _ _ c.requires.row_len.1 _ (rw c.requires.row_len.0 place) in
    (omega (arith, known-low _ c.args.products.known), omega (arith, known-high _ c.args.products.known), symbol, symbol)

pub loop-b-preserved : goal.loop-b-preserved
loop-b-preserved c =
    let more = c.loop-b-test.true in
    let above = c.ordinates-ordinates.ensures _ c.row.ensures in
    holds-cong _ c.args.products.known (λ j hj. column-more _ c.args.products.known _ _ _ j c.requires.a_bound more)
    (rw above at (c.add_part-more.ensures _ _ c.row-multiples.ensures c.loop-b.invariant))
