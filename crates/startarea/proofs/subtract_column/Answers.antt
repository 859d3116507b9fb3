-- `startarea::subtract_column` meets its contract: the goals that the check leaves open. Assumes nothing.
use Prim.Native.Nat.{◌+◌}
use native.Mathlib.Omega.{arith}
use Rattle.workarea.proofs.Cells.{row_fits, turns-none, turns_same, turns-both}
use Rattle.workarea.proofs.Sizes.{sizes}
use Rattle.startarea.proofs.StartRows.{minus-none, minus-more}
use Rattle.startarea.proofs.StartFirsts.{minus-one-small}
use Rattle.startarea.proofs.StartColumns.{x-values, column-turns}
use Rattle.startarea.proofs.subtract_column.Goals as goal

pub add_part-values-requires-clause-n_nonzero : goal.add_part-values-requires-clause-n_nonzero
add_part-values-requires-clause-n_nonzero c = let known = c.requires.area.known in
    let z = sizes _ known in
    (omega (arith, z.square-some), z.square-few, omega (arith, z.square-some), rw c.difference-minus_one.ensures (minus-one-small _ known))

pub loop-j-init : goal.loop-j-init
loop-j-init c = turns_same _ (λ S p r i hp hr hi. minus-none _ c.requires.area.known _ _ _ S p r i) (turns-none _)

pub subtract_values-requires : goal.subtract_values-requires
subtract_values-requires c =
    let fits = row_fits c.args.products.q (c.args.products.q + c.loop-j.j) c.requires.area (omega (arith, c.requires.area.some)) (omega (arith, c.loop-j-test.true)) in
    omega (arith, fits, sizes _ c.requires.area.known)

pub loop-j-preserved : goal.loop-j-preserved
loop-j-preserved c =
    let known = c.requires.area.known in
    let j = c.loop-j-test.true in
    let values = x-values _ known _ _ (λ F held. rw c.difference-minus_one.ensures at (c.add_part-values.ensures _ F c.row-powers.ensures held)) in
    turns_same _ (λ S p r i hp hr hi. minus-more _ known _ _ _ S _ p r i)
    (turns-both _ c.loop-j.invariant
    (column-turns _ known _ _ _ _ _ _ _ _ _ _ _ values (omega (arith, c.requires.area.some)) (omega arith) (c.column_sums-sums.ensures.at _ j)
    c.row_place-to.ensures c.row-multiples.ensures c.subtract_values.ensures))
