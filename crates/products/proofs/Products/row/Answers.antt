-- `products::Products::row` meets its contract: the part of the table is the row. Assumes nothing.
use mathlib.Core.Path.{◌∙◌}
use native.Mathlib.Omega.{arith}
use Rattle.symbols.specs.Rule.{size}
use Rattle.symbols.proofs.Bytes.{known-other}
use Rattle.symbols.proofs.TableRules.{row-of-list}
use Rattle.products.proofs.Products.row.Goals as goal

pub returns-then-self-eq4 : goal.returns-then-self-eq4
unfolding size
returns-then-self-eq4 c =
    let e = c.if-self-eq4.true in
    c.part_of.ensures ∙ (rw e (row-of-list 4 c.args.a _ (rw e at c.args.self.complete).at))

pub returns-else-self-eq4 : goal.returns-else-self-eq4
unfolding size
returns-else-self-eq4 c =
    let e = known-other _ c.args.self.known c.if-self-eq4.false in
    c.part_of-else-self-eq4.ensures ∙ (rw e (row-of-list 2 c.args.a _ (rw e at c.args.self.complete).at))

pub part_of-requires-else-self-eq4 : goal.part_of-requires-else-self-eq4
part_of-requires-else-self-eq4 c = (omega arith, omega (arith, c.args.self.complete.long))
