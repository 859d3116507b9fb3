-- `products::Products::product` meets its contract: the place read holds the product. Assumes nothing.
use native.Mathlib.Omega.{arith}
use Rattle.symbols.specs.Rule.{size}
use Rattle.symbols.specs.Tables.{product_number}
use Rattle.symbols.proofs.Bytes.{known-other}
use Rattle.symbols.proofs.TableRules.{product-of-list}
use Rattle.products.proofs.Products.product.Goals as goal

pub returns-then-self-eq4 : goal.returns-then-self-eq4
unfolding size product_number
returns-then-self-eq4 c =
    let e = c.if-self-eq4.true in
    rw e (product-of-list 4 c.args.a c.args.b _ (rw e at c.args.self.complete).at)

pub returns-else-self-eq4 : goal.returns-else-self-eq4
unfolding size product_number
returns-else-self-eq4 c =
    let e = known-other _ c.args.self.known c.if-self-eq4.false in
    rw e (product-of-list 2 c.args.a c.args.b _ (rw e at c.args.self.complete).at)

pub bounds-places-a-else-self-eq4 : goal.bounds-places-a-else-self-eq4
bounds-places-a-else-self-eq4 c = omega (arith, c.args.self.complete.long)
