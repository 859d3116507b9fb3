-- `products::Products::of` meets its contract: each table is what antt computes by the rule. Assumes nothing.
use mathlib.Core.Path.{refl, ◌∙◌}
use Prim.Native.Nat.{◌+◌, ◌*◌}
use native.Mathlib.Omega.{arith}
use lib.ListN.{replicate, get_or-append}
use Rattle.symbols.specs.Tables.{product_table}
use Rattle.symbols.proofs.Bytes.{known-other, known-high}
use Rattle.symbols.proofs.TableRules.{product-in, computing}
use Rattle.products.proofs.Products.of.Goals as goal

pub invariant_of-result : goal.invariant_of-result
unfolding computing
invariant_of-result c =
    record {
      known = c.requires;
      small = known-high _ c.requires;
      complete = rw c.if-q-eq4.true (record { long = refl; at = product-in 4 });
    }

-- the table of q = 2 stands in the first 16 places
pub invariant_of-result-2 : goal.invariant_of-result-2
unfolding computing
invariant_of-result-2 c =
    let e = known-other _ c.requires c.if-q-eq4.false in
    record {
      known = c.requires;
      small = known-high _ c.requires;
      complete = rw e
          (record {
            long = refl;
            at = λ a b ha hb. get_or-append (product_table 2) (replicate 240 0) 0 (a * 4 + b) (omega (arith, ha, hb)) ∙ product-in 2 a b ha hb;
          });
    }
