-- The product by y^i alone, with the table row of 1.
-- Assumes nothing.
use Rattle.symbols.specs.Rule.{symbols}
use Rattle.startarea.proofs.StartKinds.{multiplies-one}
use Rattle.startarea.proofs.add_multiple.Goals as goal

pub returns : goal.returns
returns c =
    rw c.width_of-width.ensures at (c.add_product.ensures (symbols c.args.products.q).𝟙 (rw c.row.ensures (multiplies-one _ c.requires.area.known)))
