-- The products and the inverse of the definition.
-- Assumes nothing.
use Rattle.updates.proofs.ChangeLaws.{ratio-is}
use Rattle.updates.proofs.ratio_of.Goals as goal

pub returns : goal.returns
returns c =
    λ ω P ev ew em en. ratio-is _ c.args.products.known ω P _ _ _ _ _ _ _ _ ev ew em en c.difference-difference.ensures c.product-product.ensures c.inverse.ensures c.product.ensures
