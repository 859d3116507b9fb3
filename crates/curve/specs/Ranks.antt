-- The place of a weight's symbol in a message, which has one for each non-gap, the lowest first. Document 01, "Fields and curve".
-- Assumes nothing.
use Rattle.std.specs.Prelude.{ℕ, length}
use Rattle.algebra.specs.Weights.{nongap}
use Rattle.lists.specs.Tables.{tab, keep}

-- how many non-gaps are below s: the place of the symbol for s
unfoldable pub rank : ℕ → ℕ → ℕ
rank q s = length (keep (nongap q) (tab s (λ n. n)))
