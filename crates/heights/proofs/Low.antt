-- What the check needs of the q of the heights, and of the heights at the start.
-- Assumes nothing.
use mathlib.Core.Path.{◌≡◌}
use mathlib.Core.Bool.{true}
use Prim.Native.Nat.{ℕ}
use Rattle.symbols.specs.Rule.{is_known}
use Rattle.symbols.proofs.Bytes.{test_known, known-test}
use Rattle.workarea.proofs.HeightLaws.{start-many}
use Rattle.workarea.proofs.Sizes.{sizes, Sizes}

-- the sizes of the q of the heights
pub known_sizes : (q : ℕ) → is_known q ≡ true → Sizes q
known_sizes q known = sizes q (test_known q known)

pub ruleset known = (test_known, known_sizes)

pub ruleset started = (known-test, start-many)
