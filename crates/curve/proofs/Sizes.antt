-- Numbers of a known q are small: nothing that is computed of them wraps.
-- Assumes nothing.
use mathlib.Core.Path.{◌≡◌}
use mathlib.Core.Logic.{⊎_elim}
use Prim.Native.Nat.{ℕ, ◌+◌, ◌*◌, ◌%◌, ◌≤◌}
use native.Mathlib.Omega.{arith}
use Rattle.symbols.specs.Rule.{Known}
use Rattle.symbols.proofs.Bytes.{cube-small}
use Rattle.curve.specs.Codes.{point_count}

-- there are at most 64 points
pub count_small : (q : ℕ) → Known q → point_count q ≤ 64
unfolding point_count
count_small q k = cube-small q k

-- the weight of a power of y
pub least-small : (q s : ℕ) → Known q → (q + 1) * (s % q) ≤ 15
unfolding Known
least-small q s = ⊎_elim (λ (e : q ≡ 2). rw e (omega arith)) (λ (e : q ≡ 4). rw e (omega arith))
