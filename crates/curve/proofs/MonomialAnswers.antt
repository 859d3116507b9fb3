-- What the answer for a weight says of the weight.
-- Assumes nothing.
use mathlib.Core.Path.{◌≡◌, refl}
use mathlib.Core.Bool.{Bool, true, false}
use Prim.Native.Nat.{ℕ}
use native.Mathlib.Omega.{arith}
use Rattle.std.specs.Prelude.{Option, Some, None}
use Rattle.algebra.specs.Weights.{gap, x_power, y_power}
use Rattle.curve.specs.declared.Powers.{Powers}
use Rattle.curve.specs.Answers.{monomial_of}

-- a weight that is no gap, with the powers of its monomial
pub record Found (q s : ℕ) (powers : Powers) : Type 0 where
  pub nongap : gap q s ≡ false
  pub power-x : powers.x ≡ x_power q s
  pub power-y : powers.y ≡ y_power q s

-- an answer with powers
pub found : (q s : ℕ) (powers : Powers) → monomial_of q s ≡ Some powers → Found q s powers
unfolding monomial_of
found q s powers e = go (gap q s) refl e
  where
    go : (b : Bool) → gap q s ≡ b → elim b [ true ↦ None | false ↦ Some (record { x = x_power q s; y = y_power q s }) ] ≡ Some powers
        → Found q s powers
    go true t e = let z : ◌≡◌ {A = ℕ} 0 1 = cc in absurd (omega arith)
    go false t e = record { nongap = t; power-x = cc; power-y = cc }

-- an answer without
pub missed : (q s : ℕ) → monomial_of q s ≡ None → gap q s ≡ true
unfolding monomial_of
missed q s e = go (gap q s) refl e
  where
    go : (b : Bool) → gap q s ≡ b
        → ◌≡◌ {A = Option Powers} (elim b [ true ↦ None | false ↦ Some (record { x = x_power q s; y = y_power q s }) ]) None
        → gap q s ≡ true
    go true t e = t
    go false t e = let z : ◌≡◌ {A = ℕ} 0 1 = cc in absurd (omega arith)
