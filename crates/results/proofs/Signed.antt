-- Integers in the machine's words: what a call returned, a small number, and a small number with a minus. Assumes nothing.
use mathlib.Core.Path.{◌≡◌, sym, ap, subst, ◌∙◌}
use Prim.Native.Nat.{ℕ, zero, suc, ◌<◌, ◌^◌}
use native.Mathlib.Omega.{arith}
use lib.IntN.{ℤ, pos, neg_ℤ, ◌-ℤ◌, +ℤ_idl}
use lib.Signed.{mag}
use mir.Syntax.{w64}
use mir.Val.{hbits, SFits, to_z, of_z}
use mir.Facts.{to_z-of_z, to_z_pos}

-- an integer that fits its type is read from the word as it was written
pub returned : {z : ℤ} → mag z < 2 ^ hbits w64 → to_z w64 (of_z w64 z) ≡ z
returned fits = to_z-of_z {w = w64} (record { sfits = fits })

-- minus a small number fits
minus-fits : (n : ℕ) → n < 2 ^ hbits w64 → SFits w64 (neg_ℤ (pos n))
minus-fits zero small = record { sfits = small }
minus-fits (suc n) small = record { sfits = omega (arith, small) }

-- a small number taken from zero
from_zero : {n : ℕ} → n < 2 ^ hbits w64 → pos 0 -ℤ to_z w64 n ≡ neg_ℤ (pos n)
from_zero {n} small = ap (λ (z : ℤ). pos 0 -ℤ z) (to_z_pos w64 small) ∙ +ℤ_idl (neg_ℤ (pos n))

-- is minus that number, and fits
pub from-zero-fits : {n : ℕ} → n < 2 ^ hbits w64 → SFits w64 (pos 0 -ℤ to_z w64 n)
from-zero-fits {n} small = subst (SFits w64) (sym (from_zero small)) (minus-fits n small)

pub negated : {n : ℕ} → n < 2 ^ hbits w64 → to_z w64 (of_z w64 (pos 0 -ℤ to_z w64 n)) ≡ neg_ℤ (pos n)
negated small = to_z-of_z {w = w64} (from-zero-fits small) ∙ from_zero small
