-- Counting votes: what those who are right give against what those who are wrong give, by sums of numbers alone.
-- Assumes nothing.
use mathlib.Core.Path.{◌≡◌, refl}
use mathlib.Core.Bool.{Bool, true, false, cond}
use Prim.Native.Nat.{ℕ, ◌+◌, ◌*◌, ◌-◌, ◌≤◌, ◌<◌}
use native.Mathlib.Omega.{arith}
use Rattle.algebra.specs.Totals.{total}
use Rattle.algebra.proofs.NumberSums.{total-le, total-add, total-mul, total-const}

-- n voters with the numbers A, D, e and the pairing number κ⁺ - κ⁻ at A = 0; each gives D + κ⁻ - (A + κ⁺) at least
module _ (n N : ℕ) (A D e κ⁺ κ⁻ given : ℕ → ℕ) (right : ℕ → Bool) where
  -- given by a voter who is right
  abbrev for_it : ℕ → ℕ
  for_it i = cond (right i) (given i) 0

  -- and by one who is wrong
  abbrev against : ℕ → ℕ
  against i = cond (right i) 0 (given i)

  -- the degrees add up to n N; no A is above its e, and what a wrong voter gives is part of its e
  module _ (sum : total n (λ i. A i + D i) ≡ n * N) (low : (i : ℕ) → i < n → A i ≤ e i) (high : (i : ℕ) → i < n → D i ≤ N)
      (worth : (i : ℕ) → i < n → D i + κ⁻ i ≤ given i + (A i + κ⁺ i))
      (wrong : (i : ℕ) → i < n → right i ≡ false → given i + A i ≤ e i) where
    -- one voter
    one : (i : ℕ) → i < n → (b : Bool) → right i ≡ b → A i + D i + ((N + κ⁻ i - κ⁺ i) + against i) ≤ for_it i + (N + 2 * e i)
    one i hi true t = rw t (omega (arith, low i hi, high i hi, worth i hi))
    one i hi false t = rw t (omega (arith, low i hi, high i hi, worth i hi, wrong i hi t))

    -- all voters: the right ones lead by the start's sum less twice all e
    pub outvoting : total n (λ i. N + κ⁻ i - κ⁺ i) + total n against ≤ total n for_it + 2 * total n e
    outvoting =
        omega (
          arith,
          sum,
          total-le n (λ i hi. one i hi (right i) refl),
          total-add n (λ i. A i + D i) (λ i. (N + κ⁻ i - κ⁺ i) + against i),
          total-add n (λ i. N + κ⁻ i - κ⁺ i) against,
          total-add n for_it (λ i. N + 2 * e i),
          total-add n (λ i. N) (λ i. 2 * e i),
          total-const n N,
          total-mul n 2 e,
        )
