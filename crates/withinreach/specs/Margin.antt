-- By how much the right symbol leads a vote when no place is wrong: ν(s) of Wish 3, as its formula and as what the pairs give at
-- the degrees before the first step.
-- Assumes nothing.
use Rattle.std.specs.Prelude.{cond, ℕ, ◌+◌, ◌*◌, ◌-◌, ◌/◌, ◌%◌}
use Rattle.algebra.specs.Symbols.{Symbols, same}
use Rattle.algebra.specs.Weights.{weight}
use Rattle.algebra.specs.Totals.{total}
use Rattle.curve.specs.Codes.{point_count}
use Rattle.published.specs.Pairing.{Pairing, positive_part}

-- ν(s) = n - s + r·max(t - r + q + 1 - q², 0), with s = tq + r and r below q
unfoldable pub margin : ℕ → ℕ → ℕ
margin q s =
    let t = s / q in
    let r = s % q in
    point_count q - s + r * (t + q + 1 - (r + q * q))

-- max(q² - k, 0) for pair i of step s, where A is 0 and so D is q²: the quotient is k + i', the remainder i'
unfoldable pub start_gain : ℕ → ℕ → ℕ → ℕ
start_gain q s i =
    let total = weight q i 0 + s in
    q * q + total % q - total / q

-- of all pairs together
unfoldable pub start_gains : ℕ → ℕ → ℕ
start_gains q s = total q (start_gain q s)

module _ (𝓢 : Symbols) (q : ℕ) where
  open 𝓢 use {K}

  -- what a pair gives to the symbol that it names: max(c, 0)
  unfoldable pub gain : Pairing 𝓢 q → ℕ
  gain P = positive_part P.c

  -- what the symbol w is given by the pairs that name it
  unfoldable pub gains_for : (ℕ → Pairing 𝓢 q) → K → ℕ
  gains_for P w = total q (λ i. cond (same 𝓢 (P i).w w) (gain (P i)) 0)

  -- and what all others together are given
  unfoldable pub gains_against : (ℕ → Pairing 𝓢 q) → K → ℕ
  gains_against P w = total q (λ i. cond (same 𝓢 (P i).w w) 0 (gain (P i)))
