-- A message's sum as a function on the curve: its symbols are the coefficients of the monomials of the non-gaps, from 0 upwards.
-- Document 01, "Fields and curve", on functions and on messages.
-- Assumes nothing.
use Rattle.std.specs.Prelude.{true, false, List, ℕ, ltb, get_or}
use Rattle.algebra.specs.Symbols.{Symbols}
use Rattle.algebra.specs.Weights.{weight}
use Rattle.algebra.specs.Functions.{Fn}
use Rattle.curve.specs.Ranks.{rank}

module _ (𝓢 : Symbols) (q : ℕ) where
  open 𝓢 use {K, 𝟘}

  -- the coefficient of x^i y^j is the message's symbol for its weight; no weight above u has one
  unfoldable pub message_function : ℕ → List K → Fn 𝓢 q
  message_function u message j i = elim (ltb u (weight q j i)) [ true ↦ 𝟘 | false ↦ get_or message (rank q (weight q j i)) 𝟘 ]
