-- What a message becomes: its symbols times the monomials of the non-gaps, from 0 upwards, add up to a function, and the row is
-- that function's values at the points. Document 01, "Fields and curve", its last paragraph.
-- Assumes nothing.
use Rattle.std.specs.Prelude.{List, map, ℕ, length, get_or}
use Rattle.algebra.specs.Symbols.{Symbols, sum}
use Rattle.algebra.specs.Functions.{monomial_at}
use Rattle.curve.specs.Points.{Point, points}
use Rattle.curve.specs.Codes.{nongaps}

module _ (𝓢 : Symbols) (q : ℕ) where
  infixl 70 ◌⊗◌
  open 𝓢 use {K, 𝟘, ◌⊗◌}

  -- the value at P of the sum of the message's symbols times the monomials of the weights
  unfoldable pub message_at : List ℕ → List K → Point 𝓢 q → K
  message_at weights message P =
      sum 𝓢 (length weights) (λ m. get_or message m 𝟘 ⊗ monomial_at 𝓢 q (get_or weights m 0) P.x P.y)

  -- the row of a message
  unfoldable pub row_of : ℕ → List K → List K
  row_of u message = map (message_at (nongaps q u) message) (points 𝓢 q)
