-- The points of the curve y^q + y = x^(q+1), in their order. Document 01, "Fields and curve".
-- Assumes nothing.
use Rattle.std.specs.Prelude.{Bool, List, ℕ, ◌+◌, ◌*◌, ◌/◌, ◌%◌, get_or}
use Rattle.algebra.specs.Symbols.{Symbols, same, power}
use Rattle.lists.specs.Tables.{tab, keep}

module _ (𝓢 : Symbols) (q : ℕ) where
  infixl 65 ◌⊕◌
  open 𝓢 use {K, 𝟘, ◌⊕◌, symbol}

  pub record Point : Type 0 where
    pub x : K
    pub y : K

  -- the curve's equation
  unfoldable pub on_curve : Point → Bool
  on_curve P = same 𝓢 (power 𝓢 P.y q ⊕ P.y) (power 𝓢 P.x (q + 1))

  -- the pair of symbols with number m, x rising and then y rising
  unfoldable pub pair : ℕ → Point
  pair m = record { x = symbol (m / (q * q)); y = symbol (m % (q * q)) }

  -- those of these pairs that are on the curve, in that order
  unfoldable pub points : List Point
  points = keep on_curve (tab (q * q * (q * q)) pair)

  -- the point with number m
  unfoldable pub point_at : ℕ → Point
  point_at m = get_or points m (record { x = 𝟘; y = 𝟘 })
