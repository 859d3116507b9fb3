-- What the distance of a code is in its two cases, and what bounds it and the reach: both are at least document 01's, and the
-- distance is at most n.
-- Assumes nothing.
use mathlib.Core.Path.{◌≡◌}
use Prim.Native.Nat.{ℕ, ◌+◌, ◌*◌, ◌-◌, ◌/◌, ◌%◌, ◌≤◌, ◌<◌}
use native.Mathlib.Nat.{div-add-mod}
use native.Mathlib.Omega.{arith}
use native.Mathlib.Decide.{dec_le}
use borrow.Author.Tests.{le-leb, lt-leb}
use Rattle.curve.specs.Codes.{point_count, distance, reach}

module _ (q u : ℕ) where
  -- u = aq + b
  in_rows : q * (u / q) + u % q ≡ u
  in_rows = div-add-mod u q

  -- where b ≤ a - (q² - q)
  pub distance-far : u % q + (q * q - q) ≤ u / q → distance q u ≡ point_count q - u / q * q
  unfolding distance
  distance-far h = rw (le-leb (u % q + (q * q - q)) (u / q) h)

  -- and where b is larger
  pub distance-near : u / q < u % q + (q * q - q) → distance q u ≡ point_count q - u
  unfolding distance
  distance-near h = rw (lt-leb (u % q + (q * q - q)) (u / q) h)

  -- between n - u and n
  pub record Bounded : Type 0 where
    pub least : point_count q - u ≤ distance q u
    pub most : distance q u ≤ point_count q

  pub distance-bounds : Bounded
  distance-bounds = elim (dec_le (u % q + (q * q - q)) (u / q)) [
    | yes far ↦ record {
      least = omega (arith, distance-far far, in_rows);
      most = omega (arith, distance-far far);
    }
    | no near ↦ record {
      least = omega (arith, distance-near (omega arith));
      most = omega (arith, distance-near (omega arith));
    }
  ]

  -- so no code reaches less far than by n - u, and none as far as all points
  pub reach-least : (point_count q - u - 1) / 2 ≤ reach q u
  unfolding reach
  reach-least =
      let less : point_count q - u - 1 ≤ distance q u - 1 = omega (arith, distance-bounds.least) in
      omega arith

  pub reach-most : reach q u ≤ point_count q
  unfolding reach
  reach-most = omega (arith, distance-bounds.most)
