-- The points and a message's row as tables over the points' numbers.
-- Assumes nothing.
use mathlib.Core.Path.{◌≡◌, ap, sym, ◌∙◌}
use mathlib.Core.List.{List, map}
use Prim.Native.Nat.{ℕ, ◌*◌, ◌<◌}
use native.Mathlib.Nat.{mul_assoc}
use lib.ListN.{length, get_or}
use Rattle.algebra.specs.Symbols.{Symbols, Laws}
use Rattle.algebra.specs.Functions.{value_at}
use Rattle.lists.specs.Tables.{tab}
use Rattle.lists.proofs.Tables.{length-tab, get_or-tab, tab-of, map-tab}
use Rattle.curve.specs.Points.{points, point_at}
use Rattle.curve.specs.Codes.{point_count, nongaps}
use Rattle.curve.specs.Rows.{message_at, row_of}
use Rattle.curve.specs.MessageFunction.{message_function}
use Rattle.curve.proofs.Arranged.{Arranged}
use Rattle.curve.proofs.MessageFunction.{function-value}

-- n, multiplied the other way
pub count-is : (q : ℕ) → point_count q ≡ q * (q * q)
unfolding point_count
count-is q = mul_assoc q q q

module _ {𝓢 : Symbols} {q : ℕ} (A : Arranged 𝓢 q) where
  open 𝓢 use {K, 𝟘}

  -- the points by their numbers
  pub points-tab : points 𝓢 q ≡ tab (point_count q) (point_at 𝓢 q)
  unfolding point_at
  points-tab = tab-of (record { x = 𝟘; y = 𝟘 }) (points 𝓢 q) ∙ ap (λ n. tab n (point_at 𝓢 q)) A.count

  -- a row by the points' numbers
  pub row-tab : (u : ℕ) (message : List K)
      → row_of 𝓢 q u message ≡ tab (point_count q) (λ m. message_at 𝓢 q (nongaps q u) message (point_at 𝓢 q m))
  unfolding row_of
  row-tab u message =
      ap (map (message_at 𝓢 q (nongaps q u) message)) points-tab
      ∙ map-tab (message_at 𝓢 q (nongaps q u) message) (point_count q) (point_at 𝓢 q)

  -- a row has n symbols
  pub row-length : (u : ℕ) (message : List K) → length (row_of 𝓢 q u message) ≡ point_count q
  row-length u message = ap length (row-tab u message) ∙ length-tab (point_count q) _

  -- the symbol of a row at a point
  pub row_at : (u : ℕ) (message : List K) (m : ℕ) → m < point_count q
      → get_or (row_of 𝓢 q u message) m 𝟘 ≡ message_at 𝓢 q (nongaps q u) message (point_at 𝓢 q m)
  row_at u message m h = ap (λ l. get_or l m 𝟘) (row-tab u message) ∙ get_or-tab (point_count q) _ m 𝟘 h

  -- the symbol of a row at a point is the value of the message's function there
  pub row-value : Laws 𝓢 q → (u : ℕ) (message : List K) → u < point_count q → (m : ℕ) → m < point_count q
      → get_or (row_of 𝓢 q u message) m 𝟘 ≡ value_at 𝓢 q (q * q) (message_function 𝓢 q u message) (point_at 𝓢 q m).x
      (point_at 𝓢 q m).y
  row-value 𝓛 u message small m h =
      row_at u message m h ∙ sym (function-value 𝓛 u message (rw (count-is q) at small) (point_at 𝓢 q m))
