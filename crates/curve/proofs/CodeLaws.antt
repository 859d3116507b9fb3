-- What follows from q and u being a code: u is below n, and messages are no longer than rows.
-- Assumes nothing.
use mathlib.Core.Path.{◌≡◌}
use mathlib.Core.Bool.{true, ◌&&◌, and-eq-true_iff}
use Prim.Native.Nat.{ℕ, ◌+◌, ◌≤◌, ◌<◌}
use native.Mathlib.Omega.{arith}
use lib.Dec.{leb, ltb}
use borrow.Author.Tests.{ltb-true}
use Rattle.algebra.specs.Weights.{nongap}
use Rattle.curve.specs.Codes.{point_count, is_code, dimension}
use Rattle.curve.proofs.Ranks.{rank-le, dimension-rank}

module _ (q u : ℕ) (code : is_code q u ≡ true) where
  -- the test for u without its lower bound
  rest : ltb u (point_count q) && nongap q u ≡ true
  unfolding is_code
  rest = ((and-eq-true_iff (leb q u) (ltb u (point_count q) && nongap q u)).0 code).1

  -- u is below n
  pub code_below : u < point_count q
  code_below = ltb-true u (point_count q) ((and-eq-true_iff (ltb u (point_count q)) (nongap q u)).0 rest).0

  -- a message is no longer than a row
  pub dimension-le : dimension q u ≤ point_count q
  dimension-le = omega (arith, dimension-rank q u, rank-le q (u + 1), code_below)
