-- The tape code's numbers.
-- Assumes nothing.
use mathlib.Core.Path.{◌≡◌, refl}
use mathlib.Core.Bool.{true}
use Rattle.algebra.specs.Weights.{gap, nongap}
use Rattle.lists.specs.Tables.{from, tab, keep}
use Rattle.symbols.specs.Rule.{is_known, Known}
use Rattle.symbols.proofs.Bytes.{test_known}
use Rattle.curve.specs.Codes.{point_count, is_code, nongaps, dimension, distance, reach}
use Rattle.layout.specs.Layout.{tape_q, tape_u}

-- "n = 64"
pub points-are : point_count tape_q ≡ 64
unfolding point_count
points-are = refl

-- "k = 40"
pub dimension-is : dimension tape_q tape_u ≡ 40
unfolding dimension nongaps keep tab from nongap gap
dimension-is = refl

-- "τ = 9"
pub reach-is : reach tape_q tape_u ≡ 9
unfolding reach distance point_count
reach-is = refl

-- q = 4 is known
known : is_known tape_q ≡ true
unfolding is_known
known = refl

pub known-tape : Known tape_q
known-tape = test_known tape_q known

-- u = 45 is a code's
pub a-code : is_code tape_q tape_u ≡ true
unfolding is_code point_count nongap gap
a-code = refl
