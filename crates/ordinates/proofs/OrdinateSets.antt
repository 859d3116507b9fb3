-- The sets of ordinates give the points: computed for q = 2 and q = 4, and turned into laws once.
-- Assumes nothing.
use mathlib.Core.Path.{◌≡◌, sym, subst}
use mathlib.Core.Logic.{⊎_elim}
use mathlib.Core.Bool.{Bool, true, false, cond}
use mathlib.Core.List.{List}
use Prim.Native.Nat.{ℕ, ◌+◌, ◌*◌, ◌<◌}
use native.Mathlib.Omega.{arith}
use lib.Dec.{T, eqb, eqb→eq}
use lib.ListN.{get_or}
use Rattle.algebra.specs.Symbols.{same, power}
use Rattle.lists.specs.Tables.{from, tab, keep}
use Rattle.symbols.specs.Rule.{Known, size, reduced_by, sum_of, difference_of, twice, chosen, product, Below, into, symbols, number}
use Rattle.symbols.proofs.Tested.{all, all-at}
use Rattle.curve.specs.Points.{Point, on_curve, pair, points, point_at}
use Rattle.ordinates.specs.Ordinates.{sets4, set_place, sets2, ordinate_set, ordinates_above}
use Rattle.curve.proofs.Arranged.{at}

-- there are four sets
pub place-small : (norm : ℕ) → set_place norm < 4
unfolding set_place
place-small norm = go (eqb norm 0) (eqb norm 1) (eqb norm 6)
  where
    go : (a b c : Bool) → cond a 0 (cond b 1 (cond c 2 3)) < 4
    go true b c = omega arith
    go false true c = omega arith
    go false false true = omega arith
    go false false false = omega arith

-- y number b above x = a is number b of the set that belongs to a^(q+1), as a test of a list of points
unfoldable tested : (q : ℕ) → List (Point (symbols q) q) → Bool
tested q Ps =
    all (q * q) (λ a. all q (λ b. eqb (get_or (ordinates_above q a) b 0) (number q (at (symbols q) q Ps (a * q + b)).y)))

-- opens all that the tests compute with
unfoldable computing : Unit {0}
unfolding tested all same power from tab keep size reduced_by sum_of difference_of twice chosen product Below into symbols on_curve pair points sets4 set_place sets2 ordinate_set ordinates_above
computing = tt

-- the sets pass for q = 2 and for q = 4
passed : (q : ℕ) → Known q → T (tested q (points (symbols q) q))
unfolding computing Known
passed q =
    ⊎_elim
    (λ (e : q ≡ 2). subst (λ (n : ℕ). T (tested n (points (symbols n) n))) (sym e) tt)
    (λ (e : q ≡ 4). subst (λ (n : ℕ). T (tested n (points (symbols n) n))) (sym e) tt)

-- y number b above x = a is number b of the set that belongs to a^(q+1)
pub ordinate-at : (q : ℕ) → Known q → (a b : ℕ) → a < q * q → b < q
    → get_or (ordinates_above q a) b 0 ≡ number q (point_at (symbols q) q (a * q + b)).y
unfolding tested point_at
ordinate-at q k a b ha hb = eqb→eq _ _ (all-at q _ (all-at (q * q) _ (passed q k) a ha) b hb)
