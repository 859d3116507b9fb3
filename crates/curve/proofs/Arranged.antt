-- The points stand in q² columns of q: the x run through all symbols in order, and above each x stand q different y in order.
-- Computed for q = 2 and q = 4, and turned into laws once.
-- Assumes nothing.
use mathlib.Core.Path.{◌≡◌, refl, sym, ap, ◌∙◌, subst}
use mathlib.Core.Logic.{inl, inr, ⊎_elim}
use mathlib.Core.Bool.{Bool, true}
use mathlib.Core.List.{List, [], ◌∷◌}
use Prim.Native.Nat.{ℕ, ◌+◌, ◌*◌, ◌<◌}
use native.Mathlib.Omega.{arith}
use lib.Dec.{T, eqb, ltb, eqb→eq, ltb→lt}
use lib.ListN.{length, get_or}
use Rattle.algebra.specs.Symbols.{Symbols, Laws, same, power}
use Rattle.algebra.proofs.OnCurve.{OnCurve}
use Rattle.algebra.proofs.Interpolation.{Columns}
use Rattle.lists.specs.Tables.{from, tab, keep}
use Rattle.lists.proofs.Numbers.{same-or-apart}
use Rattle.symbols.specs.Rule.{Known, size, reduced_by, sum_of, difference_of, twice, chosen, product, Below, into, symbols}
use Rattle.symbols.proofs.Tested.{every, every-at, all, all-at, Numbered, same-eq}
use Rattle.symbols.proofs.FieldLaws.{laws-of}
use Rattle.curve.specs.Points.{Point, on_curve, pair, points, point_at}
use Rattle.curve.specs.Codes.{point_count}

module _ (𝓢 : Symbols) (q : ℕ) where
  open 𝓢 use {K, 𝟘, number, symbol}

  -- point a·q + b is point b of column a
  pub record Arranged : Type 0 where
    pub count : length (points 𝓢 q) ≡ point_count q
    pub abscissa : (a b : ℕ) → a < q * q → b < q → (point_at 𝓢 q (a * q + b)).x ≡ symbol a
    pub on-curve : (a b : ℕ) → a < q * q → b < q → OnCurve 𝓢 q (point_at 𝓢 q (a * q + b)).x (point_at 𝓢 q (a * q + b)).y
    pub rising : (a b c : ℕ) → a < q * q → b < q → c < b
        → number (point_at 𝓢 q (a * q + c)).y < number (point_at 𝓢 q (a * q + b)).y

  -- point m of a list of points
  abbrev pub at : List (Point 𝓢 q) → ℕ → Point 𝓢 q
  at Ps m = get_or Ps m (record { x = 𝟘; y = 𝟘 })

  -- the same as tests of a list of points
  unfoldable tests : List (Point 𝓢 q) → List Bool
  tests Ps =
      eqb (length Ps) (point_count q)
      ∷ all (q * q) (λ a. all q (λ b. same 𝓢 (at Ps (a * q + b)).x (symbol a)))
      ∷ all (q * q) (λ a. all q (λ b. on_curve 𝓢 q (at Ps (a * q + b))))
      ∷ all (q * q) (λ a. all q (λ b. all b (λ c. ltb (number (at Ps (a * q + c)).y) (number (at Ps (a * q + b)).y))))
      ∷ []

  -- points that pass the tests are arranged
  arranged : Laws 𝓢 q → T (every (tests (points 𝓢 q))) → Arranged
  unfolding tests point_at on_curve
  arranged 𝓛 p =
      record {
        count = eqb→eq _ _ (passed 0);
        abscissa = λ a b ha hb. same-eq 𝓢 (q * q) numbered _ _ (all-at q _ (all-at (q * q) _ (passed 1) a ha) b hb);
        on-curve = λ a b ha hb. same-eq 𝓢 (q * q) numbered _ _ (all-at q _ (all-at (q * q) _ (passed 2) a ha) b hb);
        rising = λ a b c ha hb hc. ltb→lt _ _ (all-at b _ (all-at q _ (all-at (q * q) _ (passed 3) a ha) b hb) c hc);
      }
    where
      passed : (i : ℕ) → T (get_or (tests (points 𝓢 q)) i true)
      passed = every-at (tests (points 𝓢 q)) p

      numbered : Numbered 𝓢 (q * q)
      numbered = record { number-below = 𝓛.number-below; symbol-number = 𝓛.symbol-number }

-- opens all that the tests compute with
unfoldable computing : Unit {0}
unfolding tests every all same power from tab keep size reduced_by sum_of difference_of twice chosen product Below into symbols on_curve pair points point_count
computing = tt

-- the tests pass for q = 2 and for q = 4
arranged2 : Arranged (symbols 2) 2
unfolding computing Known
arranged2 = arranged (symbols 2) 2 (laws-of 2 (inl refl)) tt

arranged4 : Arranged (symbols 4) 4
unfolding computing Known
arranged4 = arranged (symbols 4) 4 (laws-of 4 (inr refl)) tt

-- the points of each q of the product
pub points-arranged : (q : ℕ) → Known q → Arranged (symbols q) q
unfolding Known
points-arranged q =
    ⊎_elim
    (λ (e : q ≡ 2). subst (λ (n : ℕ). Arranged (symbols n) n) (sym e) arranged2)
    (λ (e : q ≡ 4). subst (λ (n : ℕ). Arranged (symbols n) n) (sym e) arranged4)

module _ {𝓢 : Symbols} {q : ℕ} (𝓛 : Laws 𝓢 q) (A : Arranged 𝓢 q) where
  open 𝓢 use {K, number, symbol}

  -- the x of column a is symbol a, and y number b of column a
  pub columns : Columns 𝓢 q symbol (λ a b. (point_at 𝓢 q (a * q + b)).y)
  columns =
      record {
        columns-apart = λ a a' ha ha' e. sym (𝓛.number-symbol a ha) ∙ ap number e ∙ 𝓛.number-symbol a' ha';
        rows_apart = λ a b b' ha hb hb' e. ⊎_elim
            (λ (same : b ≡ b'). same)
            (λ other. ⊎_elim
            (λ (l : b < b'). absurd (omega (arith, A.rising a b' b ha hb' l, ap number e)))
            (λ (l : b' < b). absurd (omega (arith, A.rising a b b' ha hb l, ap number e)))
            other)
            (same-or-apart b b');
        on-curve =
            λ a b ha hb. subst (λ x. OnCurve 𝓢 q x (point_at 𝓢 q (a * q + b)).y) (A.abscissa a b ha hb)
            (A.on-curve a b ha hb);
      }
