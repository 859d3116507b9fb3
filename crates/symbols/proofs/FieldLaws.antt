-- The symbols of q = 2 and of q = 4 are a field: antt computes that each number but 0 has an inverse, and the rest holds for
-- binary digits in general.
-- Assumes nothing.
use mathlib.Core.Path.{◌≡◌, refl, sym, subst}
use mathlib.Core.Logic.{⊎_elim}
use mathlib.Core.Bool.{Bool}
use Prim.Native.Nat.{ℕ, zero, suc, ◌-◌, ◌^◌, ◌<◌}
use native.Mathlib.Omega.{arith}
use lib.Dec.{T, eqb, eqb→eq, lit<, lit≤}
use Rattle.algebra.specs.Symbols.{Laws}
use Rattle.symbols.specs.Rule.{Known, reduced_by, twice, chosen, product, power_of, inverse_of, symbols}
use Rattle.symbols.proofs.Tested.{all, all-at}
use Rattle.symbols.proofs.BinaryField.{Binary, field}

-- whether the number after x times its inverse is 1
unfoldable inverted : ℕ → ℕ → Bool
inverted q x = eqb (product q (suc x) (inverse_of q (suc x))) 1

-- a test passed by all numbers but 0 is the law
inverses-of : (q m : ℕ) → T (all (2 ^ m - 1) (inverted q)) → (x : ℕ) → 0 < x → x < 2 ^ m → product q x (inverse_of q x) ≡ 1
unfolding inverted
inverses-of q m p zero h b = absurd (omega arith)
inverses-of q m p (suc x) h b = eqb→eq _ _ (all-at (2 ^ m - 1) (inverted q) p x (omega arith))

-- opens all that the test computes with
unfoldable computing : Unit {0}
unfolding all inverted reduced_by twice chosen product power_of inverse_of
computing = tt

binary2 : Binary 2 2
unfolding computing
binary2 =
    record {
      digits = record { some = lit< tt; enough = lit≤ tt; reaches = lit≤ tt; fits = lit< tt };
      square = refl;
      even = refl;
      inverses = inverses-of 2 2 tt;
    }

binary4 : Binary 4 4
unfolding computing
binary4 =
    record {
      digits = record { some = lit< tt; enough = lit≤ tt; reaches = lit≤ tt; fits = lit< tt };
      square = refl;
      even = refl;
      inverses = inverses-of 4 4 tt;
    }

-- the laws of the field for each q of the product
pub laws-of : (q : ℕ) → Known q → Laws (symbols q) q
unfolding Known
laws-of q =
    ⊎_elim
    (λ (e : q ≡ 2). subst (λ (n : ℕ). Laws (symbols n) n) (sym e) (field binary2))
    (λ (e : q ≡ 4). subst (λ (n : ℕ). Laws (symbols n) n) (sym e) (field binary4))
