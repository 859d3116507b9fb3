-- Differences of numbers as i64: they fit, the machine's exact division of one is the difference of the quotients, and what
-- a test of the sign and a cast say.
-- Assumes nothing.
use mathlib.Core.Path.{◌≡◌, refl, sym, ap, ◌∙◌}
use mathlib.Core.Bool.{Bool, true, false, true≢false, cond}
use Prim.Native.Nat.{ℕ, zero, suc, ◌+◌, ◌-◌, ◌*◌, ◌/◌, ◌%◌, ◌^◌, ◌<◌, ◌≤◌}
use native.Mathlib.Nat.{add-zero, sub-zero, add-mul, mul-add, mul-one, mul_comm, mul-le-mul_left, mul-div_cancel_left, div-add-mod', div-le_self, mod-lt, mul-le-mul, not-suc-le-zero}
use native.Mathlib.Omega.{arith}
use lib.Dec.{T, ltb}
use lib.IntN.{ℤ, pos, negsuc, sub_ℕ, ◌-ℤ◌, nat_abs}
use lib.Signed.{mag, le_z, lt_z, non_neg, quot_z}
use borrow.Author.Tests.{le-leb, lt-ltb, le-ltb, ltb-true, ltb-false}
use mir.Syntax.{w64}
use mir.Val.{Fits, SFits, to_z, of_z}
use mir.ValLaws.{to_z-of_z}
use Rattle.symbols.specs.Sizes.{most_q, most_degree, most_shift}
use Rattle.symbols.specs.Rule.{Known}
use Rattle.published.specs.Pairing.{k_of, positive_part, negative_part, is_negative}
use Rattle.workarea.proofs.Sizes.{sizes}

-- m - n, an integer; shut, so that it is not written out
unfoldable pub difference : ℕ → ℕ → ℤ
difference m n = sub_ℕ m n

-- k as a difference
pub k-difference : (q total : ℕ) → k_of q total ≡ difference (total / q) (total % q)
unfolding k_of difference
k-difference q total = refl

-- below 2^63 the bits of a number are the number
pub plain : (m : ℕ) → m < 2 ^ 63 → to_z w64 m ≡ pos m
plain m h = to_z-of_z w64 (pos m) (record { sfits = h })

pos-sub : (m n : ℕ) → pos m -ℤ pos n ≡ difference m n
unfolding difference
pos-sub m zero = rw (le-ltb m zero (omega arith), add-zero, sub-zero)
pos-sub m (suc n) = refl

mag-difference : (m n : ℕ) → m < 2 ^ 63 → n < 2 ^ 63 → mag (difference m n) < 2 ^ 63
unfolding difference
mag-difference m n hm hn = go (ltb m n)
  where
    go : (t : Bool) → mag (cond t (negsuc (n - suc m)) (pos (m - n))) < 2 ^ 63
    go true = omega arith
    go false = omega arith

module _ (m n : ℕ) (hm : m < 2 ^ 63) (hn : n < 2 ^ 63) where
  is-difference : to_z w64 m -ℤ to_z w64 n ≡ difference m n
  is-difference = rw (plain m hm, plain n hn) (pos-sub m n)

  -- the difference of two casts fits
  pub difference-fits : SFits w64 (to_z w64 m -ℤ to_z w64 n)
  difference-fits = rw is-difference (record { sfits = mag-difference m n hm hn })

  difference-value : to_z w64 (of_z w64 (to_z w64 m -ℤ to_z w64 n)) ≡ difference m n
  difference-value = to_z-of_z w64 _ difference-fits ∙ is-difference

-- x - y is q times m - n, so the division is exact
quotient-exact : (q m n x y : ℕ) → 0 < q → q * m + y ≡ x + q * n → quot_z (difference x y) (pos q) ≡ difference m n
unfolding difference
quotient-exact q m n x y h e = go (ltb m n) refl
  where
    go : (t : Bool) → ltb m n ≡ t → quot_z (cond (ltb x y) (negsuc (y - suc x)) (pos (x - y))) (pos q) ≡ cond t (negsuc (n - suc m)) (pos (m - n))
    go true b =
        let less = ltb-true m n b in
        let d = n - suc m in
        let sum : n ≡ m + suc d = omega arith in
        let product : q * n ≡ q * m + q * suc d = ap (λ (k : ℕ). q * k) sum ∙ mul-add q m (suc d) in
        let some : q * 1 ≤ q * suc d = mul-le-mul_left q (omega arith) in
        let once = mul-one q in
        let z : suc (y - suc x) ≡ q * suc d = omega arith in
        rw (lt-ltb x y (omega arith), z, mul-div_cancel_left (suc d) h)
    go false b =
        let most = ltb-false m n b in
        let sum : m ≡ n + (m - n) = omega arith in
        let product : q * m ≡ q * n + q * (m - n) = ap (λ (k : ℕ). q * k) sum ∙ mul-add q n (m - n) in
        let z : x - y ≡ q * (m - n) = omega arith in
        rw (le-ltb x y (omega arith), z, mul-div_cancel_left (m - n) h)

-- how large the numbers of the division are
pub record Divided (q total : ℕ) : Type 0 where
  pub some : 0 < q
  pub few : q ≤ most_q
  pub small : total ≤ most_degree
  pub part : total % q < q
  pub low : (q + 1) * (total % q) ≤ (most_q + 1) * most_q
  pub up : total / q ≤ most_degree

pub divided : (q total : ℕ) → Known q → total ≤ most_degree → Divided q total
divided q total known h =
    let s = sizes q known in
    let m = mod-lt total {m = q} (omega arith) in
    record {
      some = omega arith;
      few = s.few;
      small = h;
      part = m;
      low = mul-le-mul {n₁ = q + 1} {m₁ = total % q} {n₂ = most_q + 1} {m₂ = most_q} (omega arith) (omega arith);
      up = omega (arith, div-le_self total q);
    }

module _ (q total : ℕ) (d : Divided q total) where
  -- the equation of k: q·(total / q) + (q + 1)·(total mod q) is total plus q·(total mod q)
  balance : q * (total / q) + (q + 1) * (total % q) ≡ total + q * (total % q)
  balance = omega (arith, div-add-mod' total q, mul_comm (total / q) q, add-mul q 1 (total % q))

  is-k : quot_z (to_z w64 (of_z w64 (to_z w64 total -ℤ to_z w64 ((q + 1) * (total % q))))) (to_z w64 q) ≡ k_of q total
  is-k =
      rw (difference-value total ((q + 1) * (total % q)) (omega arith) (omega arith), plain q (omega arith))
      (quotient-exact q (total / q) (total % q) total ((q + 1) * (total % q)) d.some balance ∙ sym (k-difference q total))

  -- the quotient fits, and it is k
  pub k-fits : SFits w64 (quot_z (to_z w64 (of_z w64 (to_z w64 total -ℤ to_z w64 ((q + 1) * (total % q))))) (to_z w64 q))
  k-fits = rw (is-k, k-difference q total) (record { sfits = mag-difference (total / q) (total % q) (omega arith) (omega arith) })

  pub k-value : to_z w64 (of_z w64 (quot_z (to_z w64 (of_z w64 (to_z w64 total -ℤ to_z w64 ((q + 1) * (total % q))))) (to_z w64 q))) ≡ k_of q total
  k-value = to_z-of_z w64 _ k-fits ∙ is-k

  -- k is small
  pub k-small : nat_abs (k_of q total) ≤ most_degree
  unfolding k_of
  k-small = go (ltb (total / q) (total % q))
    where
      go : (t : Bool) → nat_abs (cond t (negsuc (total % q - suc (total / q))) (pos (total / q - total % q))) ≤ most_degree
      go true = omega arith
      go false = omega arith

-- a small integer fits, and its bits are it again
pub small-fits : (z : ℤ) → nat_abs z ≤ most_shift → SFits w64 z
small-fits (pos n) h = record { sfits = omega arith }
small-fits (negsuc n) h = record { sfits = omega arith }

pub back : (z : ℤ) → nat_abs z ≤ most_shift → to_z w64 (of_z w64 z) ≡ z
back z h = to_z-of_z w64 z (small-fits z h)

module _ (d : ℕ) (z : ℤ) (hd : d ≤ most_degree) (hz : nat_abs z ≤ most_degree) where
  -- a number less a small integer is small
  pub less-small : nat_abs (pos d -ℤ z) ≤ most_shift
  unfolding difference
  less-small = go z hz
    where
      go : (y : ℤ) → nat_abs y ≤ most_degree → nat_abs (pos d -ℤ y) ≤ most_shift
      go (pos n) h = rw (pos-sub d n) (part (ltb d n) refl)
        where
          part : (t : Bool) → ltb d n ≡ t → nat_abs (cond t (negsuc (n - suc d)) (pos (d - n))) ≤ most_shift
          part true e = omega (arith, ltb-true d n e)
          part false e = omega arith
      go (negsuc n) h = omega arith

  -- so the code's difference fits, and it is the integer
  pub less-fits : SFits w64 (to_z w64 d -ℤ to_z w64 (of_z w64 z))
  less-fits = rw (plain d (omega arith), back z (omega arith)) (small-fits (pos d -ℤ z) less-small)

  pub less-value : to_z w64 (of_z w64 (to_z w64 d -ℤ to_z w64 (of_z w64 z))) ≡ pos d -ℤ z
  less-value = to_z-of_z w64 _ less-fits ∙ (rw (plain d (omega arith), back z (omega arith)))

-- the sign of an integer, as the code's test tells it
pub negative-yes : (z : ℤ) → lt_z z (pos 0) ≡ true → is_negative z ≡ true
unfolding is_negative
negative-yes (pos n) t = absurd (not-suc-le-zero (ltb-true n 0 t))
negative-yes (negsuc n) t = refl

pub negative-no : (z : ℤ) → lt_z z (pos 0) ≡ false → is_negative z ≡ false
unfolding is_negative
negative-no (pos n) t = refl
negative-no (negsuc n) t = t

-- what is not negative is its positive part
pub whole_is : (z : ℤ) → is_negative z ≡ false → z ≡ pos (positive_part z)
unfolding is_negative positive_part
whole_is (pos n) t = refl
whole_is (negsuc n) t = cc

-- as the test the other way round tells it
pub whole-yes : (z : ℤ) → le_z (pos 0) z ≡ true → is_negative z ≡ false
unfolding is_negative
whole-yes (pos n) t = refl
whole-yes (negsuc n) t = sym t

pub whole-no : (z : ℤ) → le_z (pos 0) z ≡ false → is_negative z ≡ true
unfolding is_negative
whole-no (pos n) t = absurd (true≢false (sym (le-leb 0 n (omega arith)) ∙ t))
whole-no (negsuc n) t = refl

-- an integer that is not negative can be cast to a number
pub cast_fits : (z : ℤ) → nat_abs z ≤ most_shift → z ≡ pos (positive_part z) → T (non_neg z) × Fits w64 (nat_abs z)
unfolding positive_part
cast_fits (pos n) h e = (tt, omega arith)
cast_fits (negsuc n) h e = absurd (cc)

-- c's sign picks the update, and the shift is c without its sign
pub positive-yes : (z : ℤ) → lt_z (pos 0) z ≡ true → (nat_abs z ≡ positive_part z) × (ltb 0 (positive_part z) ≡ true)
unfolding positive_part
positive-yes (pos n) t = (refl, t)
positive-yes (negsuc n) t = absurd (cc)

pub positive-no : (z : ℤ) → lt_z (pos 0) z ≡ false → (nat_abs z ≡ negative_part z) × (positive_part z ≡ 0)
unfolding positive_part negative_part
positive-no (pos zero) t = (refl, refl)
positive-no (pos (suc n)) t = absurd (omega (arith, ltb-false 0 (suc n) t))
positive-no (negsuc n) t = (refl, refl)

-- a positive part is no larger
pub positive-small : (z : ℤ) → positive_part z ≤ nat_abs z
unfolding positive_part
positive-small (pos n) = omega arith
positive-small (negsuc n) = omega arith
