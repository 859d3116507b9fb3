-- Laws of decimal digits: by their last digit, and how many there are, also of numbers with spaces before them.
-- Assumes nothing.
use mathlib.Core.Path.{◌≡◌, ap, sym, ◌∙◌}
use mathlib.Core.Bool.{Bool, true, false}
use mathlib.Core.List.{List, [], ◌∷◌, ◌++◌}
use Prim.Native.Nat.{ℕ, zero, suc, ◌+◌, ◌*◌, ◌/◌, ◌%◌, ◌^◌, ◌≤◌, ◌<◌}
use native.Mathlib.Nat.{pow-suc, suc-mul}
use native.Mathlib.Decide.{dec_lt}
use native.Mathlib.Omega.{arith}
use lib.ListN.{length, get_or, length-append}
use borrow.Author.Tests.{lt-ltb, le-ltb}
use Rattle.lines.specs.Text.{last_digits, digits, spaced}

-- what the definition takes by its test
by_test : ℕ → ℕ → Bool → List ℕ
by_test most n small = elim small [ true ↦ (48 + n) ∷ [] | false ↦ last_digits most (n / 10) ++ ((48 + n % 10) ∷ []) ]

last_digits-small : (most n : ℕ) → n < 10 → last_digits (suc most) n ≡ (48 + n) ∷ []
unfolding last_digits by_test
last_digits-small most n h = ap (by_test most n) (lt-ltb n 10 h)

last_digits-large : (most n : ℕ) → 10 ≤ n → last_digits (suc most) n ≡ last_digits most (n / 10) ++ ((48 + n % 10) ∷ [])
unfolding last_digits by_test
last_digits-large most n h = ap (by_test most n) (le-ltb n 10 h)

-- more room than n needs changes nothing
last_digits-enough : (a b n : ℕ) → n < a → n < b → last_digits a n ≡ last_digits b n
last_digits-enough zero b n h k = absurd (omega arith)
last_digits-enough (suc a) zero n h k = absurd (omega arith)
last_digits-enough (suc a) (suc b) n h k =
    elim (dec_lt n 10) [
      | yes small ↦ last_digits-small a n small ∙ sym (last_digits-small b n small)
      | no large ↦
          let l : 10 ≤ n = omega arith in
          last_digits-large a n l
          ∙ ap (λ (rest : List ℕ). rest ++ ((48 + n % 10) ∷ [])) (last_digits-enough a b (n / 10) (omega arith) (omega arith))
          ∙ sym (last_digits-large b n l)
    ]

-- below ten there is one digit
pub digits-small : (n : ℕ) → n < 10 → digits n ≡ (48 + n) ∷ []
unfolding digits
digits-small n h = last_digits-small n n h

-- from ten on the last digit stands after those of the tenth
pub digits-large : (n : ℕ) → 10 ≤ n → digits n ≡ digits (n / 10) ++ ((48 + n % 10) ∷ [])
unfolding digits
digits-large n h =
    last_digits-large n n h
    ∙ ap (λ (rest : List ℕ). rest ++ ((48 + n % 10) ∷ [])) (last_digits-enough n (suc (n / 10)) (n / 10) (omega arith) (omega arith))

-- one digit more than the tenth has
pub length-digits-large : (n : ℕ) → 10 ≤ n → length (digits n) ≡ length (digits (n / 10)) + 1
length-digits-large n h = ap length (digits-large n h) ∙ length-append (digits (n / 10)) ((48 + n % 10) ∷ [])

-- the tenth of a number below ten times another is below that one
tenth : (n most : ℕ) → n < most * 10 → n / 10 < most
tenth n most h = omega arith

-- a number below a power of ten has no more digits than the power says
pub length_digits : (k n : ℕ) → n < 10 ^ suc k → length (digits n) ≤ suc k
length_digits zero n h = omega (arith, ap length (digits-small n h))
length_digits (suc k) n h =
    elim (dec_lt n 10) [
      | yes small ↦ omega (arith, ap length (digits-small n small))
      | no large ↦
          omega (arith, length_digits k (n / 10) (tenth n (10 ^ suc k) (rw pow-suc at h)), length-digits-large n (omega arith))
    ]

-- there is at least one digit
pub some-digit : (n : ℕ) → 1 ≤ length (digits n)
some-digit n =
    elim (dec_lt n 10) [
      | yes small ↦ omega (arith, ap length (digits-small n small))
      | no large ↦ omega (arith, length-digits-large n (omega arith))
    ]

-- a larger number has no fewer digits
no-fewer : (most n m : ℕ) → n < most → n ≤ m → length (digits n) ≤ length (digits m)
no-fewer zero n m h le = absurd (omega arith)
no-fewer (suc most) n m h le =
    elim (dec_lt n 10) [
      | yes small ↦ omega (arith, ap length (digits-small n small), some-digit m)
      | no large ↦
          omega (
            arith,
            no-fewer most (n / 10) (m / 10) (omega arith) (omega arith),
            length-digits-large n (omega arith),
            length-digits-large m (omega arith),
          )
    ]

pub digits-widen : (n m : ℕ) → n ≤ m → length (digits n) ≤ length (digits m)
digits-widen n m le = no-fewer (suc n) n m (omega arith) le

-- numbers that are at most `most` take its digits and a space each
pub length-spaced : (most : ℕ) (numbers : List ℕ) → ((i : ℕ) → get_or numbers i 0 ≤ most)
    → length (spaced numbers) ≤ length numbers * suc (length (digits most))
unfolding spaced
length-spaced most [] h = omega arith
length-spaced most (n ∷ numbers) h =
    simp length-append
    (omega (
      arith,
      suc-mul (length numbers) (suc (length (digits most))),
      digits-widen n most (h 0),
      length-spaced most numbers (λ i. h (suc i)),
    ))
