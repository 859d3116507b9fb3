-- Laws of the numbers that are read from a text: byte by byte, and those of a text that is written from numbers.
-- Assumes nothing.
use mathlib.Core.Path.{◌≡◌, refl, ap, sym, ◌∙◌}
use mathlib.Core.Bool.{Bool, true, false}
use mathlib.Core.List.{List, [], ◌∷◌, ◌++◌, map, append_assoc, append-nil}
use Prim.Native.Nat.{ℕ, zero, suc, ◌+◌, ◌*◌, ◌-◌, ◌/◌, ◌%◌, ◌≤◌, ◌<◌}
use native.Mathlib.Nat.{mod-eq_of_lt}
use native.Mathlib.Decide.{dec_lt}
use native.Mathlib.Numerals.{add-one}
use native.Mathlib.Omega.{arith}
use borrow.Author.Tests.{ne_eqb}
use lib.ListN.{length, get_or, take, drop, set, drop_of_length-le}
use lib.Seq.{drop-cons, take-suc-set}
use Rattle.lines.specs.Text.{digits, spaced}
use Rattle.lines.proofs.Digits.{digits-small, digits-large}
use Rattle.asking.specs.Request.{line, request, ends_number, grown, numbers_from, as_byte}

-- what the definition takes by its test
by_test : ℕ → ℕ → List ℕ → Bool → List ℕ
by_test value byte text ends = elim ends [ true ↦ value ∷ numbers_from 0 text | false ↦ numbers_from (grown value byte) text ]

-- a byte that ends the number
numbers-end : (value byte : ℕ) (text : List ℕ) → ends_number byte ≡ true → numbers_from value (byte ∷ text) ≡ value ∷ numbers_from 0 text
unfolding numbers_from by_test
numbers-end value byte text h = ap (by_test value byte text) h

-- a byte that does not
numbers-go : (value byte : ℕ) (text : List ℕ) → ends_number byte ≡ false → numbers_from value (byte ∷ text) ≡ numbers_from (grown value byte) text
unfolding numbers_from by_test
numbers-go value byte text h = ap (by_test value byte text) h

-- no digit ends a number
digit-goes : (d : ℕ) → ends_number (48 + d) ≡ false
unfolding ends_number
digit-goes d = rw (ne_eqb (48 + d) 32 (λ e. omega arith), ne_eqb (48 + d) 10 (λ e. omega arith))

-- a digit is read
reads-digit : (value d : ℕ) (rest : List ℕ) → numbers_from value ((48 + d) ∷ rest) ≡ numbers_from ((value * 10 + d) % 1000) rest
unfolding grown
reads-digit value d rest =
    let same : 48 + d - 48 ≡ d = omega arith in
    numbers-go value (48 + d) rest (digit-goes d) ∙ ap (λ (k : ℕ). numbers_from ((value * 10 + k) % 1000) rest) same

-- the digits of a number are read as the number, of which three digits stay
reads-digits : (most n : ℕ) (rest : List ℕ) → n < most → numbers_from 0 (digits n ++ rest) ≡ numbers_from (n % 1000) rest
reads-digits zero n rest h = absurd (omega arith)
reads-digits (suc most) n rest h =
    elim (dec_lt n 10) [
      | yes small ↦
          let last : (0 * 10 + n) % 1000 ≡ n % 1000 = omega arith in
          rw (digits-small n small) (reads-digit 0 n rest ∙ ap (λ (k : ℕ). numbers_from k rest) last)
      | no large ↦
          let last : (n / 10 % 1000 * 10 + n % 10) % 1000 ≡ n % 1000 = omega arith in
          rw (digits-large n (omega arith), append_assoc)
          (reads-digits most (n / 10) ((48 + n % 10) ∷ rest) (omega arith) ∙ reads-digit (n / 10 % 1000) (n % 10) rest
          ∙ ap (λ (k : ℕ). numbers_from k rest) last)
    ]

reads-number : (n : ℕ) (rest : List ℕ) → n < 1000 → numbers_from 0 (digits n ++ rest) ≡ numbers_from n rest
reads-number n rest h =
    reads-digits (suc n) n rest (omega arith) ∙ ap (λ (k : ℕ). numbers_from k rest) (mod-eq_of_lt h)

-- the numbers after a number that has been read, to the line's end
reads-spaced : (value : ℕ) (numbers rest : List ℕ) → ((i : ℕ) → get_or numbers i 0 < 1000)
    → numbers_from value (spaced numbers ++ (10 ∷ rest)) ≡ value ∷ (numbers ++ numbers_from 0 rest)
unfolding spaced
reads-spaced value [] rest h = numbers-end value 10 rest (unfold ends_number in refl)
reads-spaced value (n ∷ numbers) rest h =
    numbers-end value 32 ((digits n ++ spaced numbers) ++ (10 ∷ rest)) (unfold ends_number in refl)
    ∙ ap (λ (l : List ℕ). value ∷ l)
    (ap (numbers_from 0) (append_assoc (digits n) (spaced numbers) (10 ∷ rest))
    ∙ reads-number n (spaced numbers ++ (10 ∷ rest)) (h 0) ∙ reads-spaced n numbers rest (λ i. h (suc i)))

-- a line's numbers are read as they were written
reads-line : (numbers rest : List ℕ) → 0 < length numbers → ((i : ℕ) → get_or numbers i 0 < 1000)
    → numbers_from 0 (line numbers ++ rest) ≡ numbers ++ numbers_from 0 rest
unfolding line
reads-line [] rest some h = absurd (omega arith)
reads-line (n ∷ numbers) rest some h =
    ap (numbers_from 0) (append_assoc (digits n) (spaced numbers ++ (10 ∷ [])) rest ∙ ap (λ (l : List ℕ). digits n ++ l) (append_assoc (spaced numbers) (10 ∷ []) rest))
    ∙ reads-number n (spaced numbers ++ (10 ∷ rest)) (h 0) ∙ reads-spaced n numbers rest (λ i. h (suc i))

-- q, u and a row are read as they were written
pub reads-request : (q u : ℕ) (row : List ℕ) → q < 1000 → u < 1000 → 0 < length row → ((i : ℕ) → get_or row i 0 < 1000)
    → numbers_from 0 (request q u row) ≡ q ∷ u ∷ row
unfolding request
reads-request q u row hq hu some h =
    reads-line (q ∷ u ∷ []) (line row) (omega arith) two
    ∙ ap (λ (l : List ℕ). q ∷ u ∷ l)
    (ap (numbers_from 0) (sym (append-nil (line row))) ∙ reads-line row [] some h ∙ none)
  where
    two : (i : ℕ) → get_or (q ∷ u ∷ []) i 0 < 1000
    two zero = hq
    two (suc zero) = hu
    two (suc (suc i)) = omega arith

    none : row ++ numbers_from 0 [] ≡ row
    none = unfold numbers_from in append-nil row

-- one more number below a thousand
below_all : (n : ℕ) (numbers : List ℕ) → n < 1000 → ((i : ℕ) → get_or numbers i 0 < 1000) → (i : ℕ) → get_or (n ∷ numbers) i 0 < 1000
below_all n numbers h all zero = h
below_all n numbers h all (suc i) = all i

-- every number that is read is below a thousand
pub numbers-small : (value : ℕ) (text : List ℕ) → value < 1000 → (i : ℕ) → get_or (numbers_from value text) i 0 < 1000
unfolding numbers_from
numbers-small value [] h i = omega arith
numbers-small value (byte ∷ text) h i =
    by_end (ends_number byte) refl
    (below_all value (numbers_from 0 text) h (numbers-small 0 text (omega arith)) i)
    (numbers-small (grown value byte) text (unfold grown in omega arith) i)
  where
    by_end : (t : Bool) → ends_number byte ≡ t → get_or (value ∷ numbers_from 0 text) i 0 < 1000
        → get_or (numbers_from (grown value byte) text) i 0 < 1000 → get_or (numbers_from value (byte ∷ text)) i 0 < 1000
    by_end true e end go = rw (numbers-end value byte text e) end
    by_end false e end go = rw (numbers-go value byte text e) go

-- the byte at a place of a text
text_at : (text : List ℕ) (at : ℕ) → at < length text → drop at text ≡ get_or text at 0 ∷ drop (at + 1) text
text_at text at h = drop-cons text at 0 h ∙ ap (λ (k : ℕ). get_or text at 0 ∷ drop k text) (sym (add-one at))

-- the same at a place of a text
pub numbers-end-at : (value : ℕ) (text : List ℕ) (at : ℕ) → at < length text → ends_number (get_or text at 0) ≡ true
    → numbers_from value (drop at text) ≡ value ∷ numbers_from 0 (drop (at + 1) text)
numbers-end-at value text at h ends = rw (text_at text at h) (numbers-end value (get_or text at 0) (drop (at + 1) text) ends)

pub numbers-go-at : (value : ℕ) (text : List ℕ) (at : ℕ) → at < length text → ends_number (get_or text at 0) ≡ false
    → numbers_from value (drop at text) ≡ numbers_from (grown value (get_or text at 0)) (drop (at + 1) text)
numbers-go-at value text at h ends = rw (text_at text at h) (numbers-go value (get_or text at 0) (drop (at + 1) text) ends)

-- a row so far, and the numbers that are left: one number more in the row
pub row_more : (text row : List ℕ) (from at next count value : ℕ) → count < length row
    → map as_byte (numbers_from 0 (drop from text)) ≡ take count row ++ map as_byte (numbers_from 0 (drop at text))
    → numbers_from 0 (drop at text) ≡ value ∷ numbers_from 0 (drop next text)
    → map as_byte (numbers_from 0 (drop from text))
    ≡ take (count + 1) (set row count (as_byte value)) ++ map as_byte (numbers_from 0 (drop next text))
row_more text row from at next count value h so_far one =
    let left : List ℕ = map as_byte (numbers_from 0 (drop next text)) in
    so_far
    ∙ ap (λ (numbers : List ℕ). take count row ++ map as_byte numbers) one
    ∙ sym (append_assoc (take count row) (as_byte value ∷ []) left)
    ∙ ap (λ (front : List ℕ). front ++ left) (sym (take-suc-set row count (as_byte value) h))
    ∙ ap (λ (k : ℕ). take k (set row count (as_byte value)) ++ left) (sym (add-one count))

-- no number is left: the row is whole
pub row-whole : (text row : List ℕ) (from at count : ℕ)
    → map as_byte (numbers_from 0 (drop from text)) ≡ take count row ++ map as_byte (numbers_from 0 (drop at text))
    → numbers_from 0 (drop at text) ≡ []
    → take count row ≡ map as_byte (numbers_from 0 (drop from text))
row-whole text row from at count so_far none =
    sym (so_far ∙ ap (λ (numbers : List ℕ). take count row ++ map as_byte numbers) none ∙ append-nil (take count row))

-- past the text's end there are no numbers
pub numbers-past : (value : ℕ) (text : List ℕ) (at : ℕ) → length text ≤ at → numbers_from value (drop at text) ≡ []
unfolding numbers_from
numbers-past value text at h = ap (numbers_from value) (drop_of_length-le text h)
