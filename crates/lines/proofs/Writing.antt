-- Laws of a text written into a buffer: nothing, one text after another, and the length.
-- Assumes nothing.
use mathlib.Core.Path.{◌≡◌, refl, ap, sym, ◌∙◌}
use mathlib.Core.List.{List, [], ◌∷◌, ◌++◌, append_assoc, append-nil}
use Prim.Native.Nat.{ℕ, zero, suc, ◌+◌, ◌≤◌, ◌<◌}
use native.Mathlib.Nat.{add-zero, add_assoc}
use native.Mathlib.Numerals.{add-one}
use native.Mathlib.Omega.{arith}
use borrow.Rule.Slice.PartMut.{put_mid}
use lib.ListN.{length, take, drop, set, get_or, length-append, length-drop, take-append-drop}
use lib.Seq.{set_split, take_at, drop_at, drop-drop, length-take-le}
use Rattle.lines.specs.Text.{digits, spaced, written, Wrote}

-- nothing written
written-nothing : (l : List ℕ) (at : ℕ) → l ≡ written l at []
unfolding written
written-nothing l at = sym (ap (λ (k : ℕ). take at l ++ drop k l) (add-zero at) ∙ take-append-drop at l)

-- a text fills the places up to its end
front_length : (l : List ℕ) (at : ℕ) (text : List ℕ) → at + length text ≤ length l → length (take at l ++ text) ≡ at + length text
front_length l at text fits =
    length-append (take at l) text ∙ ap (λ (k : ℕ). k + length text) (length-take-le at l (omega arith))

-- a text leaves the length
written-length : (l : List ℕ) (at : ℕ) (text : List ℕ) → at + length text ≤ length l → length (written l at text) ≡ length l
unfolding written
written-length l at text fits =
    ap length (sym (append_assoc (take at l) text (drop (at + length text) l)))
    ∙ length-append (take at l ++ text) (drop (at + length text) l)
    ∙ ap (λ (k : ℕ). k + length (drop (at + length text) l)) (front_length l at text fits)
    ∙ omega (arith, length-drop (at + length text) l)

-- a text and another one after it are one text
written-more : (l : List ℕ) (at : ℕ) (a b : List ℕ) → at + length a ≤ length l
    → written (written l at a) (at + length a) b ≡ written l at (a ++ b)
unfolding written
written-more l at a b fits =
    let front : List ℕ = take at l ++ a in
    let rest : List ℕ = drop (at + length a) l in
    let whole : take at l ++ (a ++ rest) ≡ front ++ rest = sym (append_assoc (take at l) a rest) in
    ap (λ (m : List ℕ). take (at + length a) m ++ (b ++ drop (at + length a + length b) m)) whole
    ∙ ap (λ (m : List ℕ). m ++ (b ++ drop (at + length a + length b) (front ++ rest))) (take_at front rest (at + length a) (front_length l at a fits))
    ∙ ap (λ (m : List ℕ). front ++ (b ++ m))
    (sym (drop-drop (length b) (at + length a) (front ++ rest))
    ∙ ap (drop (length b)) (drop_at front rest (at + length a) (front_length l at a fits))
    ∙ drop-drop (length b) (at + length a) l
    ∙ ap (λ (k : ℕ). drop k l) (add_assoc at (length a) (length b) ∙ ap (λ (k : ℕ). at + k) (sym (length-append a b))))
    ∙ append_assoc (take at l) a (b ++ drop (at + length (a ++ b)) l)
    ∙ ap (λ (m : List ℕ). take at l ++ m) (sym (append_assoc a b (drop (at + length (a ++ b)) l)))

-- one byte
pub wrote-byte : (l : List ℕ) (at byte : ℕ) → at < length l → Wrote l at (byte ∷ []) (set l at byte) (at + 1)
unfolding written
wrote-byte l at byte h =
    record { place = refl; buffer = set_split l at byte h ∙ ap (λ (k : ℕ). take at l ++ (byte ∷ drop k l)) (sym (add-one at)) }

-- nothing is written by doing nothing
pub wrote_nothing : (l : List ℕ) (at : ℕ) → Wrote l at [] l at
wrote_nothing l at = record { place = sym (add-zero at); buffer = written-nothing l at }

-- two texts, one after the other, are their joint text
pub wrote-more : {l m n a b : List ℕ} {at next last : ℕ} → at + length a ≤ length l → Wrote l at a m next → Wrote m next b n last
    → Wrote l at (a ++ b) n last
wrote-more {l} {m} {n} {a} {b} {at} {next} {last} fits first second =
    record {
      place = second.place ∙ omega (arith, first.place, length-append a b);
      buffer =
          second.buffer ∙ ap (λ (k : ℕ). written m k b) first.place ∙ ap (λ (k : List ℕ). written k (at + length a) b) first.buffer
          ∙ written-more l at a b fits;
    }

-- any two results of writing the same text at the same place are equal
pub wrote-settled : {l m m' a : List ℕ} {at next next' : ℕ} → Wrote l at a m next → Wrote l at a m' next' → (m ≡ m') × (next ≡ next')
wrote-settled done done' = (done.buffer ∙ sym done'.buffer, done.place ∙ sym done'.place)

-- what is written leaves the buffer's length
pub wrote-length : {l m a : List ℕ} {at next : ℕ} → at + length a ≤ length l → Wrote l at a m next → length m ≡ length l
wrote-length {l} {m} {a} {at} {next} fits done = ap length done.buffer ∙ written-length l at a fits

-- room for two texts is room for the first, and then for the second
pub room-first : (at : ℕ) (a b : List ℕ) {n : ℕ} → at + length (a ++ b) ≤ n → at + length a ≤ n
room-first at a b fits = omega (arith, length-append a b)

pub room_after : {l m a : List ℕ} {at next : ℕ} (b : List ℕ) → at + length (a ++ b) ≤ length l → Wrote l at a m next
    → next + length b ≤ length m
room_after {l} {m} {a} {at} {next} b fits done =
    omega (arith, length-append a b, done.place, wrote-length (room-first at a b fits) done)

-- a text written at a buffer's start is its front
pub wrote-front : {l m text : List ℕ} {next : ℕ} → Wrote l 0 text m next → take next m ≡ text
unfolding written
wrote-front {l} {m} {text} {next} done =
    ap (λ (k : ℕ). take k m) done.place ∙ ap (take (0 + length text)) done.buffer
    ∙ take_at text (drop (0 + length text) l) (0 + length text) (omega arith)

-- a text that fits ends within the buffer
pub wrote-within : {l m a : List ℕ} {at next : ℕ} → at + length a ≤ length l → Wrote l at a m next → next ≤ length m
wrote-within {l} {m} {a} {at} {next} fits done = omega (arith, done.place, wrote-length fits done)

-- a word copied into the part of a buffer that begins at a place
pub wrote-part : (l : List ℕ) (at : ℕ) {word part : List ℕ} {size : ℕ} → part ≡ word → size ≡ length word
    → Wrote l at word (put_mid at size l part) (at + length word)
unfolding written
wrote-part l at {word} same whole =
    record { place = refl; buffer = rw (same, whole) (ap (λ (rest : List ℕ). take at l ++ (word ++ rest)) (drop-drop (length word) at l)) }

-- numbers taken from a list, one after the other
pub spaced-more : (numbers : List ℕ) (done : ℕ) → done < length numbers
    → spaced (take (suc done) numbers) ≡ spaced (take done numbers) ++ (32 ∷ digits (get_or numbers done 0))
unfolding spaced
spaced-more [] done h = absurd (omega arith)
spaced-more (n ∷ numbers) zero h = ap (λ (l : List ℕ). 32 ∷ l) (append-nil (digits n))
spaced-more (n ∷ numbers) (suc done) h =
    ap (λ (l : List ℕ). 32 ∷ (digits n ++ l)) (spaced-more numbers done (omega arith))
    ∙ ap (λ (l : List ℕ). 32 ∷ l) (sym (append_assoc (digits n) (spaced (take done numbers)) (32 ∷ digits (get_or numbers done 0))))

-- the first numbers are no longer than all
spaced-part : (numbers : List ℕ) (done : ℕ) → length (spaced (take done numbers)) ≤ length (spaced numbers)
unfolding spaced
spaced-part [] zero = omega arith
spaced-part [] (suc done) = omega arith
spaced-part (n ∷ numbers) zero = omega arith
spaced-part (n ∷ numbers) (suc done) =
    omega (arith, spaced-part numbers done, length-append (digits n) (spaced (take done numbers)), length-append (digits n) (spaced numbers))

-- the room that all numbers need is room for the first ones and one more
pub spaced-room : (numbers : List ℕ) (done : ℕ) → done < length numbers
    → length (spaced (take done numbers)) + (1 + length (digits (get_or numbers done 0))) ≤ length (spaced numbers)
spaced-room numbers done h =
    let whole = ap length (spaced-more numbers done h) in
    omega (arith, spaced-part numbers (suc done), whole, length-append (spaced (take done numbers)) (32 ∷ digits (get_or numbers done 0)))
