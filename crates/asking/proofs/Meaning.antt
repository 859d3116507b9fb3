-- What a text is read as is what it is taken as: the two readings of a text agree.
-- Assumes nothing.
use mathlib.Core.Path.{◌≡◌, refl, ap, ap₂, sym, ◌∙◌, subst}
use mathlib.Core.Bool.{Bool, true, false, ◌&&◌, and-false, and-eq-true_iff}
use mathlib.Core.List.{List, [], ◌∷◌, map}
use Prim.Native.Nat.{ℕ, zero, suc, ◌≤◌, ◌<◌}
use native.Mathlib.Nat.{mod-eq_of_lt}
use native.Mathlib.Omega.{arith}
use borrow.Author.Tests.{leb-true, le-leb, lt-leb, ltb-true, lt-ltb}
use lib.Dec.{leb, ltb}
use lib.ListN.{length, get_or, take, drop}
use Rattle.lists.specs.Same.{same_list}
use Rattle.lists.proofs.Same.{same_lists, same-itself}
use Rattle.asking.specs.Request.{request, Taken, Said, asks, nothing, Means, numbers_from, as_byte, is_taken, if_taken, said_by, reading}
use Rattle.asking.proofs.Numbers.{reads-request, numbers-small}

-- a row that is read has bytes, and bytes are read as they are
bytes_small : (numbers : List ℕ) (i : ℕ) → get_or (map as_byte numbers) i 0 ≤ 255
unfolding as_byte
bytes_small [] i = omega arith
bytes_small (n ∷ numbers) zero = omega arith
bytes_small (n ∷ numbers) (suc i) = bytes_small numbers i

bytes_same : (row : List ℕ) → ((i : ℕ) → get_or row i 0 ≤ 255) → map as_byte row ≡ row
unfolding as_byte
bytes_same [] h = refl
bytes_same (n ∷ row) h = ap₂ ◌∷◌ (mod-eq_of_lt (omega (arith, h 0))) (bytes_same row (λ i. h (suc i)))

-- the test's three parts
is-taken : (text : List ℕ) (q u : ℕ) (row : List ℕ) → length text ≤ 4096 → 0 < length row → is_taken text q u row ≡ same_list text (request q u row)
unfolding is_taken
is-taken text q u row short some = rw (le-leb (length text) 4096 short, lt-ltb 0 (length row) some)

-- what is said by q, u and a row that were read
said_row : (text : List ℕ) (q u : ℕ) (rest row : List ℕ) → numbers_from 0 text ≡ q ∷ u ∷ rest → map as_byte rest ≡ row
    → reading text ≡ if_taken (is_taken text q u row) (asks q u row)
unfolding reading said_by
said_row text q u rest row numbers bytes =
    ap (said_by text) numbers ∙ ap (λ (l : List ℕ). if_taken (is_taken text q u l) (asks q u l)) bytes

-- a text that is taken is read as it is taken
reads-taken : (text : List ℕ) (q u : ℕ) (row : List ℕ) → Taken text q u row → reading text ≡ asks q u row
reads-taken text q u row t =
    let numbers : numbers_from 0 text ≡ q ∷ u ∷ row =
    ap (numbers_from 0) t.says
    ∙ reads-request q u row (omega (arith, t.short-q)) (omega (arith, t.short-u)) t.some (λ i. omega (arith, t.bytes i)) in
    let taken : is_taken text q u row ≡ true =
    is-taken text q u row t.short t.some ∙ subst (λ (l : List ℕ). same_list text l ≡ true) t.says (same-itself text) in
    said_row text q u row row numbers (bytes_same row t.bytes) ∙ ap (λ (b : Bool). if_taken b (asks q u row)) taken

-- what passes the test is taken
test-taken : (text : List ℕ) (q u : ℕ) (row : List ℕ) → q < 1000 → u < 1000 → ((i : ℕ) → get_or row i 0 ≤ 255) → is_taken text q u row ≡ true → Taken text q u row
unfolding is_taken
test-taken text q u row hq hu bytes test =
    let short = (and-eq-true_iff (leb (length text) 4096) (ltb 0 (length row) && same_list text (request q u row))).0 test in
    let some = (and-eq-true_iff (ltb 0 (length row)) (same_list text (request q u row))).0 short.1 in
    record {
      says = same_lists text (request q u row) some.1;
      some = ltb-true 0 (length row) some.0;
      short-q = omega arith;
      short-u = omega arith;
      bytes = bytes;
      short = leb-true (length text) 4096 short.0;
    }

-- what is said, if anything, is taken
SaidTaken : List ℕ → Said → Type 0
SaidTaken text (asks q u row) = Taken text q u row
SaidTaken text nothing = Unit

-- what is read, if anything, is taken
read_taken : (text : List ℕ) → SaidTaken text (reading text)
unfolding reading said_by SaidTaken
read_taken text = by-test (is_taken text q u row) refl
  where
    numbers : List ℕ
    numbers = numbers_from 0 text

    q : ℕ
    q = get_or numbers 0 0

    u : ℕ
    u = get_or numbers 1 0

    row : List ℕ
    row = map as_byte (drop 2 numbers)

    by-test : (t : Bool) → is_taken text q u row ≡ t → SaidTaken text (if_taken t (asks q u row))
    by-test true e =
        let small = numbers-small 0 text (omega arith) in
        test-taken text q u row (small 0) (small 1) (bytes_small (drop 2 numbers)) e
    by-test false e = tt

-- a text says what it is taken as
pub reading-means : (text : List ℕ) → Means text (reading text)
unfolding SaidTaken
reading-means text =
    record {
      taken = λ q u row e. subst (SaidTaken text) e (read_taken text);
      only = reads-taken text;
    }

-- any two things that a text says are equal
pub means-settled : (text : List ℕ) (said said' : Said) → Means text said → Means text said' → said ≡ said'
means-settled text (asks q u row) said' means means' = sym (means'.only q u row (means.taken q u row refl))
means-settled text nothing (asks q u row) means means' = means.only q u row (means'.taken q u row refl)
means-settled text nothing nothing means means' = refl

-- an answer that is the reading says what the text is taken as
pub as-read : {text : List ℕ} {said : Said} → said ≡ reading text → Means text said
as-read {text} e = subst (Means text) (sym e) (reading-means text)

-- a text that is too long says nothing
pub reads-long : (text : List ℕ) → 4096 < length text → nothing ≡ reading text
unfolding reading said_by is_taken
reads-long text h = rw (lt-leb (length text) 4096 h)

-- nor does one that has no row
pub reads_none : (text : List ℕ) → drop 2 (numbers_from 0 text) ≡ [] → nothing ≡ reading text
unfolding reading said_by is_taken
reads_none text h = rw (h, and-false)

pub reads-empty : (text : List ℕ) (q u : ℕ) (rest row : List ℕ) (count : ℕ) → numbers_from 0 text ≡ q ∷ u ∷ rest → count ≡ 0
    → take count row ≡ map as_byte rest → nothing ≡ reading text
unfolding is_taken
reads-empty text q u rest row count numbers none bytes =
    let empty : map as_byte rest ≡ [] = sym bytes ∙ ap (λ (k : ℕ). take k row) none in
    sym (said_row text q u rest [] numbers empty ∙ simp and-false)

-- where q, u and a row were read, the comparison decides
pub reads-row : (text : List ℕ) (q u : ℕ) (rest row : List ℕ) (r : Bool) → length text ≤ 4096 → 0 < length row
    → numbers_from 0 text ≡ q ∷ u ∷ rest → row ≡ map as_byte rest → r ≡ same_list text (request q u row)
    → if_taken r (asks q u row) ≡ reading text
reads-row text q u rest row r short some numbers bytes test =
    ap (λ (t : Bool). if_taken t (asks q u row)) (test ∙ sym (is-taken text q u row short some))
    ∙ sym (said_row text q u rest row numbers (sym bytes))
