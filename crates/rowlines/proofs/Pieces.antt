-- The lines in their pieces: how they are written one after the other, and how long they are.
-- Assumes nothing.
use mathlib.Core.Path.{◌≡◌, refl, ap}
use mathlib.Core.Bool.{Bool, true, false}
use mathlib.Core.List.{List, [], ◌∷◌, ◌++◌}
use Prim.Native.Nat.{ℕ, ◌+◌, ◌^◌, ◌≤◌, ◌<◌, zero-le}
use native.Mathlib.Omega.{arith}
use lib.ListN.{length, length-append}
use Rattle.lines.specs.declared.Page.{Page}
use Rattle.lines.specs.Text.{ascii, digits}
use Rattle.lines.specs.Page.{Put}
use Rattle.lines.proofs.Digits.{length_digits}
use Rattle.lines.proofs.Pages.{put_nothing, put_more}
use Rattle.rowlines.specs.RowLines.{tells, told_line, row_line}

-- a machine number has at most 20 digits
pub digits-short : (n : ℕ) → n < 2 ^ 64 → length (digits n) ≤ 20
digits-short n fits = length_digits 19 n (omega arith)

-- a word and a number, one after the other, and where they end
pub piece-written : {page next last : Page} {word : List ℕ} (n : ℕ) → n < 2 ^ 64 → page.end + length word + 20 ≤ length page.out.now
    → Put page word next → Put next (digits n) last
    → Put page (word ++ digits n) last × (last.end ≤ page.end + length word + 20)
piece-written n fits room first second =
    (put_more (omega arith) first second, omega (arith, first.wrote.place, second.wrote.place, digits-short n fits))

-- a piece takes no more than its word and 20 digits
piece-short : (at limit : ℕ) (word : List ℕ) (n : ℕ) → n < 2 ^ 64 → at + length word + 20 ≤ limit
    → at + length (word ++ digits n) ≤ limit
piece-short at limit word n fits room = omega (arith, length-append word (digits n), digits-short n fits)

-- a line of one piece
pub line-written : {page next last : Page} (word : List ℕ) (n : ℕ) → n < 2 ^ 64
    → page.end + length word + 21 ≤ length page.out.now → Put page (word ++ digits n) next → Put next (10 ∷ []) last
    → Put page (word ++ digits n ++ (10 ∷ [])) last
line-written {page} word n fits room first second =
    put_more (piece-short page.end (length page.out.now) word n fits (omega arith)) first second

-- a row's line of three pieces
told-written : {page one two three last : Page} (r state count : ℕ) → r < 2 ^ 64 → state < 2 ^ 64
    → count < 2 ^ 64 → page.end + 79 ≤ length page.out.now → Put page (ascii "row " ++ digits r) one
    → Put one (ascii " state " ++ digits state) two → Put two (ascii " count " ++ digits count) three
    → Put three (10 ∷ []) last → Put page (told_line r state count) last
unfolding told_line ascii
told-written r state count fr fs fc room a b c d =
    let la = length-append (ascii "row ") (digits r) in
    let lb = length-append (ascii " state ") (digits state) in
    let lc = length-append (ascii " count ") (digits count) in
    let two-long = length-append (ascii "row " ++ digits r) (ascii " state " ++ digits state) in
    let three-long = length-append (ascii "row " ++ digits r ++ (ascii " state " ++ digits state)) (ascii " count " ++ digits count) in
    put_more (omega (arith, digits-short r fr, digits-short state fs, digits-short count fc))
    (put_more (omega (arith, digits-short r fr, digits-short state fs)) (put_more (omega (arith, digits-short r fr)) a b) c)
    d

-- nothing to tell, no line
row-quiet : (r state count : ℕ) → tells state count ≡ false → row_line r state count ≡ []
unfolding row_line
row-quiet r state count no-tell = ap (λ (b : Bool). elim b [ true ↦ told_line r state count | false ↦ [] ]) no-tell

-- something to tell, the line
row_told : (r state count : ℕ) → tells state count ≡ true → row_line r state count ≡ told_line r state count
unfolding row_line
row_told r state count tell = ap (λ (b : Bool). elim b [ true ↦ told_line r state count | false ↦ [] ]) tell

-- nothing to tell, nothing written
pub quiet-written : (page : Page) (r state count : ℕ) → tells state count ≡ false → Put page (row_line r state count) page
quiet-written page r state count quiet = rw (row-quiet r state count quiet) (put_nothing page)

-- a row with something to tell, written
pub row_written : {page one two three last : Page} (r state count : ℕ) → r < 2 ^ 64 → state < 2 ^ 64
    → count < 2 ^ 64 → page.end + 79 ≤ length page.out.now → tells state count ≡ true → Put page (ascii "row " ++ digits r) one
    → Put one (ascii " state " ++ digits state) two → Put two (ascii " count " ++ digits count) three
    → Put three (10 ∷ []) last → Put page (row_line r state count) last
row_written r state count fr fs fc room tell a b c d =
    rw (row_told r state count tell) (told-written r state count fr fs fc room a b c d)

-- a told row's line has at most 29 bytes
told-short : (r state count : ℕ) → r < 10000 → state < 256 → count < 256 → length (told_line r state count) ≤ 29
unfolding told_line ascii
told-short r state count fr fs fc =
    omega (
      arith,
      length-append (ascii "row ") (digits r),
      length-append (ascii " state ") (digits state),
      length-append (ascii " count ") (digits count),
      length-append (ascii "row " ++ digits r) (ascii " state " ++ digits state),
      length-append (ascii "row " ++ digits r ++ (ascii " state " ++ digits state)) (ascii " count " ++ digits count),
      length-append (ascii "row " ++ digits r ++ (ascii " state " ++ digits state) ++ (ascii " count " ++ digits count)) (10 ∷ []),
      length_digits 3 r (omega arith),
      length_digits 2 state (omega arith),
      length_digits 2 count (omega arith),
    )

-- a row's line has at most 29 bytes
pub row-short : (r state count : ℕ) → r < 10000 → state < 256 → count < 256 → length (row_line r state count) ≤ 29
row-short r state count fr fs fc = short (tells state count) refl
  where
    -- by whether there is something to tell
    short : (b : Bool) → tells state count ≡ b → length (row_line r state count) ≤ 29
    short true tell = rw (row_told r state count tell) (told-short r state count fr fs fc)
    short false quiet = rw (row-quiet r state count quiet) zero-le
