-- The line that starts at a place of a text, byte by byte: it ends after a newline, or where the text does.
-- Assumes nothing.
use mathlib.Core.Path.{◌≡◌}
use mathlib.Core.List.{List}
use Prim.Native.Nat.{ℕ, suc, ◌+◌, ◌<◌}
use native.Mathlib.Numerals.{add-one}
use lib.ListN.{length, get_or, drop}
use lib.Seq.{drop-cons, drop-length}
use borrow.Author.Tests.{eq-eqb, ne_eqb}
use Rattle.textlines.specs.Lines.{first_line}

-- how long the line from place i on is
abbrev pub line_from : List ℕ → ℕ → ℕ
line_from text i = length (first_line (drop i text))

-- a newline is a line
pub line-newline : (text : List ℕ) (i : ℕ) → i < length text → get_or text i 0 ≡ 10 → line_from text i ≡ 1
unfolding first_line
line-newline text i inside is = rw (drop-cons text i 0 inside, eq-eqb (get_or text i 0) 10 is)

-- after any other byte the line goes on
pub line-goes-on : (text : List ℕ) (i : ℕ) → i < length text → (get_or text i 0 ≡ 10 → ⊥)
    → line_from text i ≡ suc (line_from text (i + 1))
unfolding first_line
line-goes-on text i inside other = rw (add-one, drop-cons text i 0 inside, ne_eqb (get_or text i 0) 10 other)

-- no line starts at the text's end
pub line-none : (text : List ℕ) → line_from text (length text) ≡ 0
unfolding first_line
line-none text = rw (drop-length text)
