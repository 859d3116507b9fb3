-- Document 01's example of rowtrace, in "Hand-worked table": the text that is read, and what is printed for it.
-- Assumes nothing.
use Rattle.std.specs.Prelude.{List, ◌++◌, ℕ}
use Rattle.lines.specs.Text.{ascii}

unfoldable pub example_text : List ℕ
example_text = ascii "2 4\n" ++ ascii "1 0 0 0 0 0 0 0\n"

unfoldable pub example_printed : List ℕ
example_printed =
    ascii "2 4\n"
    ++ ascii "9 - 1 0 4 3\n"
    ++ ascii "8 - 1 0 4 3\n"
    ++ ascii "7 - 1 0 4 3\n"
    ++ ascii "6 - 1 0 4 3\n"
    ++ ascii "5 - 1 0 4 3\n"
    ++ ascii "4 0 1 0 4 3\n"
    ++ ascii "3 0 1 0 4 3\n"
    ++ ascii "2 0 1 0 4 3\n"
    ++ ascii "1 - 1 0 4 3\n"
    ++ ascii "0 0 1 0 4 3\n"
    ++ ascii "accept 1 : 0 0 0 0\n"
