-- A page with a text more.
-- Assumes nothing.
use Rattle.std.specs.Prelude.{◌≡◌, List, ℕ, ◌+◌, ◌≤◌, length}
use Rattle.lines.specs.declared.Page.{Page}
use Rattle.lines.specs.Text.{Wrote}

-- there is room for a text
abbrev pub Room : Page → List ℕ → Type 0
Room page text = page.end + length text ≤ length page.out.now

-- what a function that writes a text leaves: the same buffer, with the text
pub record Put (before : Page) (text : List ℕ) (after : Page) : Type 0 where
  pub same_buffer : after.out.ghost_name ≡ before.out.ghost_name
  pub same_length : length after.out.now ≡ length before.out.now
  pub wrote : Wrote before.out.now before.end text after.out.now after.end
