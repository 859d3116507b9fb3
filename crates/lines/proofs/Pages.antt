-- Laws of a page that is written on: nothing, one text after another.
-- Assumes nothing.
use Rattle.std.proofs.Common.{◌≡◌, List, [], ◌++◌, ℕ, refl, ◌∙◌}
use Rattle.lines.specs.declared.Page.{Page}
use Rattle.lines.specs.Text.{Wrote}
use Rattle.lines.specs.Page.{Put, Room}
use Rattle.lines.proofs.Writing.{wrote_nothing, wrote-more, wrote-length}

-- a text that was written where there was room for it
pub put : {page next : Page} {text : List ℕ} → Room page text → next.out.ghost_name ≡ page.out.ghost_name
    → Wrote page.out.now page.end text next.out.now next.end → Put page text next
put room same done = record { same_buffer = same; same_length = wrote-length room done; wrote = done }

-- nothing is put by doing nothing
pub put_nothing : (page : Page) → Put page [] page
put_nothing page = record { same_buffer = refl; same_length = refl; wrote = wrote_nothing _ _ }

-- two texts, one after the other, are their joint text
pub put_more : {page next last : Page} {a b : List ℕ} → Room page a → Put page a next → Put next b last → Put page (a ++ b) last
put_more room first second =
    record {
      same_buffer = second.same_buffer ∙ first.same_buffer;
      same_length = second.same_length ∙ first.same_length;
      wrote = wrote-more room first.wrote second.wrote;
    }
