-- All lines of a row from its first line, those of its steps and its last.
-- Assumes nothing.
use mathlib.Core.List.{List, [], ◌∷◌}
use Prim.Native.Nat.{ℕ}
use native.Mathlib.Omega.{arith}
use lib.ListN.{length-append}
use Rattle.lines.specs.declared.Page.{Page}
use Rattle.lines.specs.Page.{Put, Room}
use Rattle.lines.proofs.Pages.{put_more}
use Rattle.published.specs.Start.{step_count}
use Rattle.voting.specs.Voting.{voted}
use Rattle.decoder.specs.Decoding.{decoded}
use Rattle.request.specs.Request.{line}
use Rattle.steplines.specs.StepLines.{step_lines}
use Rattle.trace.specs.Trace.{last_line, row_lines}

pub wrote-all : {page first steps last : Page} (q u : ℕ) (row : List ℕ) → Room page (line (q ∷ u ∷ []))
    → Room first (step_lines q u row (step_count q)) → Put page (line (q ∷ u ∷ [])) first
    → Put first (step_lines q u row (step_count q)) steps → Put steps (last_line (decoded q u row) (voted q u row)) last
    → Put page (row_lines q u row) last
unfolding row_lines
wrote-all q u row fits more first steps final =
    put_more
    (omega (arith, length-append (line (q ∷ u ∷ [])) (step_lines q u row (step_count q)), more))
    (put_more fits first steps) final
