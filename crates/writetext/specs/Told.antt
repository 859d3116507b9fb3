-- What blockwrite prints of what writing answered.
-- Assumes nothing.
use Rattle.std.specs.Prelude.{Result, Ok, Err, List, [], ◌∷◌, ◌++◌, ℕ}
use Rattle.lines.specs.Text.{ascii, digits}
use Rattle.refusals.specs.declared.Refusal.{Refusal}
use Rattle.report.specs.Report.{refuse_line}

-- one line
unfoldable pub written_line : Result ℕ Refusal → List ℕ
written_line (Ok bytes) = ascii "wrote " ++ digits bytes ++ (10 ∷ [])
written_line (Err why) = refuse_line why
