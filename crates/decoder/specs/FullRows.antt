-- Decoding once nothing was refused: a full row of symbols under a code, areas that are long enough, and what is left in the
-- two outputs.
-- Assumes nothing.
use Rattle.std.specs.Prelude.{List, ◌++◌, ℕ, ◌≤◌, length, drop}
use Rattle.curve.specs.Codes.{point_count, dimension}
use Rattle.encoder.specs.Encoding.{row_numbers}
use Rattle.published.specs.Picture.{area_size}
use Rattle.voting.specs.Voting.{voted}
use Rattle.decoder.specs.Decoding.{decoded, if_accepted}

-- the lent areas are long enough
pub record Room (q u : ℕ) (work message corrected : List ℕ) : Type 0 where
  pub for-work : area_size q ≤ length work
  pub for-message : dimension q u ≤ length message
  pub for-corrected : point_count q ≤ length corrected

-- the message's output: k symbols, if the row is accepted
unfoldable pub message_after : ℕ → ℕ → List ℕ → List ℕ → List ℕ
message_after q u row message = if_accepted (decoded q u row) (voted q u row ++ drop (dimension q u) message) message

-- the corrected row's output: n symbols, if it is accepted
unfoldable pub corrected_after : ℕ → ℕ → List ℕ → List ℕ → List ℕ
corrected_after q u row corrected =
    if_accepted (decoded q u row) (row_numbers q u (voted q u row) ++ drop (point_count q) corrected) corrected
