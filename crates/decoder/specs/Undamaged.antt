-- What decoding makes of a row that came undamaged, as demand 2 asks: the message that was sent and count 0, whatever the areas
-- held before.
-- Assumes nothing.
use Rattle.std.specs.Prelude.{◌≡◌, List, ℕ, take, Result, Ok}
use Rattle.refusals.specs.declared.Refusal.{Refusal}
use Rattle.curve.specs.Codes.{point_count, dimension}
use Rattle.encoder.specs.Encoding.{row_numbers}
use Rattle.curve.specs.Given.{Message}
use Rattle.decoder.specs.FullRows.{Room}

-- accepted with count 0, and the outputs begin with the message that was sent and with its row
pub record ReadBack (q u : ℕ) (sent : List ℕ) (answer : Result ℕ Refusal) (message corrected : List ℕ) : Type 0 where
  pub accepted : answer ≡ Ok 0
  pub message-is : take (dimension q u) message ≡ sent
  pub corrected-is : take (point_count q) corrected ≡ row_numbers q u sent

-- so it is for every message of the code whose row this is, if the areas are long enough; `answer`, and what the two outputs
-- hold afterwards, are decoding's
unfoldable pub Undamaged : ℕ → ℕ → List ℕ → List ℕ → List ℕ → List ℕ → Result ℕ Refusal → List ℕ → List ℕ → Type 0
Undamaged q u row work message corrected answer message' corrected' =
    (sent : List ℕ) → Message q u sent → row ≡ row_numbers q u sent → Room q u work message corrected
    → ReadBack q u sent answer message' corrected'
