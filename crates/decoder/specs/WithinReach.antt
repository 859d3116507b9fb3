-- What decoding makes of a row within reach of a message's row, as Wish 3 asks: that message and the number of places that
-- differ, whatever the areas held before.
-- Assumes nothing.
use Rattle.std.specs.Prelude.{◌≡◌, List, ℕ, ◌≤◌, take, Result, Ok}
use Rattle.refusals.specs.declared.Refusal.{Refusal}
use Rattle.curve.specs.Codes.{point_count, dimension, reach}
use Rattle.curve.specs.Given.{Message, Received}
use Rattle.encoder.specs.Encoding.{row_numbers}
use Rattle.judging.specs.Judging.{count_of}
use Rattle.decoder.specs.FullRows.{Room}

-- accepted with the number of places that differ, and the outputs begin with the message that was sent and with its row
pub record ReadAs (q u : ℕ) (sent row : List ℕ) (answer : Result ℕ Refusal) (message corrected : List ℕ) : Type 0 where
  pub accepted : answer ≡ Ok (count_of q u sent row)
  pub message-is : take (dimension q u) message ≡ sent
  pub corrected-is : take (point_count q) corrected ≡ row_numbers q u sent

-- so it is for every message of the code that is within reach of a full row of symbols, if the areas are long enough; `answer`,
-- and what the two outputs hold afterwards, are decoding's
unfoldable pub WithinReach : ℕ → ℕ → List ℕ → List ℕ → List ℕ → List ℕ → Result ℕ Refusal → List ℕ → List ℕ → Type 0
WithinReach q u row work message corrected answer message' corrected' =
    (sent : List ℕ) → Message q u sent → Received q u row → count_of q u sent row ≤ reach q u → Room q u work message corrected
    → ReadAs q u sent row answer message' corrected'
