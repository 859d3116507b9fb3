-- Verifying with the records in a lent list of bytes, two bytes a record. Document 01, "Block and verification".
-- Assumes nothing.
use Rattle.std.specs.Prelude.{List, [], ◌∷◌, ◌++◌, ℕ, ◌*◌, ◌/◌, length, drop, Result, Ok, Err}
use Rattle.refusals.specs.declared.Refusal.{Refusal}
use Rattle.refusals.specs.Numbers.{Check, first_of}
use Rattle.published.specs.Picture.{area_size}
use Rattle.voting.specs.Voting.{cleared}
use Rattle.layout.specs.Layout.{tape_q, row_count}
use Rattle.verifying.specs.Verification.{verdict_from, all_records}
use Rattle.verdict.specs.Checks.{checks_for}
use Rattle.answers.specs.declared.Record.{Record}
use Rattle.answers.specs.declared.Verdict.{Verdict}

-- a record's bytes: first its state, then its count
unfoldable pub record_bytes : List Record → List ℕ
record_bytes [] = []
record_bytes (x ∷ xs) = x.state ∷ x.count ∷ record_bytes xs

-- 9, 10, 11, 6; two bytes are one record
unfoldable pub byte_checks : List ℕ → List ℕ → List ℕ → List ℕ → List Check
byte_checks block payload records work = checks_for block payload (length records / 2) (length work)

unfoldable pub verify_bytes_answer : List ℕ → List ℕ → List ℕ → List ℕ → Result Verdict Refusal
verify_bytes_answer block payload records work =
    first_of (byte_checks block payload records work) Err (Ok (verdict_from 0 0 (all_records block payload)))

-- R records of two bytes, and the bytes behind them as they were
unfoldable pub verify_bytes_records : List ℕ → List ℕ → List ℕ → List ℕ → List ℕ
verify_bytes_records block payload records work =
    first_of (byte_checks block payload records work) (λ why. records)
    (record_bytes (all_records block payload) ++ drop (2 * row_count block) records)

-- the decoder's part zero, unless refused
unfoldable pub verify_bytes_work : List ℕ → List ℕ → List ℕ → List ℕ → List ℕ
verify_bytes_work block payload records work =
    first_of (byte_checks block payload records work) (λ why. work) (cleared (area_size tape_q) work)
