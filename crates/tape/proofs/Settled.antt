-- The promises for C settle what is answered and left: any two results that one allows for one call are equal.
-- Assumes nothing.
use mathlib.Core.Path.{◌≡◌, sym, ◌∙◌}
use mathlib.Core.List.{List}
use Prim.Native.Nat.{ℕ}
use lib.IntN.{ℤ, pos}
use lib.ListN.{length}
use Rattle.encoder.specs.Encoding.{encode_answer, encode_output}
use Rattle.steps.specs.Stop.{stop_answer, stop_work, stop_output}
use Rattle.decoder.specs.Decoding.{decode_answer, decode_work, decode_message, decode_corrected}
use Rattle.passing.specs.PassOn.{passed_on}
use Rattle.verifying.specs.AsBytes.{verify_bytes_answer, verify_bytes_records, verify_bytes_work}
use Rattle.block.specs.Writing.{write_answer, write_block}
use Rattle.results.specs.Results.{done_result, count_result, verify_result, verify_at, was_accepted, row_passed}

-- a result that a promise allows: an integer, and what each lent place holds afterwards
pub record Encodes (q u : ℕ) (message row : List ℕ) (r : ℤ) (row₁ : List ℕ) : Type 0 where
  pub result : r ≡ done_result (encode_answer q u message row)
  pub row_is : row₁ ≡ encode_output q u message row

pub record Stops (q u steps : ℕ) (row work votes : List ℕ) (r : ℤ) (work₁ votes₁ : List ℕ) : Type 0 where
  pub result : r ≡ done_result (stop_answer q u steps row work votes)
  pub work-is : work₁ ≡ stop_work q u steps row work votes
  pub votes-is : votes₁ ≡ stop_output q u steps row work votes

pub record Decodes (q u : ℕ) (row work message corrected : List ℕ) (r : ℤ) (work₁ message₁ corrected₁ : List ℕ) : Type 0 where
  pub result : r ≡ count_result (decode_answer q u row work message corrected)
  pub work-is : work₁ ≡ decode_work q u row work message corrected
  pub message-is : message₁ ≡ decode_message q u row work message corrected
  pub corrected-is : corrected₁ ≡ decode_corrected q u row work message corrected

pub record PassesOn (q : ℕ) (decoded : ℤ) (received corrected : List ℕ) (r : ℤ) (from₁ : ℕ) : Type 0 where
  pub result : r ≡ pos (length (passed_on q (was_accepted decoded) received corrected))
  pub from_is : from₁ ≡ row_passed (was_accepted decoded)

pub record Writes (payload block : List ℕ) (r : ℤ) (block₁ : List ℕ) : Type 0 where
  pub result : r ≡ count_result (write_answer payload block)
  pub block-is : block₁ ≡ write_block payload block

pub record Verifies (block payload records work : List ℕ) (at : ℕ) (r : ℤ) (at₁ : ℕ) (records₁ work₁ : List ℕ) : Type 0 where
  pub result : r ≡ verify_result (verify_bytes_answer block payload records work)
  pub at-is : at₁ ≡ verify_at (verify_bytes_answer block payload records work) at
  pub records_is : records₁ ≡ verify_bytes_records block payload records work
  pub work-is : work₁ ≡ verify_bytes_work block payload records work

module _ {q u : ℕ} {message row row₁ row₂ : List ℕ} {r r' : ℤ} where
  pub tape-encode-settled : Encodes q u message row r row₁ → Encodes q u message row r' row₂ → (r ≡ r') × (row₁ ≡ row₂)
  tape-encode-settled P P' = (P.result ∙ sym P'.result, P.row_is ∙ sym P'.row_is)

module _ {q u steps : ℕ} {row work votes work₁ work₂ votes₁ votes₂ : List ℕ} {r r' : ℤ} where
  pub tape-stop-settled : Stops q u steps row work votes r work₁ votes₁ → Stops q u steps row work votes r' work₂ votes₂
      → (r ≡ r') × (work₁ ≡ work₂) × (votes₁ ≡ votes₂)
  tape-stop-settled P P' = (P.result ∙ sym P'.result, P.work-is ∙ sym P'.work-is, P.votes-is ∙ sym P'.votes-is)

module _ {q u : ℕ} {row work message corrected work₁ work₂ message₁ message₂ corrected₁ corrected₂ : List ℕ} {r r' : ℤ} where
  pub tape-decode-settled : Decodes q u row work message corrected r work₁ message₁ corrected₁
      → Decodes q u row work message corrected r' work₂ message₂ corrected₂
      → (r ≡ r') × (work₁ ≡ work₂) × (message₁ ≡ message₂) × (corrected₁ ≡ corrected₂)
  tape-decode-settled P P' =
      (P.result ∙ sym P'.result, P.work-is ∙ sym P'.work-is, P.message-is ∙ sym P'.message-is, P.corrected-is ∙ sym P'.corrected-is)

module _ {q from₁ from₂ : ℕ} {received corrected : List ℕ} {decoded r r' : ℤ} where
  pub tape-pass-on-settled : PassesOn q decoded received corrected r from₁ → PassesOn q decoded received corrected r' from₂
      → (r ≡ r') × (from₁ ≡ from₂)
  tape-pass-on-settled P P' = (P.result ∙ sym P'.result, P.from_is ∙ sym P'.from_is)

module _ {payload block block₁ block₂ : List ℕ} {r r' : ℤ} where
  pub tape-write-settled : Writes payload block r block₁ → Writes payload block r' block₂ → (r ≡ r') × (block₁ ≡ block₂)
  tape-write-settled P P' = (P.result ∙ sym P'.result, P.block-is ∙ sym P'.block-is)

module _ {at at₁ at₂ : ℕ} {block payload records work records₁ records₂ work₁ work₂ : List ℕ} {r r' : ℤ} where
  pub tape-verify-settled : Verifies block payload records work at r at₁ records₁ work₁
      → Verifies block payload records work at r' at₂ records₂ work₂
      → (r ≡ r') × (at₁ ≡ at₂) × (records₁ ≡ records₂) × (work₁ ≡ work₂)
  tape-verify-settled P P' =
      (P.result ∙ sym P'.result, P.at-is ∙ sym P'.at-is, P.records_is ∙ sym P'.records_is, P.work-is ∙ sym P'.work-is)
