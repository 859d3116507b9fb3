-- What encoding gives and leaves when a check is the first to hold, and when none holds.
-- Assumes nothing.
use mathlib.Core.Path.{◌≡◌, sym}
use mathlib.Core.List.{List, ◌++◌}
use Prim.Native.Nat.{ℕ, ◌≤◌, ◌<◌}
use lib.ListN.{length, drop}
use borrow.Author.Tests.{lt-ltb, le-ltb}
use Rattle.std.specs.Prelude.{Ok, Err}
use Rattle.refusals.specs.declared.Refusal.{Refusal}
use Rattle.refusals.specs.declared.Refusal.TheVariants.{ShortOutput}
use Rattle.refusals.proofs.Checks.{Refuses, here, Passes, clear, done, refused, passed, refuses-front, refuses-behind, passes-both}
use Rattle.curve.specs.Codes.{point_count, dimension}
use Rattle.curve.specs.Answers.{code_checks, symbol_checks}
use Rattle.encoder.specs.Encoding.{row_numbers, encode_checks, encode_answer, encode_output}

module _ (q u : ℕ) (message output : List ℕ) where
  -- a refusal is told, and nothing is written
  encode-refused : {why : Refusal} → Refuses (encode_checks q u message output) why
      → (Err why ≡ encode_answer q u message output) × (output ≡ encode_output q u message output)
  unfolding encode_answer encode_output
  encode-refused r =
      (sym (refused Err (Ok tt) r), sym (refused (λ why. output) _ r))

  -- otherwise the row is written
  encode-done : Passes (encode_checks q u message output)
      → (Ok tt ≡ encode_answer q u message output) ×
      (row_numbers q u message ++ drop (point_count q) output ≡ encode_output q u message output)
  unfolding encode_answer encode_output
  encode-done p =
      (sym (passed Err (Ok tt) p), sym (passed (λ why. output) (row_numbers q u message ++ drop (point_count q) output) p))

  -- 1, 2
  pub refused-by-code : {why : Refusal} → Refuses (code_checks q u) why
      → (Err why ≡ encode_answer q u message output) × (output ≡ encode_output q u message output)
  unfolding encode_checks
  refused-by-code r = encode-refused (refuses-front _ r)

  module _ (coded : Passes (code_checks q u)) where
    -- 4, 5
    pub refused-by-message : {why : Refusal} → Refuses (symbol_checks q (dimension q u) message) why
        → (Err why ≡ encode_answer q u message output) × (output ≡ encode_output q u message output)
    unfolding encode_checks
    refused-by-message r = encode-refused (refuses-behind coded (refuses-front _ r))

    -- 7
    pub refused-by-output : Passes (symbol_checks q (dimension q u) message) → length output < point_count q
        → (Err ShortOutput ≡ encode_answer q u message output) × (output ≡ encode_output q u message output)
    unfolding encode_checks
    refused-by-output whole short = encode-refused (refuses-behind coded (refuses-behind whole (here (lt-ltb (length output) (point_count q) short))))

    pub not-refused : Passes (symbol_checks q (dimension q u) message) → point_count q ≤ length output
        → (Ok tt ≡ encode_answer q u message output) × (row_numbers q u message ++ drop (point_count q) output ≡ encode_output q u message output)
    unfolding encode_checks
    not-refused whole room = encode-done (passes-both coded (passes-both whole (clear (le-ltb (length output) (point_count q) room) done)))
