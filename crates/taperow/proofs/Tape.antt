-- Decoding a row of the tape: the call's checks pass, so that its answer is the row's own.
-- Assumes nothing.
use mathlib.Core.Path.{◌≡◌, sym, ap, ◌∙◌}
use mathlib.Core.Bool.{false}
use mathlib.Core.List.{List, append-nil}
use Prim.Native.Nat.{ℕ, ◌≤◌}
use native.Mathlib.Omega.{arith}
use lib.ListN.{length, drop_of_length-le}
use Rattle.refusals.proofs.Checks.{Passes, passed}
use Rattle.symbols.specs.Rule.{any_beyond}
use Rattle.published.specs.Picture.{area_size}
use Rattle.std.specs.Prelude.{Result, Err}
use Rattle.refusals.specs.declared.Refusal.{Refusal}
use Rattle.voting.specs.Voting.{voted, cleared}
use Rattle.decoder.specs.Decoding.{decoded, decode_checks, decode_answer, decode_work, if_accepted, decode_message}
use Rattle.decoder.proofs.DecodeChecks.{passes as no-check}
use Rattle.layout.specs.Layout.{tape_q, tape_u}
use Rattle.laying.proofs.TapeCode.{points-are, dimension-is, known-tape, a-code}

-- a row of 64 symbols with room for all that is written
module _ (row work message corrected : List ℕ) (full : length row ≡ 64) (symbols : any_beyond tape_q row ≡ false)
    (room : area_size tape_q ≤ length work) (places : length message ≡ 40) (rest : length corrected ≡ 64) where
  -- no check holds
  passes : Passes (decode_checks tape_q tape_u row work message corrected)
  passes =
      no-check tape_q tape_u row work message corrected
      (record { known = known-tape; code = a-code; whole = full ∙ sym points-are; all-symbols = symbols })
      (record { for-work = room; for-message = omega (arith, dimension-is, places); for-corrected = omega (arith, points-are, rest) })

  -- the answer is the row's own
  pub answers : decode_answer tape_q tape_u row work message corrected ≡ decoded tape_q tape_u row
  unfolding decode_answer
  answers = passed Err (decoded tape_q tape_u row) passes

  -- the work area is cleared
  pub clears : decode_work tape_q tape_u row work message corrected ≡ cleared (area_size tape_q) work
  unfolding decode_work
  clears = passed (λ why. work) (cleared (area_size tape_q) work) passes

  -- an acceptance writes the votes and nothing else
  pub writes : decode_message tape_q tape_u row work message corrected
      ≡ if_accepted (decoded tape_q tape_u row) (voted tape_q tape_u row) message
  unfolding decode_message
  writes =
      rw answers
      (ap (λ (l : List ℕ). if_accepted (decoded tape_q tape_u row) l message)
      (rw (dimension-is, drop_of_length-le message {i = 40} (omega arith)) (append-nil (voted tape_q tape_u row))))

-- what decoding the 64 symbols of a row leaves
pub record ReadRow (row work message : List ℕ) (answer : Result ℕ Refusal) (work' message' : List ℕ) : Type 0 where
  pub answered : answer ≡ decoded tape_q tape_u row
  pub emptied : work' ≡ cleared (area_size tape_q) work
  pub written : message' ≡ if_accepted answer (voted tape_q tape_u row) message

pub reads-row : (row work message corrected : List ℕ) (answer : Result ℕ Refusal) (work' message' : List ℕ)
    → length row ≡ 64 → any_beyond tape_q row ≡ false → area_size tape_q ≤ length work
    → length message ≡ 40 → length corrected ≡ 64 → answer ≡ decode_answer tape_q tape_u row work message corrected
    → work' ≡ decode_work tape_q tape_u row work message corrected
    → message' ≡ decode_message tape_q tape_u row work message corrected → ReadRow row work message answer work' message'
reads-row row work message corrected answer work' message' full below room places rest a w m =
    let a' = a ∙ answers row work message corrected full below room places rest in
    record {
      answered = a';
      emptied = w ∙ clears row work message corrected full below room places rest;
      written = rw a' (m ∙ writes row work message corrected full below room places rest);
    }
