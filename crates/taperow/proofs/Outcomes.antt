-- The outcome of one row: what an acceptance says, and the record of a row's bytes case by case.
-- Assumes nothing.
use mathlib.Core.Path.{◌≡◌, refl, sym}
use mathlib.Core.Bool.{Bool, true, false}
use mathlib.Core.List.{List}
use Prim.Native.Nat.{ℕ, ◌*◌, ◌≤◌, zero-le}
use native.Mathlib.Omega.{arith}
use lib.Dec.{leb}
use lib.ListN.{take, drop}
use borrow.Author.Tests.{leb-true}
use Rattle.std.specs.Prelude.{Result, Ok, Err}
use Rattle.refusals.specs.declared.Refusal.{Refusal}
use Rattle.refusals.specs.declared.Refusal.TheVariants.{BeyondReach}
use Rattle.curve.specs.Codes.{reach}
use Rattle.judging.specs.Judging.{count_of}
use Rattle.decoder.specs.Decoding.{judgement, decoded, if_accepted}
use Rattle.voting.specs.Voting.{voted}
use Rattle.packing.specs.Packing.{unpacked}
use Rattle.layout.specs.Layout.{tape_q, tape_u, message_length, block_row}
use Rattle.lists.specs.Same.{same_list}
use Rattle.rowstate.specs.Outcome.{outcome, Reached}
use Rattle.taperow.specs.Reading.{row_record, judged_record}
use Rattle.layout.proofs.Reading.{message-part}
use Rattle.laying.proofs.TapeCode.{reach-is}

-- an acceptance has the true count, which is within reach
pub record Within (message row : List ℕ) (count : ℕ) : Type 0 where
  pub counted : count ≡ count_of tape_q tape_u message row
  pub reached : count ≤ 9

-- the judgement, by whether the count is within reach
judged : (message row : List ℕ) (count : ℕ) (b : Bool) → leb (count_of tape_q tape_u message row) (reach tape_q tape_u) ≡ b
    → (elim b as (λ b'. Result ℕ Refusal) [ true ↦ Ok (count_of tape_q tape_u message row) | false ↦ Err BeyondReach ]) ≡ Ok count
    → Within message row count
judged message row count true within accepted =
    let same : count_of tape_q tape_u message row ≡ count = cc in
    record {
      counted = sym same;
      reached = omega (arith, leb-true (count_of tape_q tape_u message row) (reach tape_q tape_u) within, reach-is);
    }
judged message row count false beyond accepted = cc

-- what an acceptance of a row says
pub accepted-within : (row : List ℕ) (count : ℕ) → decoded tape_q tape_u row ≡ Ok count
    → Within (voted tape_q tape_u row) row count
unfolding decoded judgement
accepted-within row count accepted = judged (voted tape_q tape_u row) row count _ refl accepted

-- the record of a row's symbols, by what reading them answered and by the message that was read
pub judged-by : (row original message old : List ℕ) (answer : Result ℕ Refusal) → answer ≡ decoded tape_q tape_u row
    → message ≡ if_accepted answer (voted tape_q tape_u row) old
    → outcome answer (same_list message (unpacked original message_length)) ≡ judged_record row original
unfolding judged_record if_accepted outcome
judged-by row original message old (Ok count) answered written = rw (← answered, written)
judged-by row original message old (Err why) answered written = rw (← answered)

-- the count of an acceptance is within reach
pub judged-reached : (row : List ℕ) (answer : Result ℕ Refusal) → answer ≡ decoded tape_q tape_u row → Reached answer
judged-reached row (Ok count) answered = (accepted-within row count (sym answered)).reached
judged-reached row (Err why) answered = tt

-- the record of row r is that of its symbols and of the bytes of its message where they stand
pub row-judged : (block payload : List ℕ) (r : ℕ) → judged_record (block_row block r) (take 20 (drop (20 * r) payload)) ≡ row_record block payload r
unfolding judged_record row_record
row-judged block payload r = rw (← message-part payload r)

-- no outcome has a count above the reach
outcome-small : (answer : Result ℕ Refusal) (equal : Bool) → ((count : ℕ) → answer ≡ Ok count → count ≤ 9)
    → (outcome answer equal).count ≤ 9
unfolding outcome
outcome-small (Ok count) true small = small count refl
outcome-small (Ok count) false small = small count refl
outcome-small (Err why) equal small = zero-le

-- no row has a count above the reach
pub row-count-small : (block payload : List ℕ) (r : ℕ) → (row_record block payload r).count ≤ 9
unfolding row_record
row-count-small block payload r = outcome-small _ _
    (λ count accepted. (accepted-within (block_row block r) count accepted).reached)
