-- From the votes to the answer: the votes are a message, its row is what is judged, and the judgement is what is answered and
-- what is written.
-- Assumes nothing.
use mathlib.Core.Path.{◌≡◌, refl, sym, ap, ap₂, ◌∙◌}
use mathlib.Core.Bool.{Bool, true, false}
use mathlib.Core.List.{List, ◌++◌}
use Prim.Native.Nat.{ℕ, ◌≤◌, ◌<◌}
use native.Mathlib.Omega.{arith}
use lib.Dec.{leb}
use lib.ListN.{length, take, drop, length-take}
use lib.Seq.{take_all}
use borrow.Author.Tests.{le-leb, lt-leb}
use Rattle.std.specs.Prelude.{Result, Ok, Err}
use Rattle.refusals.specs.declared.Refusal.{Refusal}
use Rattle.refusals.specs.declared.Refusal.TheVariants.{BeyondReach}
use Rattle.curve.specs.Codes.{point_count, dimension, reach}
use Rattle.encoder.specs.Encoding.{row_numbers}
use Rattle.judging.specs.Judging.{count_of}
use Rattle.decoder.specs.Decoding.{judgement, decoded, if_accepted}
use Rattle.voting.specs.Voting.{voted}
use Rattle.curve.specs.Given.{Message, Received}
use Rattle.decoder.specs.FullRows.{message_after, corrected_after}
use Rattle.encoder.proofs.RowSymbols.{length-row_numbers, row_first}
use Rattle.voting.proofs.Votes.{voted-count, voted-symbols, voted-first}

-- what a count within reach, or beyond, is answered with
verdict : ℕ → Bool → Result ℕ Refusal
verdict count b = elim b [ true ↦ Ok count | false ↦ Err BeyondReach ]

module _ (q u : ℕ) (message row : List ℕ) where
  -- the judgement is the test of the count against the reach
  judged-by-reach : judgement q u message row ≡ verdict (count_of q u message row) (leb (count_of q u message row) (reach q u))
  unfolding judgement verdict
  judged-by-reach = refl

  -- so a count within reach is accepted
  pub accepted-is : count_of q u message row ≤ reach q u → judgement q u message row ≡ Ok (count_of q u message row)
  unfolding verdict
  accepted-is h = judged-by-reach ∙ ap (verdict (count_of q u message row)) (le-leb (count_of q u message row) (reach q u) h)

  -- and one beyond it is refused
  refused-is : reach q u < count_of q u message row → judgement q u message row ≡ Err BeyondReach
  unfolding verdict
  refused-is h = judged-by-reach ∙ ap (verdict (count_of q u message row)) (lt-leb (count_of q u message row) (reach q u) h)

-- all of a list that was copied, before what stays
copied : (front old : List ℕ) (n : ℕ) → length front ≡ n → take (length front) front ++ drop (length front) old ≡ front ++ drop n old
copied front old n e = ap₂ (λ l m. l ++ drop m old) (take_all (length front) front (omega arith)) e

-- the votes of a row stand in the first k places of a list
pub record Voted (q u : ℕ) (row votes : List ℕ) (k : ℕ) : Type 0 where
  pub input : Received q u row
  pub k-is : k ≡ dimension q u
  pub rest : List ℕ
  pub votes-are : votes ≡ voted q u row ++ rest

module _ {q u : ℕ} {row votes : List ℕ} {k : ℕ} (R : Voted q u row votes k) where
  -- the first k places are the votes
  first : take k votes ≡ voted q u row
  first = voted-first q u row votes R.rest k R.k-is R.votes-are

  -- they are k
  pub votes-count : length (take k votes) ≡ k
  votes-count = ap length first ∙ voted-count q u row ∙ sym R.k-is

  -- so the list is no shorter
  pub votes-fit : k ≤ length votes
  votes-fit = omega (arith, votes-count, length-take k votes)

  -- and a message
  pub votes-message : Message q u (take k votes)
  votes-message = record {
    known = R.input.known;
    code = R.input.code;
    whole = votes-count ∙ R.k-is;
    all-symbols = rw first (voted-symbols q u R.input.known row);
  }

-- their row stands in the first n places of another list, and the places that differ are counted
pub record Judged (q u : ℕ) (row votes sent : List ℕ) (k n most count : ℕ) : Type 0 where
  pub votes-of : Voted q u row votes k
  pub n-is : n ≡ point_count q
  pub most-is : most ≡ reach q u
  pub rest : List ℕ
  pub sent_is : sent ≡ row_numbers q u (take k votes) ++ rest
  pub count-is : count ≡ count_of q u (take k votes) row

module _ {q u : ℕ} {row votes sent : List ℕ} {k n most count : ℕ} (J : Judged q u row votes sent k n most count) where
  -- it is the votes that are judged
  counted : count ≡ count_of q u (voted q u row) row
  counted = J.count-is ∙ ap (λ m. count_of q u m row) (first J.votes-of)

  -- and their row that is compared
  encoded : take n sent ≡ row_numbers q u (voted q u row)
  encoded =
      row_first q J.votes-of.input.known u (take k votes) sent J.rest n J.n-is J.sent_is ∙ ap (row_numbers q u) (first J.votes-of)

  -- the row that was encoded again has n symbols
  pub sent-count : length (take n sent) ≡ n
  sent-count = ap length encoded ∙ length-row_numbers q J.votes-of.input.known u (voted q u row) ∙ sym J.n-is

  -- so the list is no shorter
  pub sent-fit : n ≤ length sent
  sent-fit = omega (arith, sent-count, length-take n sent)

  -- beyond reach
  pub beyond : most < count → decoded q u row ≡ Err BeyondReach
  unfolding decoded
  beyond h = refused-is q u (voted q u row) row (omega (arith, J.most-is, counted))

  -- within reach
  pub within : count ≤ most → decoded q u row ≡ Ok count
  unfolding decoded
  within h = accepted-is q u (voted q u row) row (omega (arith, J.most-is, counted)) ∙ ap Ok (sym counted)

  -- beyond reach the message output stays
  pub message-kept : (old : List ℕ) → most < count → old ≡ message_after q u row old
  unfolding message_after if_accepted
  message-kept old h = sym (ap (λ r. if_accepted r (voted q u row ++ drop (dimension q u) old) old) (beyond h))

  -- the corrected one too
  pub corrected-kept : (old : List ℕ) → most < count → old ≡ corrected_after q u row old
  unfolding corrected_after if_accepted
  corrected-kept old h = sym (ap (λ r. if_accepted r (row_numbers q u (voted q u row) ++ drop (point_count q) old) old) (beyond h))

  -- within reach the message output begins with a copy of the votes
  pub message-written : (out old : List ℕ) → count ≤ most → out ≡ take k votes ++ drop k old
      → out ≡ message_after q u row old
  unfolding message_after if_accepted
  message-written out old h e =
      e ∙ ap (λ m. take k votes ++ drop m old) J.votes-of.k-is
      ∙ ap (λ l. l ++ drop (dimension q u) old) (first J.votes-of)
      ∙ sym (ap (λ r. if_accepted r (voted q u row ++ drop (dimension q u) old) old) (within h))

  -- the corrected one begins with a copy of the votes' row
  pub corrected-written : (out old : List ℕ) → count ≤ most → out ≡ take n sent ++ drop n old
      → out ≡ corrected_after q u row old
  unfolding corrected_after if_accepted
  corrected-written out old h e =
      e ∙ ap (λ m. take n sent ++ drop m old) J.n-is ∙ ap (λ l. l ++ drop (point_count q) old) encoded
      ∙ sym (ap (λ r. if_accepted r (row_numbers q u (voted q u row) ++ drop (point_count q) old) old) (within h))
