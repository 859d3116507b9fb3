-- Decoding a row within reach of a message's row: the votes are the message, and it is accepted with the number of places that
-- differ. So no second message is within reach, and where decoding gives 8 none is.
-- Assumes nothing.
use mathlib.Core.Path.{◌≡◌, refl, sym, ap, ap₂, ◌∙◌}
use mathlib.Core.Bool.{cond}
use mathlib.Core.List.{List, [], ◌∷◌, map}
use Prim.Native.Nat.{ℕ, zero, suc, ◌+◌, ◌≤◌, ◌<◌}
use native.Mathlib.Omega.{arith}
use native.Mathlib.Decide.{dec_le, ℕ_discrete}
use lib.Dec.{eqb}
use lib.ListN.{length, length-map}
use borrow.Author.Tests.{eq-eqb, ne_eqb}
use Rattle.std.specs.Prelude.{Ok, Err}
use Rattle.refusals.specs.declared.Refusal.TheVariants.{BeyondReach}
use Rattle.algebra.specs.Symbols.{Symbols, same}
use Rattle.algebra.specs.Totals.{total}
use Rattle.algebra.proofs.NumberSums.{total_head}
use Rattle.symbols.specs.Rule.{symbols, number, symbol}
use Rattle.symbols.proofs.FieldLaws.{laws-of}
use Rattle.symbols.proofs.SymbolLists.{numbers-of-symbols}
use Rattle.curve.specs.Codes.{point_count, reach}
use Rattle.curve.specs.Given.{Message, Received}
use Rattle.curve.specs.Rows.{row_of}
use Rattle.curve.proofs.Arranged.{points-arranged}
use Rattle.curve.proofs.CodeLaws.{code_below}
use Rattle.curve.proofs.RowLaws.{row-length}
use Rattle.encoder.specs.Encoding.{row_numbers}
use Rattle.steps.specs.Stop.{state_after, votes_after}
use Rattle.withinreach.specs.Read.{differs, voted_message, apart, Within}
use Rattle.withinreach.proofs.Read.{read-within}
use Rattle.judging.specs.Judging.{differing, count_of}
use Rattle.voting.specs.Voting.{voted}
use Rattle.decoder.specs.Decoding.{decoded}
use Rattle.decoder.proofs.Judgements.{accepted-is}

-- the test of equal numbers, the other way round
turned : (a b : ℕ) → eqb a b ≡ eqb b a
turned a b = elim (ℕ_discrete a b) [
  | yes e ↦ eq-eqb a b e ∙ sym (eq-eqb b a (sym e))
  | no ne ↦ ne_eqb a b ne ∙ sym (ne_eqb b a (λ e. ne (sym e)))
]

-- the places that differ are as many by the numbers as by the symbols
differing-symbols : (𝓢 : Symbols) (n : ℕ) (sent row : List 𝓢.K) → length sent ≡ n → length row ≡ n
    → differing (map 𝓢.number sent) (map 𝓢.number row) ≡ total n (differs 𝓢 row sent)
unfolding differing differs total same
differing-symbols 𝓢 zero [] [] e e' = refl
differing-symbols 𝓢 (suc n) (x ∷ sent) (y ∷ row) e e' =
    ap₂ ◌+◌ (ap (λ b. cond b 0 1) (turned (𝓢.number x) (𝓢.number y)))
    (differing-symbols 𝓢 n sent row (omega arith) (omega arith))
    ∙ sym (total_head n (differs 𝓢 (y ∷ row) (x ∷ sent)))
differing-symbols 𝓢 zero (x ∷ sent) row e e' = absurd (omega arith)
differing-symbols 𝓢 zero [] (y ∷ row) e e' = absurd (omega arith)
differing-symbols 𝓢 (suc n) [] row e e' = absurd (omega arith)
differing-symbols 𝓢 (suc n) (x ∷ sent) [] e e' = absurd (omega arith)

module _ (q u : ℕ) (sent row : List ℕ) (m : Message q u sent) (input : Received q u row) where
  -- so the count of a message is the number that the theorem speaks of
  count-apart : count_of q u sent row ≡ apart (symbols q) q u (map (symbol q) sent) (map (symbol q) row)
  unfolding count_of row_numbers apart
  count-apart =
      let r = row_of (symbols q) q u (map (symbol q) sent) in
      ap (differing (map (number q) r)) (sym (numbers-of-symbols q m.known row input.all-symbols))
      ∙ differing-symbols (symbols q) (point_count q) r (map (symbol q) row)
      (row-length (points-arranged q m.known) u (map (symbol q) sent)) (length-map row (symbol q) ∙ input.whole)

  module _ (near : count_of q u sent row ≤ reach q u) where
    -- the votes are the message
    pub voted-within : voted q u row ≡ sent
    unfolding voted votes_after state_after voted_message Within
    voted-within =
        ap (map (number q)) (read-within (laws-of q m.known) (points-arranged q m.known) u (code_below q u m.code)
        (map (symbol q) row) (map (symbol q) sent) (length-map sent (symbol q) ∙ m.whole) (omega (arith, count-apart)))
        ∙ numbers-of-symbols q m.known sent m.all-symbols

    -- and it is accepted, with the number of places that differ
    pub decoded-within : decoded q u row ≡ Ok (count_of q u sent row)
    unfolding decoded
    decoded-within = rw voted-within (accepted-is q u sent row near)

  -- where decoding gives 8 the message is not within reach
  pub none_within : decoded q u row ≡ Err BeyondReach → reach q u < count_of q u sent row
  none_within refused = elim (dec_le (count_of q u sent row) (reach q u)) [
    | yes near ↦
        let accepted = decoded-within near in
        let z : ◌≡◌ {A = ℕ} 0 1 = cc in
        absurd (omega arith)
    | no far ↦ omega arith
  ]

-- no second message is within reach
pub one-within : (q u : ℕ) (sent sent' row : List ℕ) → Message q u sent → Message q u sent' → Received q u row
    → count_of q u sent row ≤ reach q u → count_of q u sent' row ≤ reach q u → sent ≡ sent'
one-within q u sent sent' row m m' input near near' =
    sym (voted-within q u sent row m input near) ∙ voted-within q u sent' row m' input near'
