-- The pieces that `split_inclusive_mut` cuts a text into are its lines, and so calls with each are calls with each line.
-- Assumes nothing.
use Rattle.std.proofs.Common.{◌≡◌, ℕ, zero, suc, ◌+◌, ◌<◌, Bool, eqb, min, List, [], ◌∷◌, ◌++◌, length, take, drop, refl, sym, ap, subst, ◌∙◌, add-one, arith, Option, None, Some, Result, Ok, Err, Bor, MutBor}
use Rattle.std.proofs.lemmas.List.{nil_from_length, take_min}
use Rattle.std.proofs.Math.Seq.{take-append_seam, drop-append_seam}
use Rattle.std.specs.List.{IsFirstMatchOrLen, FoldsTo}
use Rattle.std.specs.Option.{MatchOption}
use Rattle.std.specs.Fn.{Mut, Called, ComputesKey}
use Rattle.std.specs.Iterator.{Yields}
use Rattle.std.specs.Slice.Mut.{split_inclusive_mut_rest, split_inclusive_mut_callee, split_inclusive_mut_steps}
use Rattle.std.specs.declared.slice.SplitInclusiveMut.{SplitInclusiveMut}
use Rattle.textlines.specs.Lines.{first_line, CallsEachLine, at_the_end, failed, went_on}

-- whether a byte ends a line
abbrev pub ends_line : ℕ → Bool
ends_line byte = eqb byte 10

-- a text up to its first newline and with it
take-first_line : (text : List ℕ) (i : ℕ) → IsFirstMatchOrLen ends_line text i → take (suc i) text ≡ first_line text
unfolding first_line
take-first_line [] i h = refl
take-first_line (byte ∷ text) zero h = rw (h.1 (omega arith) 0)
take-first_line (byte ∷ text) (suc i) h =
    rw (
      h.0 0 0 (omega arith) (omega arith),
      take-first_line text i
          ((λ k d low high. h.0 (suc k) d (omega arith) (omega arith)), λ inside d. h.1 (omega arith) d),
    )

-- a piece is the first line of what was left
piece-first_line : (text piece rest : List ℕ) (i : ℕ) → text ≡ piece ++ rest → length piece ≡ min (i + 1) (length text)
    → IsFirstMatchOrLen ends_line text i → piece ≡ first_line text
piece-first_line text piece rest i cut long first =
    sym (take-append_seam piece rest) ∙ ap (take (length piece)) (sym cut) ∙ ap (λ n. take n text) long ∙ take_min (i + 1) text
    ∙ rw add-one (take-first_line text i first)

module _ {F P E : Type 0} (test : Mut P (Bor ℕ × Unit {0}) Bool) (call : Mut F (MutBor (List ℕ) × Unit {0}) (Result (Unit {0}) E))
    (step : F → List ℕ → Result (Unit {0}) E → F → Type 0)
    (says : (f : F) (line : MutBor (List ℕ)) (r : Result (Unit {0}) E) (f' : F)
    → Called call f (line, tt) r f' → step f line.now r f') where
  -- A piece is the first line of what was left, and what is left after it is the text without it.
  piece-first : (s t : SplitInclusiveMut ℕ P) (line : MutBor (List ℕ)) → ComputesKey test ends_line (split_inclusive_mut_callee s)
      → split_inclusive_mut_steps test s (Some line) t
      → (0 < length (split_inclusive_mut_rest s)) × (line.now ≡ first_line (split_inclusive_mut_rest s))
      × (split_inclusive_mut_rest t ≡ drop (length (first_line (split_inclusive_mut_rest s))) (split_inclusive_mut_rest s))
      × ComputesKey test ends_line (split_inclusive_mut_callee t)
  piece-first s t line by piece =
      let computed = piece.2.2 ends_line by in
      let first = piece-first_line _ line.now _ piece.2.0 piece.0 piece.2.1 computed.1 in
      let rest : split_inclusive_mut_rest t ≡ drop (length (first_line (split_inclusive_mut_rest s))) (split_inclusive_mut_rest s) =
      sym (drop-append_seam line.now (split_inclusive_mut_rest t)) ∙ ap (drop (length line.now)) (sym piece.0)
      ∙ ap (λ l. drop (length l) (split_inclusive_mut_rest s)) first in
      (omega (arith, piece.1, piece.2.1), first, rest, computed.0)

  -- The calls with the pieces xs went on, and what came then answers r: that no piece is left, or a call that failed.
  pub calls-each_line : (s : SplitInclusiveMut ℕ P) (xs : List (MutBor (List ℕ))) (t u : SplitInclusiveMut ℕ P)
      → (o : Option (MutBor (List ℕ))) (f f' : F) (r : Result (Unit {0}) E) (Last : MutBor (List ℕ) → Type 0)
      → ((line : MutBor (List ℕ)) → Last line
      → (v : Result (Unit {0}) E) × (h : F) × (why : E) × Called call f' (line, tt) v h × (v ≡ Err why) × (r ≡ Err why))
      → ComputesKey test ends_line (split_inclusive_mut_callee s)
      → Yields (split_inclusive_mut_steps test) s xs t → split_inclusive_mut_steps test t o u
      → FoldsTo (λ p x q. (v : Result (Unit {0}) E) × Called call p (x, tt) v q × (v ≡ Ok tt)) f xs f'
      → MatchOption o (r ≡ Ok tt) Last
      → CallsEachLine step f (split_inclusive_mut_rest s) r
  calls-each_line s [] t u None f f' r Last last by yields no_piece calls end =
      let empty : split_inclusive_mut_rest s ≡ [] = rw yields (nil_from_length (split_inclusive_mut_rest t) no_piece.0) in
      rw (empty, end) at_the_end
  calls-each_line s [] t u (Some line) f f' r Last last by yields piece calls end =
      let failed_there = last line end in
      let is_first = piece-first t u line (rw yields at by) piece in
      let went = says f' line failed_there.0 failed_there.1 failed_there.3 in
      rw (yields, calls, failed_there.5)
      (failed is_first.0 (subst (λ l. step f' l (Err failed_there.2) failed_there.1) is_first.1 (rw failed_there.4 at went)))
  calls-each_line s (line ∷ xs) t u o f f' r Last last by yields then calls end =
      let is_first = piece-first s yields.0 line by yields.1 in
      let went = says f line calls.1.0 calls.0 calls.1.1 in
      went_on is_first.0 (subst (λ l. step f l (Ok tt) calls.0) is_first.1 (rw calls.1.2 at went))
      (subst (λ l. CallsEachLine step calls.0 l r) is_first.2
      (calls-each_line yields.0 xs t u o calls.0 f' r Last last is_first.3 yields.2 then calls.2 end))
