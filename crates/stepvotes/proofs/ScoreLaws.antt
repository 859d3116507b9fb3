-- The scores of all symbols, pair by pair: what they are, and that they stay small. Which symbol is chosen does not matter here.
-- Assumes nothing.
use mathlib.Core.Path.{◌≡◌, refl, sym, ap, ◌∙◌}
use mathlib.Core.Bool.{cond}
use mathlib.Core.List.{List, [], ◌∷◌, ◌++◌}
use mathlib.Core.Logic.{⊎_elim}
use Prim.Native.Nat.{ℕ, ◌+◌, ◌<◌, ◌≤◌}
use native.Mathlib.Nat.{add-zero, zero-add, add_assoc}
use native.Mathlib.Omega.{arith}
use lib.Dec.{eqb}
use lib.ListN.{length, get_or, set}
use lib.Seq.{get_or-set_same, get_or-set_other}
use borrow.Author.Tests.{eq-eqb, ne_eqb}
use lib.IntN.{ℤ, pos, negsuc, nat_abs}
use Rattle.std.specs.Prelude.{Result, Ok, Err}
use Rattle.std.specs.Result.{OkIff, result_unwrap_or}
use Rattle.std.specs.Int.{FitsUnsignedBits}
use Rattle.lists.specs.Tables.{from, tab}
use Rattle.lists.proofs.Numbers.{same_or_not}
use Rattle.lists.proofs.Tables.{tab-more}
use Rattle.symbols.specs.Sizes.{most_shift}
use Rattle.symbols.specs.Rule.{symbols, number}
use Rattle.published.specs.Pairing.{Pairing, positive_part, score}

module _ (q : ℕ) where
  -- what a pair gives to the score of a
  abbrev pub share : Pairing (symbols q) q → ℕ → ℕ
  share P a = cond (eqb (number q P.w) a) (positive_part P.c) 0

  score-append : (Ps Qs : List (Pairing (symbols q) q)) (a : ℕ) → score (symbols q) q (Ps ++ Qs) a ≡ score (symbols q) q Ps a + score (symbols q) q Qs a
  unfolding score
  score-append [] Qs a = sym (zero-add (score (symbols q) q Qs a))
  score-append (P ∷ Ps) Qs a =
      ap (λ (n : ℕ). share P a + n) (score-append Ps Qs a) ∙ sym (add_assoc (share P a) (score (symbols q) q Ps a) (score (symbols q) q Qs a))

  -- no pair yet
  pub score-none : (P : ℕ → Pairing (symbols q) q) (a : ℕ) → 0 ≡ score (symbols q) q (tab 0 P) a
  unfolding score tab from
  score-none P a = refl

  score-one : (P : Pairing (symbols q) q) (a : ℕ) → score (symbols q) q (P ∷ []) a ≡ share P a
  unfolding score
  score-one P a = add-zero (share P a)

  -- one pair more
  score-more : (P : ℕ → Pairing (symbols q) q) (i a : ℕ) → score (symbols q) q (tab (i + 1) P) a ≡ score (symbols q) q (tab i P) a + share (P i) a
  score-more P i a =
      ap (λ (Ps : List (Pairing (symbols q) q)). score (symbols q) q Ps a) (tab-more i P)
      ∙ score-append (tab i P) (P i ∷ []) a
      ∙ ap (λ (n : ℕ). score (symbols q) q (tab i P) a + n) (score-one (P i) a)

  -- the scores after one pair more
  pub scores-more : (P : ℕ → Pairing (symbols q) q) (scores : List ℕ) (i w gain : ℕ) → w ≡ number q (P i).w → gain ≡ positive_part (P i).c
      → ((a : ℕ) → a < length scores → get_or scores a 0 ≡ score (symbols q) q (tab i P) a)
      → (a : ℕ) → a < length scores → get_or (set scores w (get_or scores w 0 + gain)) a 0 ≡ score (symbols q) q (tab (i + 1) P) a
  scores-more P scores i w gain ew eg old a h =
      ⊎_elim
      (λ (e : w ≡ a).
      rw e
      (get_or-set_same scores a (get_or scores a 0 + gain) 0 h
      ∙ ap (λ (n : ℕ). n + gain) (old a h)
      ∙ ap (λ (n : ℕ). score (symbols q) q (tab i P) a + n) (eg ∙ sym (hit e))
      ∙ sym (score-more P i a)))
      (λ ne.
      get_or-set_other scores w a (get_or scores w 0 + gain) 0 (λ e. ne (sym e))
      ∙ old a h
      ∙ sym (score-more P i a ∙ ap (λ (n : ℕ). score (symbols q) q (tab i P) a + n) (miss ne) ∙ add-zero (score (symbols q) q (tab i P) a)))
      (same_or_not w a)
    where
      hit : w ≡ a → share (P i) a ≡ positive_part (P i).c
      hit e = rw (eq-eqb (number q (P i).w) a (sym ew ∙ e))

      miss : (w ≡ a → ⊥) → share (P i) a ≡ 0
      miss ne = rw (ne_eqb (number q (P i).w) a (λ e. ne (ew ∙ e)))

-- a c that is converted to a number gives its positive part: a negative one counts nothing
pub converted : {E : Type 0} (z : ℤ) (r : Result ℕ E) → nat_abs z ≤ most_shift → OkIff r (FitsUnsignedBits 64 z) (nat_abs z)
    → result_unwrap_or r 0 ≡ positive_part z
unfolding positive_part
converted (pos n) (Ok m) small e = e.1
converted (pos n) (Err why) small e = absurd (e (omega arith))
converted (negsuc n) (Ok m) small e = absurd e.0
converted (negsuc n) (Err why) small e = refl

-- the scores stay small
pub bounded-more : (scores : List ℕ) (w gain most : ℕ) → w < length scores → gain ≤ most_shift → ((a : ℕ) → get_or scores a 0 ≤ most)
    → (a : ℕ) → get_or (set scores w (get_or scores w 0 + gain)) a 0 ≤ most + most_shift
bounded-more scores w gain most h few old a =
    ⊎_elim
    (λ (e : a ≡ w). rw (e, get_or-set_same scores w (get_or scores w 0 + gain) 0 h) (omega (arith, old w)))
    (λ ne. rw (get_or-set_other scores w a (get_or scores w 0 + gain) 0 ne) (omega (arith, old a)))
    (same_or_not a w)
