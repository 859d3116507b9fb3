-- The non-gaps as a list and as a count: which stands where, and how many there are below a number.
-- Assumes nothing.
use mathlib.Core.Path.{◌≡◌, refl, ap, ◌∙◌}
use mathlib.Core.Logic.{⊎_elim}
use mathlib.Core.Bool.{Bool, true, false}
use mathlib.Core.List.{List, [], ◌∷◌, ◌++◌}
use Prim.Native.Nat.{ℕ, zero, suc, ◌+◌, ◌-◌, ◌≤◌, ◌<◌}
use native.Mathlib.Nat.{not-suc-le-zero, add-zero, add-suc}
use native.Mathlib.Numerals.{add-one}
use native.Mathlib.Omega.{arith}
use lib.ListN.{length, get_or, length-append, get_or-append}
use lib.Seq.{get_or_at}
use Rattle.algebra.specs.Weights.{nongap}
use Rattle.lists.specs.Tables.{tab, keep}
use Rattle.lists.proofs.Numbers.{lt-or-ge}
use Rattle.lists.proofs.Tables.{length-tab}
use Rattle.lists.proofs.Keep.{length-keep, keep-more, keep_same}
use Rattle.curve.specs.Codes.{nongaps, dimension}
use Rattle.curve.specs.Ranks.{rank}

module _ (q : ℕ) where
  -- the non-gaps below n, rising
  abbrev below : ℕ → List ℕ
  below n = keep (nongap q) (tab n (λ s. s))

  -- how many they are
  length-below : (n : ℕ) → length (below n) ≡ rank q n
  unfolding rank
  length-below n = refl

  -- a non-gap is one more
  pub rank-nongap : (s : ℕ) → nongap q s ≡ true → rank q (s + 1) ≡ rank q s + 1
  unfolding rank
  rank-nongap s t = ap length (keep-more (nongap q) s (λ n. n) t) ∙ length-append (below s) (s ∷ [])

  -- a gap is not counted
  pub rank-gap : (s : ℕ) → nongap q s ≡ false → rank q (s + 1) ≡ rank q s
  unfolding rank
  rank-gap s t = ap length (keep_same (nongap q) s (λ n. n) t)

  -- there are no more non-gaps than numbers
  pub rank-le : (s : ℕ) → rank q s ≤ s
  unfolding rank
  rank-le s = rw length-tab at (length-keep (nongap q) (tab s (λ n. n)))

  -- below 0 there is none
  pub rank-zero : rank q 0 ≡ 0
  rank-zero = omega (arith, rank-le 0)

  -- one number more has no fewer non-gaps below it
  rank_step : (s : ℕ) → rank q s ≤ rank q (s + 1)
  rank_step s = go (nongap q s) refl
    where
      go : (b : Bool) → nongap q s ≡ b → rank q s ≤ rank q (s + 1)
      go true t = omega (arith, rank-nongap s t)
      go false t = omega (arith, rank-gap s t)

  -- a larger number has no fewer non-gaps below it
  rank-add : (s n : ℕ) → rank q s ≤ rank q (s + n)
  rank-add s zero = rw add-zero (omega arith)
  rank-add s (suc n) = rw (add-suc, ← add-one (s + n)) (omega (arith, rank-add s n, rank_step (s + n)))

  -- the same for any two numbers
  pub rank_mono : {s t : ℕ} → s ≤ t → rank q s ≤ rank q t
  rank_mono {s} {t} h = let e : s + (t - s) ≡ t = omega arith in rw e at (rank-add s (t - s))

  -- and more, if the smaller number is a non-gap
  pub rank-strict : {s t : ℕ} → nongap q s ≡ true → s < t → rank q s < rank q t
  rank-strict {s} {t} p h = let h' : s + 1 ≤ t = omega arith in omega (arith, rank-nongap s p, rank_mono h')

  -- a non-gap comes last among those up to it
  below_more : (n : ℕ) → nongap q n ≡ true → below (suc n) ≡ below n ++ (n ∷ [])
  below_more n t = rw (← add-one n) (keep-more (nongap q) n (λ s. s) t)

  -- a gap is not among them
  below-same : (n : ℕ) → nongap q n ≡ false → below (suc n) ≡ below n
  below-same n t = rw (← add-one n) (keep_same (nongap q) n (λ s. s) t)

  -- among those below n a non-gap stands at its rank
  below_at : (n s : ℕ) → nongap q s ≡ true → s < n → get_or (below n) (rank q s) 0 ≡ s
  below_at zero s p h = absurd (not-suc-le-zero h)
  below_at (suc n) s p h =
      ⊎_elim
      (λ (l : s < n). before l (below_at n s p l) (nongap q n) refl)
      (λ (l : n ≤ s). let e : s ≡ n = omega arith in last e)
      (lt-or-ge s n)
    where
      before : s < n → get_or (below n) (rank q s) 0 ≡ s → (b : Bool) → nongap q n ≡ b → get_or (below (suc n)) (rank q s) 0 ≡ s
      before l e true t =
          rw (below_more n t) (get_or-append (below n) (n ∷ []) 0 (rank q s) (rw length-below (rank-strict p l)) ∙ e)
      before l e false t = rw (below-same n t) e

      last : s ≡ n → get_or (below (suc n)) (rank q s) 0 ≡ s
      last e = rw (below_more n (rw e at p), e) (get_or_at (below n) n [] 0 (rank q n) (length-below n))

  -- what number m among those below n is: a non-gap below n of rank m
  record Counted (n m : ℕ) : Type 0 where
    small : get_or (below n) m 0 < n
    passes : nongap q (get_or (below n) m 0) ≡ true
    ranked : rank q (get_or (below n) m 0) ≡ m

  -- a list with one more at its end has the same before it
  counted-on : (n m : ℕ) → get_or (below (suc n)) m 0 ≡ get_or (below n) m 0 → Counted n m → Counted (suc n) m
  counted-on n m e C =
      record {
        small = omega (arith, e, C.small);
        passes = rw e C.passes;
        ranked = rw e C.ranked;
      }

  counted : (n m : ℕ) → m < rank q n → Counted n m
  counted zero m h = absurd (not-suc-le-zero (rw rank-zero at h))
  counted (suc n) m h =
      ⊎_elim
      (λ (l : m < rank q n). before l (counted n m l) (nongap q n) refl)
      (λ (l : rank q n ≤ m). last l (nongap q n) refl)
      (lt-or-ge m (rank q n))
    where
      before : m < rank q n → Counted n m → (b : Bool) → nongap q n ≡ b → Counted (suc n) m
      before l C true t =
          counted-on n m (rw (below_more n t) (get_or-append (below n) (n ∷ []) 0 m (rw length-below l))) C
      before l C false t = counted-on n m (rw (below-same n t)) C

      last : rank q n ≤ m → (b : Bool) → nongap q n ≡ b → Counted (suc n) m
      last l true t =
          let e : rank q n ≡ m = omega (arith, rank-nongap n t, rw (← add-one n) at h) in
          let at : get_or (below (suc n)) m 0 ≡ n = rw (below_more n t) (get_or_at (below n) n [] 0 m (length-below n ∙ e)) in
          record { small = omega arith; passes = rw at t; ranked = rw at e }
      last l false t = absurd (omega (arith, rank-gap n t, rw (← add-one n) at h))

  -- k is the rank of what comes after u
  pub dimension-rank : (u : ℕ) → dimension q u ≡ rank q (u + 1)
  unfolding dimension nongaps rank
  dimension-rank u = refl

  -- among the non-gaps from 0 to u each stands at its rank
  pub nongaps-at : (u s : ℕ) → nongap q s ≡ true → s ≤ u → get_or (nongaps q u) (rank q s) 0 ≡ s
  unfolding nongaps
  nongaps-at u s p h = below_at (u + 1) s p (omega arith)

  -- number m of them is at most u
  pub nongaps-small : (u m : ℕ) → m < dimension q u → get_or (nongaps q u) m 0 ≤ u
  unfolding nongaps
  nongaps-small u m h = omega (arith, (counted (u + 1) m (rw (← dimension-rank u) h)).small)

  -- it is a non-gap
  pub nongaps-pass : (u m : ℕ) → m < dimension q u → nongap q (get_or (nongaps q u) m 0) ≡ true
  unfolding nongaps
  nongaps-pass u m h = (counted (u + 1) m (rw (← dimension-rank u) h)).passes

  -- and m non-gaps are below it
  pub nongaps-rank : (u m : ℕ) → m < dimension q u → rank q (get_or (nongaps q u) m 0) ≡ m
  unfolding nongaps
  nongaps-rank u m h = (counted (u + 1) m (rw (← dimension-rank u) h)).ranked

  -- a non-gap from 0 to u has its place in a message
  pub rank_below : (u s : ℕ) → nongap q s ≡ true → s ≤ u → rank q s < dimension q u
  rank_below u s p h = let h' : s < u + 1 = omega arith in rw dimension-rank (rank-strict p h')
