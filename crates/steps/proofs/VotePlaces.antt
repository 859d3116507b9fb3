-- The votes by rising non-gap as the steps go on: at first all are 0, and a step that votes changes one of them, at the number
-- of non-gaps below its weight.
-- Assumes nothing.
use mathlib.Core.Path.{◌≡◌, refl, sym, ap, ◌∙◌}
use mathlib.Core.Logic.{⊎_elim}
use mathlib.Core.Bool.{Bool, true, false}
use mathlib.Core.List.{List, [], ◌∷◌, ◌++◌, map}
use Prim.Native.Nat.{ℕ, zero, suc, ◌+◌, ◌-◌, ◌≤◌, ◌<◌}
use native.Mathlib.Nat.{mul-le-mul_right}
use native.Mathlib.Numerals.{add-one}
use native.Mathlib.Omega.{arith}
use lib.ListN.{length, get_or, set, replicate, length-map, length-set, length-replicate, length-append, get_or-replicate}
use lib.Seq.{get_or-set_same, get_or-set_other, ext_get_or, set-append_left}
use borrow.Author.Tests.{le-leb, lt-leb}
use Rattle.algebra.specs.Weights.{nongap}
use Rattle.lists.specs.Tables.{from, tab, keep}
use Rattle.lists.proofs.Numbers.{lt-or-ge, same_or_not}
use Rattle.lists.proofs.Tables.{get_d_map}
use Rattle.lists.proofs.Keep.{keep-more, keep_same}
use Rattle.symbols.specs.Rule.{Known, symbols, Sym, number, symbol}
use Rattle.symbols.proofs.Bytes.{known-low}
use Rattle.symbols.proofs.FieldLaws.{laws-of}
use Rattle.curve.specs.Codes.{point_count, nongaps, dimension}
use Rattle.curve.specs.Ranks.{rank}
use Rattle.curve.proofs.Ranks.{rank_mono, rank-nongap, rank-gap, rank_below, dimension-rank, nongaps-at, nongaps-small, nongaps-pass, nongaps-rank}
use Rattle.published.specs.Start.{start_weight, step_count, start}
use Rattle.published.specs.Pairing.{is_voted}
use Rattle.published.specs.Steps.{after, step, message_of}
use Rattle.published.specs.Meaning.{vote_on}
use Rattle.published.specs.Picture.{picture}
use Rattle.steps.specs.Stop.{state_after, picture_after, votes_after}
use Rattle.steps.specs.Step.{vote_after}
use Rattle.steps.specs.Votes.{votes_below, noted}

-- up to u the steps that vote are those at non-gaps
voted-low : (q u s : ℕ) → s ≤ u → is_voted q u s ≡ nongap q s
unfolding is_voted
voted-low q u s h = rw (le-leb s u h)

-- above u no step votes
voted-high : (q u s : ℕ) → u < s → is_voted q u s ≡ false
unfolding is_voted
voted-high q u s h = rw (lt-leb s u h)

-- a test is not both met and not met
apart : true ≡ false → ⊥
apart z = let n : ◌≡◌ {A = ℕ} 0 1 = cc in omega arith

-- a step that votes is at a weight up to u
pub voted-small : (q u s : ℕ) → is_voted q u s ≡ true → s ≤ u
voted-small q u s e =
    ⊎_elim (λ (h : u < s). absurd (apart (sym e ∙ voted-high q u s h))) (λ (h : s ≤ u). h) (lt-or-ge u s)

-- and at a non-gap
pub voted-pass : (q u s : ℕ) → is_voted q u s ≡ true → nongap q s ≡ true
voted-pass q u s e = sym (voted-low q u s (voted-small q u s e)) ∙ e

-- the steps' weights are those below the number of steps
in-steps : (q t : ℕ) → t < step_count q → start_weight q - t < step_count q
unfolding step_count
in-steps q t h = omega arith

-- each weight up to that of a code has its step
pub code-stepped : (q u : ℕ) → Known q → u < point_count q → u < step_count q
unfolding step_count start_weight point_count
code-stepped q u known h = omega (arith, known-low q known, mul-le-mul_right q (known-low q known))

-- before the first step the picture is that of the start
pub picture-first : (q u : ℕ) (row : List ℕ) → picture_after q u row 0 ≡ picture (symbols q) q (start (symbols q) q (map (symbol q) row))
unfolding picture_after state_after after
picture-first q u row = refl

-- a list of one symbol reads as that symbol everywhere
get_or-same : {A : Type 0} (n i : ℕ) (a : A) → get_or (replicate n a) i a ≡ a
get_or-same zero i a = refl
get_or-same (suc n) zero a = refl
get_or-same (suc n) (suc i) a = get_or-same n i a

module _ (q u : ℕ) where
  -- one weight more
  below-voted : (n : ℕ) → is_voted q u n ≡ true → votes_below q u (n + 1) ≡ votes_below q u n + 1
  unfolding votes_below
  below-voted n t = ap length (keep-more (is_voted q u) n (λ s. s) t) ∙ length-append (keep (is_voted q u) (tab n (λ s. s))) (n ∷ [])

  pub below-unvoted : (n : ℕ) → is_voted q u n ≡ false → votes_below q u (n + 1) ≡ votes_below q u n
  unfolding votes_below
  below-unvoted n t = ap length (keep_same (is_voted q u) n (λ s. s) t)

  -- below weight 0 there is nothing
  below_none : votes_below q u 0 ≡ rank q 0
  unfolding votes_below rank tab from keep
  below_none = refl

  -- below a weight up to u there are as many as non-gaps
  pub below-low : (n : ℕ) → n ≤ u + 1 → votes_below q u n ≡ rank q n
  below-low zero h = below_none
  below-low (suc n) h = rw (← add-one n) (go (below-low n (omega arith)) (nongap q n) refl)
    where
      go : votes_below q u n ≡ rank q n → (b : Bool) → nongap q n ≡ b → votes_below q u (n + 1) ≡ rank q (n + 1)
      go same true t = below-voted n (voted-low q u n (omega arith) ∙ t) ∙ ap (λ (m : ℕ). m + 1) same ∙ sym (rank-nongap q n t)
      go same false t = below-unvoted n (voted-low q u n (omega arith) ∙ t) ∙ same ∙ sym (rank-gap q n t)

  -- in all there are k
  below-high : (n : ℕ) → votes_below q u (u + 1 + n) ≡ dimension q u
  below-high zero = let e : u + 1 + 0 ≡ u + 1 = omega arith in rw e (below-low (u + 1) (omega arith) ∙ sym (dimension-rank q u))
  below-high (suc n) =
      let e : u + 1 + suc n ≡ u + 1 + n + 1 = omega arith in
      rw e (below-unvoted (u + 1 + n) (voted-high q u (u + 1 + n) (omega arith)) ∙ below-high n)

  pub below_all : (n : ℕ) → u < n → votes_below q u n ≡ dimension q u
  below_all n h = let e : u + 1 + (n - (u + 1)) ≡ n = omega arith in rw e at (below-high (n - (u + 1)))

  -- below any weight there are at most k
  pub below-le : (n : ℕ) → votes_below q u n ≤ dimension q u
  below-le n =
      ⊎_elim
      (λ (h : u < n). omega (arith, below_all n h))
      (λ (h : n ≤ u). omega (arith, below-low n (omega arith), rank_mono q {s = n} {t = u + 1} (omega arith), dimension-rank q u))
      (lt-or-ge u n)

  -- the place of a vote
  pub place_of : (s : ℕ) → is_voted q u s ≡ true → votes_below q u (s + 1) ≡ rank q s + 1
  place_of s t = below-voted s t ∙ ap (λ (m : ℕ). m + 1) (below-low s (omega (arith, voted-small q u s t)))

  module _ (done : ℕ) (h : done < step_count q) where
    -- the weights of the steps that are left
    left-now : votes_below q u (step_count q - done) ≡ votes_below q u (start_weight q - done + 1)
    unfolding step_count
    left-now = let e : start_weight q + 1 - done ≡ start_weight q - done + 1 = omega arith in ap (votes_below q u) e

    left-then : votes_below q u (step_count q - (done + 1)) ≡ votes_below q u (start_weight q - done)
    unfolding step_count
    left-then = let e : start_weight q + 1 - (done + 1) ≡ start_weight q - done = omega arith in ap (votes_below q u) e

    -- a step that votes has its place just below those that have their votes
    pub voted-place : is_voted q u (start_weight q - done) ≡ true → votes_below q u (step_count q - done) ≡ rank q (start_weight q - done) + 1
    voted-place met = left-now ∙ place_of (start_weight q - done) met

    pub voted-left : is_voted q u (start_weight q - done) ≡ true → votes_below q u (step_count q - (done + 1)) ≡ rank q (start_weight q - done)
    voted-left met = left-then ∙ below-low (start_weight q - done) (omega (arith, voted-small q u (start_weight q - done) met))

    -- a step that does not vote leaves as many
    pub unvoted-left : is_voted q u (start_weight q - done) ≡ false → votes_below q u (step_count q - (done + 1)) ≡ votes_below q u (step_count q - done)
    unvoted-left unmet = left-then ∙ sym (below-unvoted (start_weight q - done) unmet) ∙ sym left-now

  -- what noting a vote is, by whether the step votes
  pub noted-met : (done v : ℕ) (l : List ℕ) → is_voted q u (start_weight q - done) ≡ true → noted q u done v l ≡ set l (rank q (start_weight q - done)) v
  unfolding noted
  noted-met done v l met = ap (λ (b : Bool). elim b [ true ↦ set l (rank q (start_weight q - done)) v | false ↦ l ]) met

  pub noted-unmet : (done v : ℕ) (l : List ℕ) → is_voted q u (start_weight q - done) ≡ false → noted q u done v l ≡ l
  unfolding noted
  noted-unmet done v l unmet = ap (λ (b : Bool). elim b [ true ↦ set l (rank q (start_weight q - done)) v | false ↦ l ]) unmet

  module _ (row : List ℕ) where
    -- there is a vote for each weight
    length-votes : (t : ℕ) → length (state_after q u row t).votes ≡ step_count q
    unfolding state_after after step
    length-votes zero = length-replicate (step_count q) (symbols q).𝟘
    length-votes (suc t) = rw length-set (length-votes t)

    pub length-votes_after : (t : ℕ) → length (votes_after q u row t) ≡ dimension q u
    unfolding votes_after message_of dimension
    length-votes_after t = rw (length-map, length-map)

    -- the vote in place m is that of weight number m
    vote-at : (t m : ℕ) → m < dimension q u
        → get_or (votes_after q u row t) m 0 ≡ number q (get_or (state_after q u row t).votes (get_or (nongaps q u) m 0) (symbols q).𝟘)
    unfolding votes_after message_of dimension
    vote-at t m h =
        let vote_for : ℕ → Sym q = λ s. get_or (state_after q u row t).votes s (symbols q).𝟘 in
        get_d_map (number q) (map vote_for (nongaps q u)) m 0 (symbols q).𝟘 (rw length-map h)
        ∙ ap (number q) (get_d_map vote_for (nongaps q u) m (symbols q).𝟘 0 h)

    -- at first no weight has a vote
    blank : (s : ℕ) → get_or (state_after q u row 0).votes s (symbols q).𝟘 ≡ (symbols q).𝟘
    unfolding state_after after
    blank s = get_or-same (step_count q) s (symbols q).𝟘

    -- so each vote is 0
    pub votes-first : Known q → votes_after q u row 0 ≡ replicate (dimension q u) 0
    votes-first known =
        ext_get_or 0 (votes_after q u row 0) (replicate (dimension q u) 0) (length-votes_after 0 ∙ sym (length-replicate (dimension q u) 0)) (λ m h.
        let h' : m < dimension q u = rw length-votes_after at h in
        vote-at 0 m h' ∙ ap (number q) (blank (get_or (nongaps q u) m 0)) ∙ (laws-of q known).number-zero ∙ sym (get_or-replicate (dimension q u) m 0 0 h'))

    -- what a step writes
    next-votes : (t : ℕ) → (state_after q u row (t + 1)).votes
        ≡ set (state_after q u row t).votes (start_weight q - t) (vote_on (symbols q) q u (start_weight q - t) (state_after q u row t).polys)
    unfolding state_after after step vote_on
    next-votes t = rw (add-one t)

    -- a vote for another weight stays
    other-vote : (t m : ℕ) → m < dimension q u → (get_or (nongaps q u) m 0 ≡ start_weight q - t → ⊥)
        → get_or (votes_after q u row (t + 1)) m 0 ≡ get_or (votes_after q u row t) m 0
    other-vote t m h ne =
        vote-at (t + 1) m h
        ∙ ap (number q) (rw (next-votes t) (get_or-set_other (state_after q u row t).votes (start_weight q - t) (get_or (nongaps q u) m 0) (vote_on (symbols q) q u (start_weight q - t) (state_after q u row t).polys) (symbols q).𝟘 ne))
        ∙ sym (vote-at t m h)

    -- a step that does not vote changes none
    unvoted-next : (t : ℕ) → is_voted q u (start_weight q - t) ≡ false → votes_after q u row (t + 1) ≡ votes_after q u row t
    unvoted-next t unmet =
        ext_get_or 0 _ _ (length-votes_after (t + 1) ∙ sym (length-votes_after t)) (λ m h.
        let h' : m < dimension q u = rw length-votes_after at h in
        other-vote t m h' (λ e. apart (sym (voted-low q u _ (nongaps-small q u m h') ∙ nongaps-pass q u m h') ∙ ap (is_voted q u) e ∙ unmet)))

    -- a step that votes changes the one in its place
    voted-next : (t : ℕ) → t < step_count q → is_voted q u (start_weight q - t) ≡ true
        → votes_after q u row (t + 1) ≡ set (votes_after q u row t) (rank q (start_weight q - t)) (vote_after q u row t)
    unfolding vote_after
    voted-next t ht met =
        ext_get_or 0 _ _ (length-votes_after (t + 1) ∙ sym (rw length-set (length-votes_after t))) (λ m h.
        let h' : m < dimension q u = rw length-votes_after at h in ⊎_elim (here m h') (there m h') (same_or_not m (rank q s)))
      where
        s : ℕ
        s = start_weight q - t

        here : (m : ℕ) → m < dimension q u → m ≡ rank q s → get_or (votes_after q u row (t + 1)) m 0 ≡ get_or (set (votes_after q u row t) (rank q s) (vote_after q u row t)) m 0
        here m h e =
            let w = vote_on (symbols q) q u s (state_after q u row t).polys in
            let there : get_or (nongaps q u) m 0 ≡ s = rw e (nongaps-at q u s (voted-pass q u s met) (voted-small q u s met)) in
            let new : get_or (state_after q u row (t + 1)).votes (get_or (nongaps q u) m 0) (symbols q).𝟘 ≡ w = rw (next-votes t, there) (get_or-set_same (state_after q u row t).votes s w (symbols q).𝟘 (rw length-votes (in-steps q t ht))) in
            vote-at (t + 1) m h ∙ ap (number q) new
            ∙ sym (rw e (get_or-set_same (votes_after q u row t) (rank q s) (vote_after q u row t) 0 (rw (length-votes_after, ← e) h)))

        there : (m : ℕ) → m < dimension q u → (m ≡ rank q s → ⊥) → get_or (votes_after q u row (t + 1)) m 0 ≡ get_or (set (votes_after q u row t) (rank q s) (vote_after q u row t)) m 0
        there m h ne =
            other-vote t m h (λ e. ne (sym (nongaps-rank q u m h) ∙ ap (rank q) e))
            ∙ sym (get_or-set_other (votes_after q u row t) (rank q s) m (vote_after q u row t) 0 ne)

    -- noting the vote makes the votes of one step more, whatever comes after them
    pub noted-next : (t v : ℕ) (rest : List ℕ) → t < step_count q → v ≡ vote_after q u row t
        → noted q u t v (votes_after q u row t ++ rest) ≡ votes_after q u row (t + 1) ++ rest
    noted-next t v rest ht e = go (is_voted q u (start_weight q - t)) refl
      where
        go : (b : Bool) → is_voted q u (start_weight q - t) ≡ b → noted q u t v (votes_after q u row t ++ rest) ≡ votes_after q u row (t + 1) ++ rest
        go true met =
            noted-met t v (votes_after q u row t ++ rest) met
            ∙ rw e
            (set-append_left (votes_after q u row t) rest (rank q (start_weight q - t)) (vote_after q u row t) (rw length-votes_after (rank_below q u (start_weight q - t) (voted-pass q u (start_weight q - t) met) (voted-small q u (start_weight q - t) met)))
            ∙ ap (λ (l : List ℕ). l ++ rest) (sym (voted-next t ht met)))
        go false unmet = noted-unmet t v (votes_after q u row t ++ rest) unmet ∙ (ap (λ (l : List ℕ). l ++ rest) (sym (unvoted-next t unmet)))
