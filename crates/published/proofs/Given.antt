-- What the votes give at a point: the value of their sum over the monomials. A new vote adds its own term.
use mathlib.Core.Path.{◌≡◌, sym, ap, ap₂, ◌∙◌}
use mathlib.Core.Logic.{◌≢◌, ◌⊎◌, ⊎_elim}
use mathlib.Core.Bool.{true}
use mathlib.Core.List.{List}
use Prim.Native.Nat.{ℕ, ◌≤◌, ◌<◌}
use native.Mathlib.Decide.{ℕ_discrete}
use lib.ListN.{length, get_or, set, replicate}
use lib.Seq.{get_or-set_same, get_or-set_other}
use Rattle.algebra.specs.Symbols.{Symbols, Laws, sum}
use Rattle.algebra.specs.Weights.{nongap}
use Rattle.algebra.specs.Functions.{monomial_at}
use Rattle.algebra.proofs.Ring.{ring, units, linear}
use Rattle.algebra.proofs.Sums.{sum-cong, sum-none, sum-sub, sum-single}
use Rattle.curve.specs.Points.{Point}
use Rattle.curve.specs.Codes.{nongaps, dimension}
use Rattle.curve.specs.Rows.{message_at}
use Rattle.curve.specs.Ranks.{rank}
use Rattle.lists.proofs.Tables.{get_d_map, replicate-at}
use Rattle.curve.proofs.Ranks.{nongaps-at, nongaps-rank, rank_below}
use Rattle.published.specs.Steps.{message_of}

module _ (𝓢 : Symbols) (q : ℕ) (u : ℕ) where
  open 𝓢 use {K, 𝟘}

  -- what the votes give at P
  unfoldable pub given : List K → Point 𝓢 q → K
  given votes P = message_at 𝓢 q (nongaps q u) (message_of 𝓢 q u votes) P

  -- symbol m of the voted message is the vote for number m of the non-gaps
  message-vote : (votes : List K) (m : ℕ) → m < dimension q u
      → get_or (message_of 𝓢 q u votes) m 𝟘 ≡ get_or votes (get_or (nongaps q u) m 0) 𝟘
  unfolding message_of dimension
  message-vote votes m h = get_d_map (λ s. get_or votes s 𝟘) (nongaps q u) m 𝟘 0 h

module _ {𝓢 : Symbols} {q : ℕ} (𝓛 : Laws 𝓢 q) (u : ℕ) (P : Point 𝓢 q) where
  infixl 65 ◌⊕◌ ◌⊖◌
  infixl 70 ◌⊗◌
  open 𝓢 use {K, 𝟘, ◌⊕◌, ◌⊖◌, ◌⊗◌}

  -- the monomial of s at P
  abbrev φ : ℕ → K
  φ s = monomial_at 𝓢 q s P.x P.y

  -- the term of number m of the non-gaps
  term : List K → ℕ → K
  term votes m = get_or votes (get_or (nongaps q u) m 0) 𝟘 ⊗ φ (get_or (nongaps q u) m 0)

  -- what the votes give, term by term
  given-sum : (votes : List K) → given 𝓢 q u votes P ≡ sum 𝓢 (dimension q u) (term votes)
  unfolding given message_at term dimension
  given-sum votes =
      sum-cong 𝓢 (dimension q u) (λ m hm. ap (λ a. a ⊗ φ (get_or (nongaps q u) m 0)) (message-vote 𝓢 q u votes m hm))

  -- the same votes give the same
  given-cong : (votes votes' : List K) → ((s : ℕ) → get_or votes s 𝟘 ≡ get_or votes' s 𝟘)
      → given 𝓢 q u votes P ≡ given 𝓢 q u votes' P
  unfolding term
  given-cong votes votes' e =
      given-sum votes
      ∙ sum-cong 𝓢 (dimension q u) (λ m hm. ap (λ a. a ⊗ φ (get_or (nongaps q u) m 0)) (e (get_or (nongaps q u) m 0)))
      ∙ sym (given-sum votes')

  -- no vote gives nothing
  pub given-none : (n : ℕ) → given 𝓢 q u (replicate n 𝟘) P ≡ 𝟘
  unfolding term
  given-none n =
      given-sum (replicate n 𝟘) ∙ sum-none 𝓛 (dimension q u) (λ m hm.
      ap (λ a. a ⊗ φ (get_or (nongaps q u) m 0)) (replicate-at n (get_or (nongaps q u) m 0) 𝟘) ∙ simp (units, 𝓛))

  -- a vote for a weight that had none
  module _ (votes : List K) (s : ℕ) (w : K) (within : s < length votes) (fresh : get_or votes s 𝟘 ≡ 𝟘) where
    -- the vote 0 changes nothing
    given-zero : w ≡ 𝟘 → given 𝓢 q u (set votes s w) P ≡ given 𝓢 q u votes P ⊕ w ⊗ φ s
    given-zero e = given-cong (set votes s w) votes same ∙ rw e (simp (ring, 𝓛))
      where
        same : (n : ℕ) → get_or (set votes s w) n 𝟘 ≡ get_or votes n 𝟘
        same n = elim (ℕ_discrete n s) [
          | yes d ↦ rw d (get_or-set_same votes s w 𝟘 within ∙ e ∙ sym fresh)
          | no d ↦ get_or-set_other votes s n w 𝟘 d
        ]

    -- any other adds its term, in one place
    given-voted : s ≤ u → nongap q s ≡ true → given 𝓢 q u (set votes s w) P ≡ given 𝓢 q u votes P ⊕ w ⊗ φ s
    unfolding term
    given-voted below t = linear 𝓛 difference (simp (given-sum, ring, 𝓛))
      where
        here : get_or (nongaps q u) (rank q s) 0 ≡ s
        here = nongaps-at q u s t below

        other : (m : ℕ) → m < dimension q u → m ≢ rank q s → term (set votes s w) m ⊖ term votes m ≡ 𝟘
        other m hm ne =
            let n = get_or (nongaps q u) m 0 in
            let apart = get_or-set_other votes s n w 𝟘 (λ e. ne (sym (nongaps-rank q u m hm) ∙ ap (rank q) e)) in
            ap (λ a. a ⊗ φ n ⊖ term votes m) apart ∙ simp (ring, 𝓛)

        own : term (set votes s w) (rank q s) ⊖ term votes (rank q s) ≡ w ⊗ φ s
        own =
            ap (λ n. get_or (set votes s w) n 𝟘 ⊗ φ n ⊖ get_or votes n 𝟘 ⊗ φ n) here
            ∙ ap₂ (λ a b. a ⊗ φ s ⊖ b ⊗ φ s) (get_or-set_same votes s w 𝟘 within) fresh ∙ simp (ring, 𝓛)

        difference : sum 𝓢 (dimension q u) (term (set votes s w)) ⊖ sum 𝓢 (dimension q u) (term votes) ≡ w ⊗ φ s
        difference =
            let new = term (set votes s w) in
            let old = term votes in
            sym (sum-sub 𝓛 (dimension q u) new old)
            ∙ sum-single 𝓛 (dimension q u) (rank q s) (λ m. new m ⊖ old m) (rank_below q u s t below) other ∙ own

    -- so what is left of a symbol r is less by the term
    pub given-less : (r : K) → (w ≡ 𝟘) ⊎ ((s ≤ u) × (nongap q s ≡ true))
        → r ⊖ given 𝓢 q u votes P ⊖ w ⊗ φ s ≡ r ⊖ given 𝓢 q u (set votes s w) P
    given-less r how =
        linear 𝓛 (⊎_elim given-zero (λ (v : (s ≤ u) × (nongap q s ≡ true)). given-voted v.0 v.1) how) (simp (ring, 𝓛))
