-- The steps above the weight of h change nothing: where no monomial of h weighs n or more, the steps at the weights from n on
-- leave the polynomials as they started and vote 0. So one start weight does for all rows, the zero row too. Document 01, "The
-- decoder's steps".
-- Assumes nothing.
use mathlib.Core.Path.{◌≡◌, refl, sym, ap, ◌∙◌}
use mathlib.Core.Bool.{true}
use mathlib.Core.List.{List}
use Prim.Native.Nat.{ℕ, zero, suc, ◌+◌, ◌*◌, ◌-◌, ◌≤◌, ◌<◌}
use native.Mathlib.Omega.{arith}
use native.Mathlib.Decide.{dec_lt}
use lib.ListN.{get_or}
use lib.IntN.{pos}
use borrow.Author.Tests.{eq-eqb}
use Rattle.algebra.specs.Symbols.{Symbols, Laws, same}
use Rattle.algebra.specs.Weights.{weight}
use Rattle.algebra.proofs.Ring.{units, minus-zero, equal-same}
use Rattle.algebra.proofs.Partners.{pair-weight}
use Rattle.algebra.proofs.Bounds.{Cut, cut-ys}
use Rattle.lists.proofs.Tables.{get_or-tab}
use Rattle.published.specs.Start.{Polynomials, start_weight, step_count, lower, f, coefficient, h, table, of_table, negated, start}
use Rattle.published.specs.Pairing.{Pairing, pairing, degree_f, is_voted, vote}
use Rattle.published.specs.Steps.{State, no_pair, updated, pairings, substituted, step, after}
use Rattle.published.proofs.Tests.{decided}
use Rattle.published.proofs.Simultaneous.{changed-kept}
use Rattle.published.proofs.PairNumbers.{pairing-paired, k-negative, negative-unvoted, k-whole}
use Rattle.published.proofs.PairSymbols.{unvoted, w-voted, w-unvoted, w-negative}
use Rattle.published.proofs.Scores.{vote-none}
use Rattle.published.proofs.StartLeads.{table-whole, start_f-lower, start-held, is-A}

module _ (𝓢 : Symbols) (q : ℕ) where
  open 𝓢 use {K}

  -- no pair changes anything if each names the vote
  pub updated-kept : (w : K) (Ps : List (Pairing 𝓢 q)) (S : Polynomials 𝓢 q) (n : ℕ) → ((i : ℕ) → i < n → same 𝓢 (get_or Ps i (no_pair 𝓢 q)).w w ≡ true)
      → updated 𝓢 q w Ps S n ≡ S
  unfolding updated
  updated-kept w Ps S zero all = refl
  updated-kept w Ps S (suc n) all =
      changed-kept 𝓢 q w n (get_or Ps n (no_pair 𝓢 q)) (updated 𝓢 q w Ps S n) (all n (omega arith)) ∙ updated-kept w Ps S n (λ i l. all i (omega arith))

module _ {𝓢 : Symbols} {q : ℕ} (𝓛 : Laws 𝓢 q) (u : ℕ) (row : List 𝓢.K) where
  open 𝓢 use {K, 𝟘, number}

  -- the polynomials before the first step
  abbrev S : Polynomials 𝓢 q
  S = start 𝓢 q row

  module _ (s i : ℕ) (hi : i < q) where
    abbrev P : Pairing 𝓢 q
    P = pairing 𝓢 q u s S i

    abbrev quotient : ℕ
    quotient = degree_f 𝓢 q S i + i + (pairing-paired 𝓢 q u s S i hi).t

    -- the monomial that is looked at weighs s more than y^i
    pub looked-weight : (k : ℕ) → k + P.partner ≡ quotient → weight q P.partner k ≡ s + (q + 1) * i
    unfolding weight
    looked-weight k e =
        let w = pair-weight q (pairing-paired 𝓢 q u s S i hi) (degree_f 𝓢 q S i) k e in
        let n : weight q i (degree_f 𝓢 q S i) ≡ (q + 1) * i = ap (weight q i) (is-A 𝓛 row i hi) ∙ omega arith in
        sym w ∙ omega (arith, n)

  -- no monomial of h weighs n or more
  module _ (n : ℕ) (light : (j i : ℕ) → j < q → n ≤ weight q j i → h 𝓢 q row j i ≡ 𝟘) where
    light-cut : Cut 𝓢 q n 1 (negated 𝓢 q (of_table 𝓢 q (table 𝓢 q (h 𝓢 q row))))
    unfolding negated
    light-cut = record { off = λ j i hj l. ap 𝓢.minus (table-whole 𝓢 q row j i hj ∙ light j i hj (omega arith)) ∙ minus-zero 𝓛 }

    module _ (s : ℕ) (above : n ≤ s) where
      module _ (i : ℕ) (hi : i < q) where
        -- so the coefficient that is looked at is zero
        looked-none : (k : ℕ) → k + (P s i hi).partner ≡ quotient s i hi → coefficient 𝓢 q S (f q i) lower (P s i hi).partner k ≡ 𝟘
        looked-none k e =
            let j = (P s i hi).partner in
            let small = (pairing-paired 𝓢 q u s S i hi).small' in
            let rows = table 𝓢 q (h 𝓢 q row) in
            sym ((start-held 𝓛 row (f q i) (omega arith)).at lower j k (omega arith) small)
            ∙ ap (λ G. G j k) (start_f-lower 𝓢 q rows i) ∙ (cut-ys 𝓛 i light-cut).off j k small (omega (arith, looked-weight s i hi k e))

        -- and where k is not negative w_i is 0
        whole : (k : ℕ) → k + (P s i hi).partner ≡ quotient s i hi → (P s i hi).k ≡ pos k → (P s i hi).w ≡ 𝟘
        whole k e is =
            decided (is_voted q u s)
            (λ v. w-voted 𝓢 q u s S i v k is ∙ rw (looked-none k e) (simp (units, 𝓛)))
            (λ v. w-unvoted 𝓢 q u s S i v k is ∙ rw (looked-none k e) (minus-zero 𝓛))

        -- as it is where k is
        names-none : (P s i hi).w ≡ 𝟘
        names-none = elim (dec_lt (quotient s i hi) (P s i hi).partner) [
          | yes l ↦ w-negative 𝓢 q u s S i (negative-unvoted 𝓢 q u s S i hi l) (k-negative 𝓢 q u s S i hi l)
          | no l ↦ whole (quotient s i hi - (P s i hi).partner) (omega arith) (k-whole 𝓢 q u s S i hi (omega arith))
        ]

      -- the vote is 0
      pub vote-above : vote 𝓢 q u s (pairings 𝓢 q u s S) ≡ 𝟘
      unfolding pairings
      vote-above =
          decided (is_voted q u s) (λ v. vote-none 𝓛 u s (pairing 𝓢 q u s S) v names-none) (λ v. unvoted 𝓢 q u s (pairings 𝓢 q u s S) v)

      -- which every pair names
      all-agree : (i : ℕ) → i < q → same 𝓢 (get_or (pairings 𝓢 q u s S) i (no_pair 𝓢 q)).w 𝟘 ≡ true
      unfolding pairings
      all-agree i hi =
          equal-same 𝓛 (get_or (pairings 𝓢 q u s S) i (no_pair 𝓢 q)).w 𝟘
          (ap (λ P. P.w) (get_or-tab q (pairing 𝓢 q u s S) i (no_pair 𝓢 q) hi) ∙ names-none i hi)

      -- and 0 is put for no z
      substituted-none : substituted 𝓢 q s 𝟘 S ≡ S
      unfolding substituted
      substituted-none = rw (eq-eqb (number 𝟘) 0 𝓛.number-zero, substituted)

      -- so the step leaves the polynomials
      step-above : (state : State 𝓢 q) → state.polys ≡ S → (step 𝓢 q u s state).polys ≡ S
      unfolding step
      step-above state e =
          rw (e, vote-above) (updated-kept 𝓢 q 𝟘 (pairings 𝓢 q u s S) (substituted 𝓢 q s 𝟘 S) q all-agree ∙ substituted-none)

    -- and so do all steps down to the weight n
    pub steps-above : (t : ℕ) → n + t ≤ step_count q → (after 𝓢 q u row t).polys ≡ start 𝓢 q row
    unfolding after step_count
    steps-above zero l = refl
    steps-above (suc t) l = step-above (start_weight q - t) (omega arith) (after 𝓢 q u row t) (steps-above t (omega arith))
