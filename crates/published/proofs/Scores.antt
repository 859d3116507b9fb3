-- The vote by its scores: a symbol to which the pairs give more than to all others together is the vote; where all of them name
-- the symbol 0, it is 0.
-- Assumes nothing.
use mathlib.Core.Path.{◌≡◌, refl, sym, ap, ◌∙◌}
use mathlib.Core.Logic.{◌≢◌}
use mathlib.Core.Bool.{true, cond}
use Prim.Native.Nat.{ℕ, zero, suc, ◌+◌, ◌*◌, ◌-◌, ◌≤◌, ◌<◌}
use native.Mathlib.Nat.{zero-add}
use native.Mathlib.Omega.{arith}
use native.Mathlib.Decide.{ℕ_discrete}
use lib.Dec.{eqb}
use borrow.Author.Tests.{eq-eqb, ne_eqb}
use Rattle.algebra.specs.Symbols.{Symbols, Laws, same}
use Rattle.algebra.specs.Totals.{total}
use Rattle.algebra.proofs.NumberSums.{total-cong, total-le, total_head}
use Rattle.lists.specs.Tables.{from, tab}
use Rattle.published.specs.Pairing.{Pairing, is_voted, positive_part, best, score, vote}
use Rattle.published.proofs.Best.{best_none, Greatest, best-greatest, only-greatest}

-- what is given to b is at most what is given by those who do not name a
for-other : (n : ℕ) (named given : ℕ → ℕ) (a b : ℕ) → b ≢ a
    → total n (λ i. cond (eqb (named i) b) (given i) 0) ≤ total n (λ i. cond (eqb (named i) a) 0 (given i))
for-other n named given a b ne = total-le n (λ i hi. one (named i) (given i))
  where
    one : (x c : ℕ) → cond (eqb x b) c 0 ≤ cond (eqb x a) 0 c
    one x c = elim (ℕ_discrete x b) [
      | yes e ↦ rw (eq-eqb x b e, ne_eqb x a (λ e'. ne (sym e ∙ e'))) (omega arith)
      | no d ↦ rw (ne_eqb x b d) (omega arith)
    ]

module _ (𝓢 : Symbols) (q : ℕ) where
  open 𝓢 use {number}

  -- what pair k adds to the score of a
  adds : (ℕ → Pairing 𝓢 q) → ℕ → ℕ → ℕ
  adds P a k = cond (eqb (number (P k).w) a) (positive_part (P k).c) 0

  -- a score is a sum over the pairs
  score-from : (i n : ℕ) (P : ℕ → Pairing 𝓢 q) (a : ℕ) → score 𝓢 q (from i n P) a ≡ total n (λ k. adds P a (i + k))
  unfolding score from total adds
  score-from i zero P a = refl
  score-from i (suc n) P a =
      let later : (k : ℕ) → k < n → adds P a (suc i + k) ≡ adds P a (i + suc k) = λ k hk. ap (adds P a) (omega arith) in
      let here : adds P a (i + 0) ≡ adds P a i = ap (adds P a) (omega arith) in
      let apart = total_head n (λ k. adds P a (i + k)) in
      let rest = score-from (suc i) n P a ∙ total-cong n later in
      omega (arith, rest, apart, here)

  -- of all pairs
  score-tab : (n : ℕ) (P : ℕ → Pairing 𝓢 q) (a : ℕ)
      → score 𝓢 q (tab n P) a ≡ total n (λ k. cond (eqb (number (P k).w) a) (positive_part (P k).c) 0)
  unfolding tab adds
  score-tab n P a = score-from 0 n P a ∙ total-cong n (λ k hk. ap (adds P a) (zero-add k))

module _ {𝓢 : Symbols} {q : ℕ} (𝓛 : Laws 𝓢 q) (u s : ℕ) (P : ℕ → Pairing 𝓢 q) (w : 𝓢.K) where
  open 𝓢 use {number}

  -- what the pairs give to w is more than what they give to all others together
  abbrev pub Outvoting : Type 0
  Outvoting =
      total q (λ i. cond (same 𝓢 (P i).w w) 0 (positive_part (P i).c))
      < total q (λ i. cond (same 𝓢 (P i).w w) (positive_part (P i).c) 0)

  -- then every other score is smaller
  above : Outvoting → (b : ℕ) → b ≤ q * q - 1 → b ≢ number w → score 𝓢 q (tab q P) b < score 𝓢 q (tab q P) (number w)
  unfolding same
  above more b l ne =
      rw (score-tab 𝓢 q q P b, score-tab 𝓢 q q P (number w))
      (omega (arith, more, for-other q (λ i. number (P i).w) (λ i. positive_part (P i).c) (number w) b ne))

  -- w is a symbol
  within : number w ≤ q * q - 1
  within = omega (arith, 𝓛.number-below w)

  -- so there is no tie: whichever symbol of a greatest score is taken, it is w
  pub no_tie : Outvoting → (m : ℕ) → Greatest (score 𝓢 q (tab q P)) (q * q - 1) m → m ≡ number w
  no_tie more = only-greatest (score 𝓢 q (tab q P)) (q * q - 1) (number w) within (above more)

  -- and w is the vote
  pub outvoting-is-voted : is_voted q u s ≡ true → Outvoting → vote 𝓢 q u s (tab q P) ≡ w
  unfolding vote
  outvoting-is-voted voted more =
      let chosen = no_tie more (best (score 𝓢 q (tab q P)) (q * q - 1)) (best-greatest (score 𝓢 q (tab q P)) (q * q - 1)) in
      rw (voted, chosen) (𝓛.symbol-number w)

module _ {𝓢 : Symbols} {q : ℕ} (𝓛 : Laws 𝓢 q) where
  open 𝓢 use {𝟘, number, symbol}

  -- no other symbol has a score where all pairs name 0
  score-none : (i n : ℕ) (P : ℕ → Pairing 𝓢 q) → ((k : ℕ) → k < i + n → (P k).w ≡ 𝟘) → (a : ℕ) → a ≢ 0 → score 𝓢 q (from i n P) a ≡ 0
  unfolding score from
  score-none i zero P all a ne = refl
  score-none i (suc n) P all a ne =
      rw (all i (omega arith), 𝓛.number-zero, ne_eqb 0 a (λ e. ne (sym e)), score-none (suc i) n P (λ k l. all k (omega arith)) a ne)

  -- the vote of a voted step is 0 then
  pub vote-none : (u s : ℕ) (P : ℕ → Pairing 𝓢 q) → is_voted q u s ≡ true → ((k : ℕ) → k < q → (P k).w ≡ 𝟘) → vote 𝓢 q u s (tab q P) ≡ 𝟘
  unfolding vote tab
  vote-none u s P voted all =
      let chosen = best_none (score 𝓢 q (tab q P)) (q * q - 1) (λ a l ne. score-none 0 q P (λ k l. all k (omega arith)) a ne) in
      rw (voted, chosen) (ap symbol (sym 𝓛.number-zero) ∙ 𝓛.symbol-number 𝟘)
