-- The symbols of a pair and the vote: w_i and μ_i by the kind of the step and the sign of k.
use mathlib.Core.Path.{◌≡◌, ap, ap₂, ◌∙◌}
use mathlib.Core.Logic.{◌⊎◌, inl, inr}
use mathlib.Core.Bool.{Bool, true, false, cond}
use mathlib.Core.List.{List}
use Prim.Native.Nat.{ℕ, ◌*◌, ◌-◌, ◌≤◌}
use lib.IntN.{ℤ, pos}
use Rattle.algebra.specs.Symbols.{Symbols}
use Rattle.algebra.specs.Weights.{nongap}
use Rattle.published.specs.Start.{Polynomials, lower, f, coefficient}
use Rattle.published.specs.Pairing.{Pairing, pairing, Naming, in_voted_step, in_unvoted_step, lead_f, looked, is_negative, positive_part}
use Rattle.published.specs.Pairing.{is_voted, score, best, vote}
use Rattle.published.proofs.Tests.{decided}
use Rattle.published.proofs.VotedWeights.{voted-below, voted-nongap}

module _ (𝓢 : Symbols) (q : ℕ) (u s : ℕ) where
  infixl 70 ◌⊗◌
  open 𝓢 use {K, 𝟘, 𝟙, minus, ◌⊗◌, inverse, symbol}

  -- an unvoted step has the vote 0
  pub unvoted : (Ps : List (Pairing 𝓢 q)) → is_voted q u s ≡ false → vote 𝓢 q u s Ps ≡ 𝟘
  unfolding vote
  unvoted Ps e = ap (λ t. cond t (symbol (best (score 𝓢 q Ps) (q * q - 1))) 𝟘) e

  -- the vote is 0, or its weight is at most u and a non-gap
  pub vote-placed : (Ps : List (Pairing 𝓢 q)) → (vote 𝓢 q u s Ps ≡ 𝟘) ⊎ ((s ≤ u) × (nongap q s ≡ true))
  vote-placed Ps =
      decided (is_voted q u s) (λ e. inr (voted-below q u s e, voted-nongap q u s e)) (λ e. inl (unvoted Ps e))

  module _ (S : Polynomials 𝓢 q) (i : ℕ) where
    -- the numbers of pair i
    abbrev P : Pairing 𝓢 q
    P = pairing 𝓢 q u s S i

    -- the leading coefficient of f_i, and b for a k that is not negative
    abbrev lead : K
    lead = lead_f 𝓢 q S i

    abbrev b : ℕ → K
    b k = coefficient 𝓢 q S (f q i) lower P.partner k

    -- w_i and μ_i by the kind of the step and by k
    abbrev pub named : Bool → ℤ → Naming 𝓢 q
    named voted k =
        let found = looked 𝓢 q S i P.partner k in
        cond voted (in_voted_step 𝓢 q k found lead) (in_unvoted_step 𝓢 q k found)

    -- in a voted step μ_i is the leading coefficient of f_i
    pub μ-voted : is_voted q u s ≡ true → (k : ℕ) → P.k ≡ pos k → P.μ ≡ lead
    unfolding pairing in_voted_step is_negative
    μ-voted v k e = ap₂ (λ t n. (named t n).μ) v e

    -- and w_i = -b/μ_i
    pub w-voted : is_voted q u s ≡ true → (k : ℕ) → P.k ≡ pos k → P.w ≡ minus (b k) ⊗ inverse lead
    unfolding pairing in_voted_step looked is_negative positive_part
    w-voted v k e = ap₂ (λ t n. (named t n).w) v e

    -- in an unvoted one μ_i = 1
    pub μ-unvoted : is_voted q u s ≡ false → P.μ ≡ 𝟙
    unfolding pairing in_unvoted_step
    μ-unvoted v = ap (λ t. (named t P.k).μ) v

    -- and w_i = -b
    pub w-unvoted : is_voted q u s ≡ false → (k : ℕ) → P.k ≡ pos k → P.w ≡ minus (b k)
    unfolding pairing in_unvoted_step looked is_negative positive_part
    w-unvoted v k e = ap₂ (λ t n. (named t n).w) v e

    -- w_i = 0 where k is negative; no voted step has such a k
    pub w-negative : is_voted q u s ≡ false → is_negative P.k ≡ true → P.w ≡ 𝟘
    unfolding pairing in_unvoted_step
    w-negative v t =
        ap (λ t. (named t P.k).w) v ∙ ap (λ n. cond n 𝟘 (minus (looked 𝓢 q S i P.partner P.k))) t
