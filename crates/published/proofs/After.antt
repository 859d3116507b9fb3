-- What holds after t steps, for every t: the leads stand in their places under the weight then in force, the weights still to
-- come have no vote, and every polynomial is zero at every point paired with the received symbol less what the votes give.
use mathlib.Core.Path.{◌≡◌, refl, sym, ap, ◌∙◌}
use mathlib.Core.List.{List}
use Prim.Native.Nat.{ℕ, zero, suc, ◌+◌, ◌*◌, ◌-◌, ◌≤◌, ◌<◌}
use native.Mathlib.Omega.{arith}
use lib.ListN.{length, get_or, set, length-set, length-replicate, get_or-replicate}
use lib.Seq.{get_or-set_other}
use Rattle.algebra.specs.Symbols.{Symbols, Laws}
use Rattle.algebra.specs.Functions.{monomial_at}
use Rattle.algebra.proofs.Ring.{ring}
use Rattle.curve.specs.Points.{point_at}
use Rattle.curve.specs.Codes.{point_count}
use Rattle.curve.proofs.Arranged.{Arranged}
use Rattle.published.specs.Start.{Polynomials, start_weight, step_count, coefficient}
use Rattle.published.specs.Steps.{substituted, updated, pairings, step, after}
use Rattle.published.specs.Meaning.{vote_on}
use Rattle.published.proofs.Widths.{weight-before}
use Rattle.published.proofs.Parts.{ZeroAt}
use Rattle.published.proofs.PairSymbols.{vote-placed}
use Rattle.published.proofs.InPlace.{InPlace}
use Rattle.published.proofs.OneStep.{step-in-place, step-zero}
use Rattle.published.proofs.StartLeads.{start-in-place}
use Rattle.published.proofs.StartZeros.{on-curve, start-zero}
use Rattle.published.proofs.Given.{given, given-none, given-less}

module _ (𝓢 : Symbols) (q : ℕ) (u : ℕ) (row : List 𝓢.K) where
  infixl 65 ◌⊖◌
  open 𝓢 use {K, 𝟘, ◌⊖◌}

  -- the polynomials after t steps
  abbrev pub polys_after : ℕ → Polynomials 𝓢 q
  polys_after t = (after 𝓢 q u row t).polys

  -- and the votes
  abbrev pub votes_after : ℕ → List K
  votes_after t = (after 𝓢 q u row t).votes

  -- what is left of the received symbol at point m
  unfoldable pub left_after : ℕ → ℕ → K
  left_after t m = get_or row m 𝟘 ⊖ given 𝓢 q u (votes_after t) (point_at 𝓢 q m)

  pub record Reached (t : ℕ) : Type 0 where
    pub led : InPlace 𝓢 q (step_count q - t) (polys_after t)
    pub long : length (votes_after t) ≡ step_count q
    pub fresh : (s : ℕ) → s + t < step_count q → get_or (votes_after t) s 𝟘 ≡ 𝟘
    pub zeros : (m p : ℕ) → m < point_count q → p < 2 * q
        → ZeroAt 𝓢 q (point_at 𝓢 q m).x (point_at 𝓢 q m).y (left_after t m) (coefficient 𝓢 q (polys_after t) p)

  -- the weight of step t + 1
  abbrev weight_of : ℕ → ℕ
  weight_of t = start_weight q - t

  -- and its vote
  abbrev vote_of : ℕ → K
  vote_of t = vote_on 𝓢 q u (weight_of t) (polys_after t)

  -- one step more of the polynomials
  pub polys-suc : (t : ℕ) → polys_after (suc t)
      ≡ updated 𝓢 q (vote_of t) (pairings 𝓢 q u (weight_of t) (polys_after t))
      (substituted 𝓢 q (weight_of t) (vote_of t) (polys_after t)) q
  unfolding after step vote_on
  polys-suc t = refl

  -- and of the votes
  pub votes-suc : (t : ℕ) → votes_after (suc t) ≡ set (votes_after t) (weight_of t) (vote_of t)
  unfolding after step vote_on
  votes-suc t = refl

module _ {𝓢 : Symbols} {q : ℕ} (𝓛 : Laws 𝓢 q) (𝓐 : Arranged 𝓢 q) (u : ℕ) (row : List 𝓢.K) where
  infixl 65 ◌⊖◌
  infixl 70 ◌⊗◌
  open 𝓢 use {K, 𝟘, ◌⊖◌, ◌⊗◌}

  -- before the first step nothing is taken away
  pub left-none : (m : ℕ) → left_after 𝓢 q u row 0 m ≡ get_or row m 𝟘
  unfolding left_after after
  left-none m = ap (λ a. get_or row m 𝟘 ⊖ a) (given-none 𝓛 u (point_at 𝓢 q m) (step_count q)) ∙ simp (ring, 𝓛)

  -- what holds there
  at-start : Reached 𝓢 q u row 0
  unfolding after
  at-start = record {
    led = let e : step_count q - 0 ≡ step_count q = omega arith in rw e (start-in-place 𝓛 row);
    long = length-replicate (step_count q) 𝟘;
    fresh = λ s h. get_or-replicate (step_count q) s 𝟘 𝟘 (omega arith);
    zeros = λ m p hm hp. rw (left-none m) (start-zero 𝓛 𝓐 row m hm p hp);
  }

  -- a step takes the vote's term away from what is left
  pub left-suc : (t m : ℕ) → t < step_count q → Reached 𝓢 q u row t
      → left_after 𝓢 q u row t m
      ⊖ vote_of 𝓢 q u row t ⊗ monomial_at 𝓢 q (weight_of 𝓢 q u row t) (point_at 𝓢 q m).x (point_at 𝓢 q m).y
      ≡ left_after 𝓢 q u row (suc t) m
  unfolding left_after vote_on
  left-suc t m h before =
      let s = weight_of 𝓢 q u row t in
      let long = before.long in
      let weight = weight-before q t h in
      let placed = vote-placed 𝓢 q u s (pairings 𝓢 q u s (polys_after 𝓢 q u row t)) in
      given-less 𝓛 u (point_at 𝓢 q m) (votes_after 𝓢 q u row t) s (vote_of 𝓢 q u row t)
      (omega arith) (before.fresh s (omega arith)) (get_or row m 𝟘) placed
      ∙ ap (λ (votes : List K). get_or row m 𝟘 ⊖ given 𝓢 q u votes (point_at 𝓢 q m)) (sym (votes-suc 𝓢 q u row t))

  -- one step more
  one_more : (t : ℕ) → t < step_count q → Reached 𝓢 q u row t → Reached 𝓢 q u row (suc t)
  one_more t h before = record {
    led = rw (polys-suc 𝓢 q u row t, lower-weight) (step-in-place 𝓛 u s S led);
    long = rw (votes-suc 𝓢 q u row t, length-set) before.long;
    fresh = λ n l.
        rw (votes-suc 𝓢 q u row t)
        (get_or-set_other (votes_after 𝓢 q u row t) s n (vote_of 𝓢 q u row t) 𝟘 (apart n l) ∙ before.fresh n (omega arith));
    zeros = λ m p hm hp.
        let P = point_at 𝓢 q m in
        let z = left_after 𝓢 q u row t m in
        rw (polys-suc 𝓢 q u row t, ← left-suc t m h before)
        (step-zero 𝓛 u s S led P.x P.y z (on-curve 𝓐 m hm) (λ p hp. before.zeros m p hm hp) p hp);
  }
    where
      s : ℕ
      s = weight_of 𝓢 q u row t

      S : Polynomials 𝓢 q
      S = polys_after 𝓢 q u row t

      led : InPlace 𝓢 q (suc s) S
      led = rw (weight-before q t h) at before.led

      lower-weight : step_count q - suc t ≡ s
      lower-weight = omega (arith, weight-before q t h)

      apart : (n : ℕ) → n + suc t < step_count q → n ≡ s → ⊥
      apart n l e = omega (arith, weight-before q t h)

  -- after any number of steps
  pub reached : (t : ℕ) → t ≤ step_count q → Reached 𝓢 q u row t
  reached zero h = at-start
  reached (suc t) h = one_more t h (reached t (omega arith))
