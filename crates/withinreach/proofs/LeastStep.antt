-- One whole step keeps the degrees of all polynomials the least.
-- Assumes nothing.
use mathlib.Core.Path.{◌≡◌}
use mathlib.Core.Logic.{⊎_elim}
use mathlib.Core.Bool.{true}
use Prim.Native.Nat.{ℕ, suc, ◌*◌, ◌≤◌, ◌<◌}
use native.Mathlib.Omega.{arith}
use Rattle.algebra.specs.Symbols.{Symbols, Laws}
use Rattle.algebra.specs.Weights.{nongap}
use Rattle.algebra.specs.Functions.{Fn}
use Rattle.algebra.proofs.Ring.{ring}
use Rattle.algebra.proofs.Leads.{LeadLower}
use Rattle.curve.specs.Points.{point_at}
use Rattle.curve.specs.Codes.{point_count}
use Rattle.curve.proofs.Arranged.{Arranged}
use Rattle.published.specs.Start.{Polynomials, upper, lower, f, coefficient}
use Rattle.published.specs.Pairing.{pairing, degree_f, degree_g}
use Rattle.published.specs.Steps.{substituted, updated, pairings}
use Rattle.published.specs.Meaning.{vote_on}
use Rattle.published.proofs.StartZeros.{on-curve}
use Rattle.published.proofs.PairNumbers.{pairing-paired}
use Rattle.published.proofs.InPlace.{InPlace}
use Rattle.published.proofs.Substitution.{Substitutable, substituted-f, substituted-g, substituted-zero}
use Rattle.published.proofs.PairGap.{vote-substitutable}
use Rattle.published.proofs.OneStep.{each-partner, step_of, is-A, is-D, step-zero}
use Rattle.withinreach.proofs.Members.{Member, member-same, member-restored, lessened}
use Rattle.withinreach.proofs.Least.{Least, least-moved, pair-least}

module _ (𝓢 : Symbols) (q : ℕ) where
  open 𝓢 use {K}

  -- all 2q polynomials are members
  pub record Members (r : ℕ → K) (S : Polynomials 𝓢 q) : Type 0 where
    pub of : (p : ℕ) → p < 2 * q → Member 𝓢 q r (coefficient 𝓢 q S p upper) (coefficient 𝓢 q S p lower)

  -- and no member has a smaller degree in its row than the polynomial that leads there
  pub record LeastOf (r : ℕ → K) (s : ℕ) (S : Polynomials 𝓢 q) : Type 0 where
    pub pair : (i j : ℕ) → i < q → j < q → Least 𝓢 q r s i j (degree_f 𝓢 q S i) (degree_g 𝓢 q S j)

module _ {𝓢 : Symbols} {q : ℕ} (𝓛 : Laws 𝓢 q) (𝓐 : Arranged 𝓢 q) where
  infixl 65 ◌⊖◌
  infixl 70 ◌⊗◌
  open 𝓢 use {K, 𝟘, ◌⊖◌, minus, ◌⊗◌}

  -- nothing is substituted: nothing is taken away
  lessened-none : (s : ℕ) (w : K) (r : ℕ → K) → w ≡ 𝟘 → (m : ℕ) → m < point_count q → lessened 𝓢 q s w r m ≡ r m
  unfolding lessened
  lessened-none s w r e m hm = rw e (simp (ring, 𝓛))

  -- a substitution keeps the degrees the least
  pub least-substituted : {r : ℕ → K} {s i j A D : ℕ} (w : K) → Substitutable 𝓢 q s w → i < q → j < q
      → Least 𝓢 q r (suc s) i j A D → Least 𝓢 q (lessened 𝓢 q s w r) (suc s) i j A D
  least-substituted {r} {s} {i} {j} {A} {D} w can hi hj least =
      ⊎_elim
      (λ (e : w ≡ 𝟘). record {
        up = λ d v φ. least.up d (member-same 𝓢 q (lessened-none s w r e) v) φ;
        low = λ d v g. least.low d (member-same 𝓢 q (lessened-none s w r e) v) g;
      })
      (λ (t : nongap q s ≡ true). least-moved 𝓛 t hi hj (minus w) (λ U L v. member-restored 𝓛 𝓐 s t w v) least)
      can

  module _ (u s : ℕ) (S : Polynomials 𝓢 q) (led : InPlace 𝓢 q (suc s) S) {r : ℕ → K} (members : Members 𝓢 q r S) where
    -- the vote, what it leaves, and the polynomials after the step
    abbrev w : K
    w = vote_on 𝓢 q u s S

    abbrev r' : ℕ → K
    r' = lessened 𝓢 q s w r

    abbrev S' : Polynomials 𝓢 q
    S' = substituted 𝓢 q s w S

    abbrev S'' : Polynomials 𝓢 q
    S'' = updated 𝓢 q w (pairings 𝓢 q u s S) S' q

    -- the polynomials are members after the substitution
    members-substituted : Members 𝓢 q r' S'
    unfolding lessened
    members-substituted = record {
      of = λ p hp. record {
        zero-at = λ m hm.
            let P = point_at 𝓢 q m in
            substituted-zero 𝓛 s w S (vote-substitutable 𝓛 u s S) led P.x P.y (r m) p (on-curve 𝓐 m hm) hp
            ((members.of p hp).zero-at m hm);
      };
    }

    -- and after the step
    pub members_step : Members 𝓢 q r' S''
    unfolding lessened
    members_step = record {
      of = λ p hp. record {
        zero-at = λ m hm.
            let P = point_at 𝓢 q m in
            step-zero 𝓛 u s S led P.x P.y (r m) (on-curve 𝓐 m hm) (λ p hp. (members.of p hp).zero-at m hm) p hp;
      };
    }

    module _ (least : LeastOf 𝓢 q r (suc s) S) where
      -- the degrees of pair i are the least after the step
      pair-after : (i : ℕ) → i < q → let j = (pairing 𝓢 q u s S i).partner in
          Least 𝓢 q r' s i j (degree_f 𝓢 q S'' i) (degree_g 𝓢 q S'' j)
      pair-after i hi =
          let P = pairing-paired 𝓢 q u s S i hi in
          let j = (pairing 𝓢 q u s S i).partner in
          let can = vote-substitutable 𝓛 u s S in
          rw (is-A 𝓛 u s S led i hi, is-D 𝓛 u s S led i hi)
          (pair-least 𝓛 P (substituted-f 𝓛 s w S can led i hi) (substituted-g 𝓛 s w S can led j P.small')
          (members-substituted.of (f q i) (omega arith)) (members_step.of (f q i) (omega arith))
          (step_of 𝓛 u s S led i hi).made
          (least-substituted w can hi P.small' (least.pair i j hi P.small')))

      -- no member has a smaller degree than g_j
      abbrev LowerLeast : ℕ → Type 0
      LowerLeast j = (d : ℕ) (U L : Fn 𝓢 q) → Member 𝓢 q r' U L → LeadLower 𝓢 q s j d U L → degree_g 𝓢 q S'' j ≤ d

      -- every g_j is the partner of some f_i
      lower-least : (j : ℕ) → j < q → LowerLeast j
      lower-least = each-partner 𝓛 u s S LowerLeast (λ i hi d U L v g. (pair-after i hi).low d v g)

      -- so the degrees of all are the least
      pub least_step : LeastOf 𝓢 q r' s S''
      least_step = record {
        pair = λ i j hi hj. record { up = (pair-after i hi).up; low = λ d {U} {L} v g. lower-least j hj d U L v g };
      }
