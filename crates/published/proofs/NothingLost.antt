-- No rule of the start or of a step gives a coefficient past x^(q²+2q-2), so that the work area loses none.
use mathlib.Core.List.{List}
use Prim.Native.Nat.{ℕ, suc, ◌-◌, ◌≤◌, ◌<◌}
use native.Mathlib.Omega.{arith}
use Rattle.algebra.specs.Symbols.{Symbols, Laws}
use Rattle.curve.proofs.Arranged.{Arranged}
use Rattle.published.specs.Start.{Polynomials, width, start_weight, step_count, h, table, start_part}
use Rattle.published.specs.Pairing.{pairing, positive_part, negative_part}
use Rattle.published.specs.Steps.{substituted_part, raised_part, reduced_part, ratio, after}
use Rattle.published.specs.Meaning.{Fits, vote_on, reached, StepFits, NothingLost}
use Rattle.published.proofs.Widths.{weight-before}
use Rattle.published.proofs.Parts.{Parts, Narrow}
use Rattle.published.proofs.Simultaneous.{raised_part-cong, reduced_part-cong}
use Rattle.published.proofs.InPlace.{InPlace}
use Rattle.published.proofs.Substitution.{substitution-narrow}
use Rattle.published.proofs.PairGap.{vote-substitutable, raised-narrow, reduced-narrow}
use Rattle.published.proofs.OneStep.{pair-before}
use Rattle.published.proofs.StartLeads.{start-narrow}
use Rattle.published.proofs.After.{reached as reached-after}

-- what has nothing past the width has nothing past x^(q²+2q-2)
narrow-fits : (𝓢 : Symbols) (q : ℕ) (F : Parts 𝓢 q) → Narrow 𝓢 q F → Fits 𝓢 q F
unfolding Fits width
narrow-fits 𝓢 q F narrow part j n ht hj h = narrow part j n ht hj (omega arith)

module _ {𝓢 : Symbols} {q : ℕ} (𝓛 : Laws 𝓢 q) where
  open 𝓢 use {K}

  -- a step
  step_fits : (u s : ℕ) (S : Polynomials 𝓢 q) → InPlace 𝓢 q (suc s) S → StepFits 𝓢 q u s S
  unfolding reached
  step_fits u s S led = record {
    substitution = λ p hp.
        let can = vote-substitutable 𝓛 u s S in
        narrow-fits 𝓢 q (substituted_part 𝓢 q s (vote_on 𝓢 q u s S) S p) (substitution-narrow 𝓛 s (vote_on 𝓢 q u s S) S can led p hp);
    raised = λ i hi.
        let P = pairing 𝓢 q u s S i in
        let r = ratio 𝓢 q (vote_on 𝓢 q u s S) P in
        let c = positive_part P.c in
        let same = raised_part-cong 𝓢 q i P.partner c r (pair-before 𝓛 u s S i hi) in
        narrow-fits 𝓢 q (raised_part 𝓢 q (reached 𝓢 q u s S i) i P.partner c r) (rw same (raised-narrow 𝓛 u s S led i hi r));
    reduced = λ i hi.
        let P = pairing 𝓢 q u s S i in
        let r = ratio 𝓢 q (vote_on 𝓢 q u s S) P in
        let c = negative_part P.c in
        let same = reduced_part-cong 𝓢 q i P.partner c r (pair-before 𝓛 u s S i hi) in
        narrow-fits 𝓢 q (reduced_part 𝓢 q (reached 𝓢 q u s S i) i P.partner c r) (rw same (reduced-narrow 𝓛 u s S led i hi r));
  }

  -- the start and the steps up to t
  pub nothing-lost : Arranged 𝓢 q → (u : ℕ) (row : List K) (t : ℕ) → t ≤ step_count q → NothingLost 𝓢 q u row t
  nothing-lost 𝓐 u row t l = record {
    start = λ p hp. narrow-fits 𝓢 q (start_part 𝓢 q (table 𝓢 q (h 𝓢 q row)) p) (start-narrow 𝓛 row p hp);
    steps = λ n l'.
        let short : n < step_count q = omega arith in
        let R = reached-after 𝓛 𝓐 u row n (omega arith) in
        step_fits u (start_weight q - n) (after 𝓢 q u row n).polys (rw (weight-before q n short) at R.led);
  }
