-- What is within reach is always read, for every field with laws whose points stand in their columns: the votes after all steps
-- are the message. So no second message is within reach.
-- Assumes nothing.
use mathlib.Core.Path.{◌≡◌, sym, ◌∙◌}
use mathlib.Core.Bool.{true}
use mathlib.Core.List.{List}
use Prim.Native.Nat.{ℕ, ◌*◌, ◌≤◌, ◌<◌}
use native.Mathlib.Omega.{arith}
use native.Mathlib.Decide.{dec_lt}
use lib.ListN.{length}
use Rattle.algebra.specs.Symbols.{Symbols, Laws}
use Rattle.algebra.specs.Weights.{nongap}
use Rattle.algebra.proofs.Powers.{two-le-q}
use Rattle.algebra.proofs.Partners.{pair-quotient, pair-remainder}
use Rattle.curve.specs.Codes.{point_count, dimension, distance}
use Rattle.curve.proofs.Arranged.{Arranged}
use Rattle.published.specs.Start.{start}
use Rattle.published.specs.Pairing.{pairing, positive_part}
use Rattle.published.proofs.PairNumbers.{one-part, pairing-paired, pairing-even}
use Rattle.published.proofs.StartLeads.{is-A, is-D}
use Rattle.withinreach.specs.Margin.{margin, start_gain, start_gains}
use Rattle.withinreach.specs.Read.{differs, voted_message, apart, Within}
use Rattle.withinreach.proofs.AllSteps.{votes-read}
use Rattle.withinreach.proofs.Margins.{gains-are-margin, distance_least, reach-below}

module _ {𝓢 : Symbols} {q : ℕ} (𝓛 : Laws 𝓢 q) where
  open 𝓢 use {K}

  -- q is not 0
  positive : 0 < q
  positive = omega (arith, two-le-q 𝓛)

  -- start_gain is the max(c, 0) of the rule, for the polynomials before the first step
  pub start-gain : (u s : ℕ) (row : List K) (i : ℕ) → i < q
      → positive_part (pairing 𝓢 q u s (start 𝓢 q row) i).c ≡ start_gain q s i
  unfolding start_gain
  start-gain u s row i hi =
      let S = start 𝓢 q row in
      let P = pairing 𝓢 q u s S i in
      let pair = pairing-paired 𝓢 q u s S i hi in
      let even = pairing-even 𝓢 q u s S i hi in
      let A = is-A 𝓛 row i hi in
      let D = is-D 𝓛 row P.partner pair.small' in
      let remainder = pair-remainder q pair 0 in
      let quotient = pair-quotient q pair 0 in
      elim (dec_lt 0 (positive_part P.c)) [
        | yes l ↦ omega (arith, one-part P.c l)
        | no l ↦ omega arith
      ]

  module _ (𝓐 : Arranged 𝓢 q) (u : ℕ) (u-below : u < point_count q) (row : List K) where
    module _ (message : List K) (whole : length message ≡ dimension q u) where
      -- twice the errors are below the sum of max(q² - k, 0) over the pairs of the start, at every non-gap up to u
      pub read-by-gains : ((s : ℕ) → s ≤ u → nongap q s ≡ true → 2 * apart 𝓢 q u message row < start_gains q s)
          → voted_message 𝓢 q u row ≡ message
      unfolding voted_message apart differs
      read-by-gains few = votes-read 𝓛 𝓐 u u-below message row few whole

      -- they are below ν(s) at every non-gap up to u
      pub read-by-margin : ((s : ℕ) → s ≤ u → nongap q s ≡ true → 2 * apart 𝓢 q u message row < margin q s)
          → voted_message 𝓢 q u row ≡ message
      read-by-margin few =
          read-by-gains (λ s l some. rw (gains-are-margin q positive s some (omega arith)) (few s l some))

      -- they are below the distance
      pub read-by-distance : 2 * apart 𝓢 q u message row < distance q u → voted_message 𝓢 q u row ≡ message
      read-by-distance few = read-by-margin (λ s l some. omega (arith, distance_least q positive u s l))

      -- the message is within reach
      pub read-within : Within 𝓢 q u message row → voted_message 𝓢 q u row ≡ message
      unfolding Within
      read-within few = read-by-distance (omega (arith, few, reach-below q positive u u-below))

    -- no second message is within reach of a row
    pub one-message : (message message' : List K) → length message ≡ dimension q u → length message' ≡ dimension q u
        → Within 𝓢 q u message row → Within 𝓢 q u message' row → message ≡ message'
    one-message message message' whole whole' few few' =
        sym (read-within message whole few) ∙ read-within message' whole' few'
