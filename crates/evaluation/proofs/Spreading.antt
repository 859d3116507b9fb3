-- The message's bytes in the places of their monomials: what is there before the first weight, and what one weight brings.
-- Assumes nothing.
use mathlib.Core.Path.{◌≡◌, sym, ap, ap₂, ◌∙◌}
use mathlib.Core.Logic.{◌≢◌, ⊎_elim}
use mathlib.Core.Bool.{true, false, not}
use mathlib.Core.List.{List}
use Prim.Native.Nat.{ℕ, ◌+◌, ◌*◌, ◌≤◌, ◌<◌}
use native.Mathlib.Decide.{ℕ_discrete}
use native.Mathlib.Omega.{arith}
use lib.ListN.{length, get_or, set, replicate, get_or-replicate}
use lib.Seq.{get_or-set_same, get_or-set_other}
use borrow.Author.Tests.{lt-ltb, le-ltb}
use Rattle.algebra.specs.Weights.{weight, x_power, y_power, gap, nongap}
use Rattle.algebra.proofs.WeightLaws.{weight-powers, y_power-below, y_power-weight, x_power-weight, weight-fits, gap-none}
use Rattle.lists.proofs.Numbers.{lt-or-ge}
use Rattle.symbols.specs.Sizes.{most_q, most_symbols, most_points}
use Rattle.symbols.specs.Rule.{Known}
use Rattle.symbols.proofs.Bytes.{known-positive, known-high, square-small}
use Rattle.curve.specs.Codes.{point_count}
use Rattle.curve.specs.Ranks.{rank}
use Rattle.curve.proofs.RowLaws.{count-is}
use Rattle.evaluation.specs.Stages.{placed, IsSpread}

module _ (q : ℕ) (message : List ℕ) where
  -- the byte for a weight below s stands in its place
  pub placed-in : (s j i : ℕ) → weight q j i < s → placed q s message j i ≡ get_or message (rank q (weight q j i)) 0
  unfolding placed
  placed-in s j i h = rw (lt-ltb (weight q j i) s h, placed)

  -- no other does
  pub placed-out : (s j i : ℕ) → s ≤ weight q j i → placed q s message j i ≡ 0
  unfolding placed
  placed-out s j i h = rw (le-ltb (weight q j i) s h, placed)

  -- another weight than s changes nothing
  placed-other : (s j i : ℕ) → weight q j i ≢ s → placed q (s + 1) message j i ≡ placed q s message j i
  placed-other s j i ne =
      ⊎_elim
      (λ (h : weight q j i < s). placed-in (s + 1) j i (omega arith) ∙ sym (placed-in s j i h))
      (λ (h : s ≤ weight q j i). placed-out (s + 1) j i (omega arith) ∙ sym (placed-out s j i h))
      (lt-or-ge (weight q j i) s)

  -- before the first weight all places are zero
  pub spread_none : Known q → IsSpread q 0 message (replicate most_points 0)
  spread_none k j i hj hi =
      get_or-replicate most_points (j * most_symbols + i) 0 0 (omega (arith, known-high q k)) ∙ sym (placed-out 0 j i (omega arith))

  -- a gap brings nothing
  pub spread-gap : (s : ℕ) (bytes : List ℕ) → gap q s ≡ true → IsSpread q s message bytes → IsSpread q (s + 1) message bytes
  spread-gap s bytes t held j i hj hi = held j i hj hi ∙ sym (placed-other s j i (gap-none q s j i t hj))

  module _ (s : ℕ) (k : Known q) (small : s < point_count q) (t : gap q s ≡ false) where
    -- the powers of a weight's monomial fit their places
    pub powers-fit : (x_power q s < most_symbols) × (y_power q s < most_q)
    unfolding nongap
    powers-fit =
        let weighs = weight-powers q s (known-positive q k) (ap not t) in
        let fits = weight-fits q (y_power q s) (x_power q s) (q * q) (omega (arith, rw count-is at small)) in
        (omega (arith, square-small q k), omega (arith, y_power-below q s (known-positive q k), known-high q k))

    -- any other weight brings its byte
    pub spread-next : (bytes : List ℕ) → length bytes ≡ most_points → IsSpread q s message bytes
        → IsSpread q (s + 1) message (set bytes (y_power q s * most_symbols + x_power q s) (get_or message (rank q s) 0))
    unfolding nongap
    spread-next bytes long held j i hj hi = elim (ℕ_discrete (weight q j i) s) [ yes e ↦ here e | no ne ↦ there ne ]
      where
        new : List ℕ
        new = set bytes (y_power q s * most_symbols + x_power q s) (get_or message (rank q s) 0)

        here : weight q j i ≡ s → get_or new (j * most_symbols + i) 0 ≡ placed q (s + 1) message j i
        here e =
            let y : y_power q s ≡ j = ap (y_power q) (sym e) ∙ y_power-weight q j i hj in
            let x : x_power q s ≡ i = ap (x_power q) (sym e) ∙ x_power-weight q j i hj in
            let place : y_power q s * most_symbols + x_power q s ≡ j * most_symbols + i = omega arith in
            ap (λ n. get_or new n 0) (sym place)
            ∙ get_or-set_same bytes (y_power q s * most_symbols + x_power q s) (get_or message (rank q s) 0) 0 (omega (arith, powers-fit))
            ∙ sym (placed-in (s + 1) j i (omega arith) ∙ ap (λ n. get_or message (rank q n) 0) e)

        there : weight q j i ≢ s → get_or new (j * most_symbols + i) 0 ≡ placed q (s + 1) message j i
        there ne =
            get_or-set_other bytes (y_power q s * most_symbols + x_power q s) (j * most_symbols + i) (get_or message (rank q s) 0) 0 apart
            ∙ held j i hj hi
            ∙ sym (placed-other s j i ne)
          where
            apart : j * most_symbols + i ≢ y_power q s * most_symbols + x_power q s
            apart e =
                let y : j ≡ y_power q s = omega (arith, powers-fit) in
                let x : i ≡ x_power q s = omega (arith, powers-fit) in
                ne (ap₂ (weight q) y x ∙ weight-powers q s (known-positive q k) (ap not t))
