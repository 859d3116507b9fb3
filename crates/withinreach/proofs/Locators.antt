-- Error locators: for each row i a function that leads with x^(e_i) y^i and is zero at every point where two rows differ, with
-- e_0 + .. + e_(q-1) at most the number of these points. They are made point after point.
-- Assumes nothing.
use mathlib.Core.Path.{◌≡◌, refl, sym, ap, ◌∙◌}
use mathlib.Core.Logic.{◌≢◌, ◌⊎◌, inl, inr}
use mathlib.Core.Bool.{Bool, true, false, cond, true≢false}
use Prim.Native.Nat.{ℕ, zero, suc, ◌+◌, ◌*◌, ◌≤◌, ◌<◌}
use native.Mathlib.Nat as Nat
use native.Mathlib.Omega.{arith}
use native.Mathlib.Decide.{ℕ_discrete}
use Rattle.algebra.specs.Symbols.{Symbols, Laws}
use Rattle.algebra.specs.Weights.{weight}
use Rattle.algebra.specs.Functions.{Fn, times_x, value_at}
use Rattle.algebra.specs.Totals.{total}
use Rattle.algebra.proofs.Ring.{ring, units, decide}
use Rattle.algebra.proofs.Powers.{power-one}
use Rattle.algebra.proofs.NumberSums.{total-const, total-change}
use Rattle.algebra.proofs.WeightLaws.{weight-x, weight-inj}
use Rattle.algebra.proofs.Bounds.{Cut, plus, plus-left, cut-le, cut-plus, cut-x, x-at}
use Rattle.algebra.proofs.OnCurve.{value_at-plus, value_at-width, value_at-x}
use Rattle.algebra.proofs.Monomials.{monomial, monomial-one, monomial-cut}
use Rattle.withinreach.proofs.Least.{factor, factor-cancels}
use Rattle.withinreach.proofs.Lightest.{Smallest, find}

module _ {𝓢 : Symbols} {q : ℕ} (𝓛 : Laws 𝓢 q) (xs ys : ℕ → 𝓢.K) (agrees : ℕ → Bool) where
  infixl 65 ◌⊕◌
  infixl 70 ◌⊗◌
  open 𝓢 use {K, 𝟘, 𝟙, ◌⊕◌, minus, ◌⊗◌}

  -- at how many of the first n points the rows differ
  abbrev pub count : ℕ → ℕ
  count n = total n (λ l. cond (agrees l) 0 1)

  -- one point more, where they differ
  count-more : (n : ℕ) → agrees n ≡ false → count (suc n) ≡ suc (count n)
  unfolding total
  count-more n e = rw e (omega arith)

  -- and any point
  count-grows : (n : ℕ) → count n ≤ count (suc n)
  unfolding total
  count-grows n = omega arith

  module _ (W : ℕ) where
    -- the locator of row i after n points
    record Locator (n i : ℕ) : Type 0 where
      e : ℕ
      ε : Fn 𝓢 q
      low : e ≤ n
      top : i < q → ε i e ≢ 𝟘
      cut : i < q → Cut 𝓢 q (weight q i e) 0 ε
      zero-at : i < q → (l : ℕ) → l < n → agrees l ≡ false → value_at 𝓢 q W ε (xs l) (ys l) ≡ 𝟘

    -- those of all rows
    record All (n : ℕ) : Type 0 where
      of : (i : ℕ) → Locator n i
      few : total q (λ i. (of i).e) ≤ count n

    -- the width has room for one power of x more
    fits : (n i e : ℕ) → i < q → e ≤ n → suc n + q ≤ W → weight q i e + q * 1 < q * W
    unfolding weight
    fits n i e hi he h =
        omega (arith, Nat.mul-le-mul_left q h, Nat.mul-le-mul_left q he, Nat.mul-le-mul_left q hi)

    -- a locator that is zero at the next point
    more : {n i : ℕ} (r : Locator n i) → (i < q → agrees n ≡ false → value_at 𝓢 q W r.ε (xs n) (ys n) ≡ 𝟘) → Locator (suc n) i
    more {n} r h = record {
      e = r.e;
      ε = r.ε;
      low = omega (arith, r.low);
      top = r.top;
      cut = r.cut;
      zero-at = λ hi l hl m. elim (ℕ_discrete l n) [
        | yes e ↦ rw e (h hi (rw e at m))
        | no ne ↦ r.zero-at hi l (omega arith) m
      ];
    }

    module _ (n : ℕ) (wide : suc n + q ≤ W) (rs : All n) where
      -- the values at the next point
      value : ℕ → K
      value i = value_at 𝓢 q W (rs.of i).ε (xs n) (ys n)

      -- (x - x_n) times a locator
      raise : (i : ℕ) → Locator (suc n) i
      raise i =
          let r = rs.of i in
          let w = weight-x q i 1 r.e in
          record {
            e = 1 + r.e;
            ε = plus 𝓢 q (minus (xs n)) (times_x 𝓢 q 1 r.ε) r.ε;
            low = omega (arith, r.low);
            top = λ hi z.
                let none = (r.cut hi).off i (1 + r.e) hi (omega arith) in
                r.top hi (sym (x-at 𝓢 q 1 r.ε i r.e)
                ∙ sym (plus-left 𝓛 (minus (xs n)) (times_x 𝓢 q 1 r.ε) r.ε i (1 + r.e) none) ∙ z);
            cut = λ hi. cut-plus 𝓛 (minus (xs n)) (cut-le 𝓢 q (omega arith) (cut-x 𝓢 q 1 (r.cut hi)))
                (cut-le 𝓢 q (omega arith) (r.cut hi));
            zero-at = λ hi l hl m.
                let room = fits n i r.e hi r.low wide in
                value_at-plus 𝓛 W (minus (xs n)) (times_x 𝓢 q 1 r.ε) r.ε (xs l) (ys l)
                ∙ ap (λ x. x ⊕ minus (xs n) ⊗ value_at 𝓢 q W r.ε (xs l) (ys l))
                (value_at-x 𝓛 W (weight q i r.e) 1 (xs l) (ys l) (r.cut hi) room)
                ∙ elim (ℕ_discrete l n) [
                  | yes e ↦ rw (e, power-one 𝓛) (simp (ring, 𝓛))
                  | no ne ↦ simp (r.zero-at hi l (omega arith) m, ring, 𝓛)
                ];
          }

      module _ (m : Smallest 𝓛 value (λ i. weight q i (rs.of i).e) q) where
        -- a locator less a multiple of the lightest
        reduce : (i : ℕ) → i ≢ m.at → value i ≢ 𝟘 → Locator (suc n) i
        unfolding value
        reduce i ne nz =
            let r = rs.of i in
            let r₀ = rs.of m.at in
            let γ = factor 𝓛 (value i) (value m.at) in
            record {
              e = r.e;
              ε = plus 𝓢 q γ r.ε r₀.ε;
              low = omega (arith, r.low);
              top = λ hi z.
                  let none = (r₀.cut m.small).off i r.e hi (lighter hi) in
                  r.top hi (sym (plus-left 𝓛 γ r.ε r₀.ε i r.e none) ∙ z);
              cut = λ hi. cut-plus 𝓛 γ (r.cut hi) (cut-le 𝓢 q (omega (arith, m.smallest i hi nz)) (r₀.cut m.small));
              zero-at = λ hi l hl d.
                  value_at-plus 𝓛 W γ r.ε r₀.ε (xs l) (ys l)
                  ∙ elim (ℕ_discrete l n) [
                    | yes e ↦ rw e (factor-cancels 𝓛 (value i) (value m.at) m.nonzero)
                    | no ne ↦ simp (r.zero-at hi l (omega arith) d, r₀.zero-at m.small l (omega arith) d, units, 𝓛)
                  ];
            }
          where
            lighter : i < q → weight q m.at (rs.of m.at).e < weight q i (rs.of i).e + 0
            lighter hi =
                let le = m.smallest i hi nz in
                let apart : weight q m.at (rs.of m.at).e ≢ weight q i (rs.of i).e = λ w.
                ne (sym (weight-inj q m.at (rs.of m.at).e i (rs.of i).e m.small hi w).0) in
                omega arith

        -- the lightest is raised, the others are reduced
        choose : (i : ℕ) → Dec (i ≡ m.at) → Dec (value i ≡ 𝟘) → Locator (suc n) i
        unfolding value
        choose i (yes e) z = raise i
        choose i (no ne) (yes z) = more (rs.of i) (λ hi d. z)
        choose i (no ne) (no nz) = reduce i ne nz

        -- the degree of the lightest rises by one
        choose-at : (i : ℕ) (d : Dec (i ≡ m.at)) (z : Dec (value i ≡ 𝟘)) → i ≡ m.at → (choose i d z).e ≡ 1 + (rs.of i).e
        unfolding choose raise
        choose-at i (yes e) z h = refl
        choose-at i (no ne) z h = absurd (ne h)

        -- no other degree changes
        choose-off : (i : ℕ) (d : Dec (i ≡ m.at)) (z : Dec (value i ≡ 𝟘)) → i ≢ m.at → (choose i d z).e ≡ (rs.of i).e
        unfolding choose reduce more
        choose-off i (yes e) z h = absurd (h e)
        choose-off i (no ne) (yes z) h = refl
        choose-off i (no ne) (no nz) h = refl

        -- the locators after the next point
        chosen : (i : ℕ) → Locator (suc n) i
        chosen i = choose i (ℕ_discrete i m.at) (decide 𝓛 (value i) 𝟘)

        -- only one degree rises
        grown : total q (λ i. (chosen i).e) ≡ 1 + total q (λ i. (rs.of i).e)
        unfolding chosen
        grown =
            omega (
              arith,
              total-change q m.at (λ i. (chosen i).e) (λ i. (rs.of i).e) m.small
                  (λ i hi ne. choose-off i (ℕ_discrete i m.at) (decide 𝓛 (value i) 𝟘) ne),
              choose-at m.at (ℕ_discrete m.at m.at) (decide 𝓛 (value m.at) 𝟘) refl,
            )

      -- one point more
      next : ((i : ℕ) → i < q → value i ≡ 𝟘) ⊎ Smallest 𝓛 value (λ i. weight q i (rs.of i).e) q
          → (b : Bool) → agrees n ≡ b → All (suc n)
      unfolding value more
      next s true t = record {
        of = λ i. more (rs.of i) (λ hi d. absurd (true≢false (sym t ∙ d)));
        few = omega (arith, rs.few, count-grows n);
      }
      next (inl h) false t = record { of = λ i. more (rs.of i) (λ hi d. h i hi); few = omega (arith, rs.few, count-grows n) }
      next (inr m) false t = record { of = chosen m; few = omega (arith, grown m, rs.few, count-more n t) }

  -- the locators of the first n points, at every width that fits
  pub record Locators (n : ℕ) : Type 0 where
    pub e : ℕ → ℕ
    pub ε : ℕ → Fn 𝓢 q
    pub top : (i : ℕ) → i < q → ε i i (e i) ≢ 𝟘
    pub cut : (i : ℕ) → i < q → Cut 𝓢 q (weight q i (e i)) 0 (ε i)
    pub zero-at : (i l W : ℕ) → i < q → l < n → agrees l ≡ false → weight q i (e i) < q * W
        → value_at 𝓢 q W (ε i) (xs l) (ys l) ≡ 𝟘
    pub few : total q e ≤ count n

  -- there are such locators
  pub locators : (n : ℕ) → Locators n
  locators n = record {
    e = λ i. (rs.of i).e;
    ε = λ i. (rs.of i).ε;
    top = λ i. (rs.of i).top;
    cut = λ i. (rs.of i).cut;
    zero-at = λ i l W hi hl d h.
        let r = rs.of i in
        let room = fits enough n i r.e hi r.low (omega arith) in
        value_at-width 𝓛 W enough (weight q i r.e) (xs l) (ys l) (r.cut hi) h (omega arith) ∙ r.zero-at hi l hl d;
    few = rs.few;
  }
    where
      -- a width that is enough for the first n points
      enough : ℕ
      enough = n + suc q

      -- no point yet: the powers of y
      none : (W : ℕ) → All W 0
      none W = record {
        of = λ i. record {
          e = 0;
          ε = monomial 𝓢 q i 0;
          low = omega arith;
          top = λ hi z. 𝓛.one-ne-zero (sym (monomial-one 𝓢 q i 0) ∙ z);
          cut = λ hi. monomial-cut 𝓢 q i 0;
          zero-at = λ hi l h. absurd (omega arith);
        };
        few = omega (arith, total-const q 0);
      }

      -- the first m points
      after-points : (W m : ℕ) → m + q ≤ W → All W m
      after-points W zero h = none W
      after-points W (suc m) h =
          let rs = after-points W m (omega arith) in
          next W m h rs (find 𝓛 (value W m h rs) (λ i. weight q i (rs.of i).e) q) (agrees m) refl

      -- the first n points
      rs : All enough n
      rs = after-points enough n (omega arith)
