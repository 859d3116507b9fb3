-- The sum of max(q² - k, 0) over the pairs of the start is ν(s); the least ν(s) over the non-gaps up to u is the distance.
-- Assumes nothing.
use mathlib.Core.Path.{◌≡◌, sym, ap, ap₂, ◌∙◌}
use mathlib.Core.Bool.{true}
use Prim.Native.Nat.{ℕ, suc, ◌+◌, ◌*◌, ◌-◌, ◌/◌, ◌%◌, ◌≤◌, ◌<◌}
use native.Mathlib.Nat as Nat
use native.Mathlib.Omega.{arith}
use native.Mathlib.Decide.{dec_le, dec_lt, ℕ_discrete}
use Rattle.algebra.specs.Weights.{weight, nongap}
use Rattle.algebra.specs.Totals.{total}
use Rattle.algebra.proofs.NumberSums.{total-cong, total-split, total-const}
use Rattle.algebra.proofs.WeightLaws.{x_power-rows, nongap-weight}
use Rattle.curve.specs.Codes.{point_count, distance, reach}
use Rattle.curve.proofs.Distances.{distance-far, distance-near, distance-bounds}
use Rattle.withinreach.specs.Margin.{margin, start_gain, start_gains}

module _ (q : ℕ) (positive : 0 < q) where
  -- the quotient and the remainder of a number by q
  divided : (t r : ℕ) → r < q → (q * t + r) / q ≡ t
  divided t r h = Nat.mul-add-div positive t r ∙ ap (λ n. t + n) (Nat.div-eq_of_lt h) ∙ Nat.add-zero t

  -- and the remainder
  left_over : (t r : ℕ) → r < q → (q * t + r) % q ≡ r
  left_over t r h = Nat.mul-add-mod_self_left q t r ∙ Nat.mod-eq_of_lt h

  -- for s = tq + r, the pairs below q - r
  module _ (t r : ℕ) (hr : r < q) where
    abbrev s : ℕ
    s = q * t + r

    -- each gains q² - (t - r)
    gain-first : (i : ℕ) → i + r < q → start_gain q s i ≡ q * q + r - t
    unfolding start_gain weight
    gain-first i h =
        let e : q * 0 + (q + 1) * i + (q * t + r) ≡ q * (i + t) + (i + r) = omega arith in
        ap₂ (λ x y. q * q + x - y) (ap (λ n. n % q) e ∙ left_over (i + t) (i + r) h)
        (ap (λ n. n / q) e ∙ divided (i + t) (i + r) h)
        ∙ omega arith

    -- and the others
    gain-last : (i : ℕ) → i < q → q ≤ i + r → start_gain q s i ≡ q * q + r - (t + q + 1)
    unfolding start_gain weight
    gain-last i hi h =
        let e : q * 0 + (q + 1) * i + (q * t + r) ≡ q * (i + t + 1) + (i + r - q) = omega arith in
        ap₂ (λ x y. q * q + x - y) (ap (λ n. n % q) e ∙ left_over (i + t + 1) (i + r - q) (omega arith))
        (ap (λ n. n / q) e ∙ divided (i + t + 1) (i + r - q) (omega arith))
        ∙ omega arith

    -- all pairs
    gains-sum : start_gains q s ≡ (q - r) * (q * q + r - t) + r * (q * q + r - (t + q + 1))
    unfolding start_gains
    gains-sum =
        let e : q ≡ q - r + r = omega arith in
        ap (λ n. total n (start_gain q s)) e ∙ total-split (q - r) r (start_gain q s)
        ∙ ap₂ ◌+◌
        (total-cong (q - r) (λ i hi. gain-first i (omega arith)) ∙ total-const (q - r) (q * q + r - t))
        (total-cong r (λ i hi. gain-last (q - r + i) (omega arith) (omega arith)) ∙ total-const r (q * q + r - (t + q + 1)))

    -- is ν(s)
    gains-margin : r ≤ t → t < q * q → start_gains q s ≡ q * q * q - s + r * (t + q + 1 - (r + q * q))
    gains-margin hrt ht =
        let a : ℕ = q * q + r - t in
        let b : ℕ = q * q + r - (t + q + 1) in
        let c : ℕ = t + q + 1 - (r + q * q) in
        let rows : a + t ≡ q * q + r = omega arith in
        let ends : b + (q + 1) ≡ a + c = omega arith in
        let parts : q - r + r ≡ q = omega arith in
        let low : q * suc t ≤ q * (q * q) = Nat.mul-le-mul_left q ht in
        gains-sum ∙ omega (arith, ap (λ n. q * n) rows, ap (λ n. r * n) ends, ap (λ n. n * a) parts, low)

    -- no ν(s) up to u = aq + b with b ≤ a - (q² - q) is below n - aq
    margin-far : (a b : ℕ) → q * t + r ≤ q * a + b → b < q → b + (q * q - q) ≤ a
        → q * q * q - a * q ≤ q * q * q - s + r * (t + q + 1 - (r + q * q))
    margin-far a b le hb far = elim (dec_lt t a) [
      | yes l ↦ omega (arith, Nat.mul-le-mul_left q l)
      | no l ↦ elim (ℕ_discrete t a) [
        | yes e ↦
            let rows : q * t ≡ q * a = ap (λ n. q * n) e in
            let square : q * 1 ≤ q * q = Nat.mul-le-mul_left q positive in
            let more : 1 ≤ t + q + 1 - (r + q * q) = omega arith in
            omega (arith, Nat.mul-le-mul_left r more)
        | no ne ↦ let above : suc a ≤ t = omega arith in absurd (omega (arith, Nat.mul-le-mul_left q above))
      ]
    ]

module _ (q : ℕ) (positive : 0 < q) where
  -- s = tq + r
  rows_of : (s : ℕ) → s ≡ q * (s / q) + s % q
  rows_of s = sym (Nat.div-add-mod s q)

  -- the quotient of a number below q³
  quotient-below : (s : ℕ) → s < point_count q → s / q < q * q
  unfolding point_count
  quotient-below s h = (Nat.div-lt_iff_lt-mul positive).1 h

  -- the sum of max(q² - k, 0) over the pairs of the start is ν(s)
  pub gains-are-margin : (s : ℕ) → nongap q s ≡ true → s < point_count q → start_gains q s ≡ margin q s
  unfolding margin point_count
  gains-are-margin s some below =
      let t : ℕ = s / q in
      let r : ℕ = s % q in
      let e = rows_of s in
      let low : r ≤ t = omega (arith, x_power-rows q s positive some) in
      let sum = ap (start_gains q) e ∙ gains-margin q positive t r (Nat.mod-lt s positive) low (quotient-below s below) in
      omega (arith, sum, ap (λ n. q * q * q - n) e)

  module _ (u : ℕ) where
    -- no ν(s) is below the distance
    pub distance_least : (s : ℕ) → s ≤ u → distance q u ≤ margin q s
    unfolding margin point_count
    distance_least s le = elim (dec_le (u % q + (q * q - q)) (u / q)) [
      | yes far ↦
          let bound = margin-far q positive (s / q) (s % q) (Nat.mod-lt s positive) (u / q) (u % q)
          (omega (arith, rows_of s, rows_of u)) (Nat.mod-lt u positive) far in
          omega (arith, distance-far q u far, bound, ap (λ n. q * q * q - n) (rows_of s))
      | no near ↦ omega (arith, distance-near q u (omega arith))
    ]

    -- and one is the distance
    pub record Attained : Type 0 where
      pub s : ℕ
      pub below : s ≤ u
      pub some : nongap q s ≡ true
      pub is : margin q s ≡ distance q u

    -- at aq in the first case, else at u
    pub distance-attained : nongap q u ≡ true → Attained
    unfolding margin point_count weight
    distance-attained code = elim (dec_le (u % q + (q * q - q)) (u / q)) [
      | yes far ↦
          let a : ℕ = u / q in
          let e : q * a + (q + 1) * 0 ≡ q * a + 0 = omega arith in
          record {
            s = q * a + 0;
            below = omega (arith, rows_of u);
            some = rw e at (nongap-weight q 0 a positive);
            is =
                ap₂ (λ r t. q * q * q - (q * a + 0) + r * (t + q + 1 - (r + q * q))) (left_over q positive a 0 positive)
                (divided q positive a 0 positive)
                ∙ omega (arith, distance-far q u far);
          }
      | no near ↦
          let square : q * 1 ≤ q * q = Nat.mul-le-mul_left q positive in
          let none : u / q + q + 1 - (u % q + q * q) ≡ 0 = omega arith in
          record {
            s = u;
            below = omega arith;
            some = code;
            is = ap (λ n. q * q * q - u + u % q * n) none ∙ omega (arith, distance-near q u (omega arith));
          }
    ]

    -- twice the reach is below the distance
    pub reach-below : u < point_count q → 2 * reach q u < distance q u
    unfolding reach
    reach-below small = omega (arith, (distance-bounds q u).least, Nat.div-add-mod (distance q u - 1) 2)
