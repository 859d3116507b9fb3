-- A message as a function on the curve: its symbol for a weight is the coefficient of that weight's monomial, and its values at
-- the points are the message's row.
-- Assumes nothing.
use mathlib.Core.Path.{◌≡◌, sym, ap, ap₂, ◌∙◌}
use mathlib.Core.Logic.{◌≢◌, ⊎_elim}
use mathlib.Core.Bool.{true}
use mathlib.Core.List.{List}
use Prim.Native.Nat.{ℕ, ◌*◌, ◌≤◌, ◌<◌}
use native.Mathlib.Decide.{ℕ_discrete}
use native.Mathlib.Omega.{arith}
use lib.ListN.{get_or}
use borrow.Author.Tests.{lt-ltb, le-ltb}
use Rattle.algebra.specs.Symbols.{Symbols, Laws, sum}
use Rattle.algebra.specs.Weights.{weight, x_power, y_power, nongap}
use Rattle.algebra.specs.Functions.{Fn, monomial_at, value_at}
use Rattle.algebra.proofs.Ring.{mul-zero, mul-one}
use Rattle.algebra.proofs.Powers.{two-le-q}
use Rattle.algebra.proofs.Sums.{sum-cong, sum-none, sum-single}
use Rattle.algebra.proofs.WeightLaws.{weight-powers, y_power-below, y_power-weight, x_power-weight, nongap-weight, weight-fits}
use Rattle.algebra.proofs.OnCurve.{value_at-cong, value_at-sum, value_at-scale}
use Rattle.algebra.proofs.Monomials.{monomial, monomial-one, monomial-row, monomial-place, monomial-value}
use Rattle.lists.proofs.Numbers.{lt-or-ge}
use Rattle.curve.specs.Points.{Point}
use Rattle.curve.specs.Codes.{nongaps, dimension}
use Rattle.curve.specs.Ranks.{rank}
use Rattle.curve.specs.Rows.{message_at}
use Rattle.curve.specs.MessageFunction.{message_function}
use Rattle.curve.proofs.Ranks.{rank_below, nongaps-at, nongaps-small, nongaps-pass, nongaps-rank}

module _ (𝓢 : Symbols) (q : ℕ) where
  open 𝓢 use {K, 𝟘}

  -- a weight of at most u has the message's symbol for it
  pub function-in : (u : ℕ) (message : List K) (j i : ℕ) → weight q j i ≤ u
      → message_function 𝓢 q u message j i ≡ get_or message (rank q (weight q j i)) 𝟘
  unfolding message_function
  function-in u message j i h = rw (le-ltb u (weight q j i) h, message_function)

  -- no weight above u has one
  pub function-out : (u : ℕ) (message : List K) (j i : ℕ) → u < weight q j i → message_function 𝓢 q u message j i ≡ 𝟘
  unfolding message_function
  function-out u message j i h = rw (lt-ltb u (weight q j i) h, message_function)

module _ {𝓢 : Symbols} {q : ℕ} (𝓛 : Laws 𝓢 q) where
  infixl 70 ◌⊗◌
  open 𝓢 use {K, 𝟘, 𝟙, ◌⊗◌}

  -- the monomial of a weight has the coefficient one at that weight
  monomial-at : (j i : ℕ) → j < q → monomial 𝓢 q (y_power q (weight q j i)) (x_power q (weight q j i)) j i ≡ 𝟙
  monomial-at j i hj = rw (y_power-weight q j i hj, x_power-weight q j i hj) (monomial-one 𝓢 q j i)

  -- and zero at every other
  monomial-off : (s j i : ℕ) → nongap q s ≡ true → weight q j i ≢ s → monomial 𝓢 q (y_power q s) (x_power q s) j i ≡ 𝟘
  monomial-off s j i p ne = elim (ℕ_discrete j (y_power q s)) [
    | yes e ↦ elim (ℕ_discrete i (x_power q s)) [
      | yes e' ↦ absurd (ne (ap₂ (weight q) e e' ∙ weight-powers q s (omega (arith, two-le-q 𝓛)) p))
      | no ne' ↦ monomial-place 𝓢 q (y_power q s) (x_power q s) j i ne'
    ]
    | no ne' ↦ monomial-row 𝓢 q (y_power q s) (x_power q s) j i ne'
  ]

  module _ (u : ℕ) (message : List K) where
    -- number m of the weights
    abbrev weight_of : ℕ → ℕ
    weight_of m = get_or (nongaps q u) m 0

    -- the message's term for it
    term : ℕ → Fn 𝓢 q
    term m j i = get_or message m 𝟘 ⊗ monomial 𝓢 q (y_power q (weight_of m)) (x_power q (weight_of m)) j i

    -- a term has no coefficient at another weight
    term-off : (m j i : ℕ) → m < dimension q u → weight q j i ≢ weight_of m → term m j i ≡ 𝟘
    unfolding term
    term-off m j i h ne =
        ap (λ z. get_or message m 𝟘 ⊗ z) (monomial-off (weight_of m) j i (nongaps-pass q u m h) ne) ∙ mul-zero 𝓛 (get_or message m 𝟘)

    -- the term of a weight has there the message's symbol for it
    term-at : (j i : ℕ) → j < q → weight q j i ≤ u → term (rank q (weight q j i)) j i ≡ get_or message (rank q (weight q j i)) 𝟘
    unfolding term
    term-at j i hj h =
        let c = get_or message (rank q (weight q j i)) 𝟘 in
        ap (λ s. c ⊗ monomial 𝓢 q (y_power q s) (x_power q s) j i) (nongaps-at q u (weight q j i) (nongap-weight q j i hj) h)
        ∙ ap (λ z. c ⊗ z) (monomial-at j i hj)
        ∙ mul-one 𝓛 c

    -- the function is the sum of the terms
    terms : (j i : ℕ) → j < q → message_function 𝓢 q u message j i ≡ sum 𝓢 (dimension q u) (λ m. term m j i)
    terms j i hj = ⊎_elim above within (lt-or-ge u (weight q j i))
      where
        above : u < weight q j i → message_function 𝓢 q u message j i ≡ sum 𝓢 (dimension q u) (λ m. term m j i)
        above h =
            function-out 𝓢 q u message j i h
            ∙ sym (sum-none 𝓛 (dimension q u) (λ m hm. term-off m j i hm (λ e. omega (arith, nongaps-small q u m hm))))

        within : weight q j i ≤ u → message_function 𝓢 q u message j i ≡ sum 𝓢 (dimension q u) (λ m. term m j i)
        within h =
            let s = weight q j i in
            function-in 𝓢 q u message j i h
            ∙ sym
            (sum-single 𝓛 (dimension q u) (rank q s) (λ m. term m j i) (rank_below q u s (nongap-weight q j i hj) h)
            (λ m hm ne. term-off m j i hm (λ e. ne (sym (nongaps-rank q u m hm) ∙ ap (rank q) (sym e))))
            ∙ term-at j i hj h)

    -- the value of a term
    term-value : (m : ℕ) (x y : K) → u < q * (q * q) → m < dimension q u
        → value_at 𝓢 q (q * q) (term m) x y ≡ get_or message m 𝟘 ⊗ monomial_at 𝓢 q (weight_of m) x y
    unfolding term monomial_at
    term-value m x y small h =
        let positive : 0 < q = omega (arith, two-le-q 𝓛) in
        let weighs = weight-powers q (weight_of m) positive (nongaps-pass q u m h) in
        let fits =
        weight-fits q (y_power q (weight_of m)) (x_power q (weight_of m)) (q * q) (omega (arith, nongaps-small q u m h)) in
        value_at-scale 𝓛 (q * q) (get_or message m 𝟘) (monomial 𝓢 q (y_power q (weight_of m)) (x_power q (weight_of m))) x y
        ∙ ap (λ z. get_or message m 𝟘 ⊗ z)
        (monomial-value 𝓛 (y_power q (weight_of m)) (x_power q (weight_of m)) (q * q) x y
        (y_power-below q (weight_of m) positive) fits)

    -- at a point its value is the row's symbol there
    pub function-value : u < q * (q * q) → (P : Point 𝓢 q)
        → value_at 𝓢 q (q * q) (message_function 𝓢 q u message) P.x P.y ≡ message_at 𝓢 q (nongaps q u) message P
    unfolding message_at dimension
    function-value small P =
        value_at-cong 𝓢 q (q * q) P.x P.y (λ j i hj hi. terms j i hj)
        ∙ value_at-sum 𝓛 (dimension q u) (q * q) term P.x P.y
        ∙ sum-cong 𝓢 (dimension q u) (λ m hm. term-value m P.x P.y small hm)
