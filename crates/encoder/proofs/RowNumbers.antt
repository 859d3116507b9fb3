-- The rearrangement: what the two stages compute at a point is the message's sum there.
-- Assumes nothing.
use mathlib.Core.Path.{◌≡◌, refl, sym, ap, ◌∙◌}
use mathlib.Core.Logic.{⊎_elim}
use mathlib.Core.Bool.{false}
use mathlib.Core.List.{List, map}
use Prim.Native.Nat.{ℕ, ◌+◌, ◌*◌, ◌/◌, ◌≤◌, ◌<◌}
use native.Mathlib.Nat.{lt-mul-div-succ, div-lt_iff_lt-mul, mul_comm as times-comm}
use native.Mathlib.Omega.{arith}
use lib.ListN.{length, get_or, get_or-map}
use Rattle.algebra.specs.Symbols.{Symbols, Laws, power}
use Rattle.algebra.specs.Weights.{weight}
use Rattle.algebra.specs.Functions.{Fn, value_in, value_at}
use Rattle.algebra.proofs.Ring.{mul_comm}
use Rattle.algebra.proofs.Sums.{sum-cong}
use Rattle.algebra.proofs.WeightLaws.{weight-wide, nongap-weight}
use Rattle.algebra.proofs.Polynomials.{value_in-def, value_in-cong, value_in-widen}
use Rattle.algebra.proofs.OnCurve.{value_at-def}
use Rattle.lists.specs.Tables.{tab}
use Rattle.lists.proofs.Numbers.{lt-or-ge}
use Rattle.lists.proofs.Tables.{map-tab}
use Rattle.symbols.specs.Rule.{Known, symbols, number, symbol, any_beyond}
use Rattle.symbols.proofs.FieldLaws.{laws-of}
use Rattle.symbols.proofs.Bytes.{known-positive, number-of-below}
use Rattle.symbols.proofs.SymbolLists.{below_all}
use Rattle.curve.specs.Points.{point_at}
use Rattle.curve.specs.Codes.{point_count, nongaps, dimension}
use Rattle.curve.specs.Ranks.{rank}
use Rattle.curve.specs.Rows.{message_at}
use Rattle.curve.specs.MessageFunction.{message_function}
use Rattle.curve.proofs.Ranks.{rank_below}
use Rattle.curve.proofs.Arranged.{points-arranged}
use Rattle.curve.proofs.MessageFunction.{function-in, function-out, function-value}
use Rattle.curve.proofs.RowLaws.{count-is, row-tab}
use Rattle.encoder.specs.Encoding.{row_numbers}
use Rattle.evaluation.specs.Stages.{placed, IsSpread, HoldsFunction, fibre_number}
use Rattle.evaluation.proofs.Spreading.{placed-in, placed-out}

module _ {𝓢 : Symbols} {q : ℕ} (𝓛 : Laws 𝓢 q) where
  infixl 70 ◌⊗◌
  open 𝓢 use {K, 𝟘, ◌⊗◌}

  -- the value of a function is that of the polynomial in y whose coefficients are the values of its polynomials in x
  pub two-stages : (W : ℕ) (f : Fn 𝓢 q) (x y : K) → value_in 𝓢 q q (λ j. value_in 𝓢 q W (f j) x) y ≡ value_at 𝓢 q W f x y
  two-stages W f x y =
      value_in-def 𝓢 q q (λ j. value_in 𝓢 q W (f j) x) y
      ∙ sum-cong 𝓢 q (λ j h. mul_comm 𝓛 (value_in 𝓢 q W (f j) x) (power 𝓢 y j))
      ∙ sym (value_at-def 𝓢 q W f x y)

  -- a message's function has no power of x above u / q
  pub narrow : (u : ℕ) (message : List K) (j : ℕ) (x : K) → 0 < q → u < q * (q * q)
      → value_in 𝓢 q (u / q + 1) (message_function 𝓢 q u message j) x ≡ value_in 𝓢 q (q * q) (message_function 𝓢 q u message j) x
  narrow u message j x positive small =
      sym (value_in-widen 𝓛 (u / q + 1) (q * q) (message_function 𝓢 q u message j) x fits none)
    where
      fits : u / q + 1 ≤ q * q
      fits = omega (arith, (div-lt_iff_lt-mul positive).1 (rw (times-comm q (q * q)) at small))

      none : (i : ℕ) → u / q + 1 ≤ i → message_function 𝓢 q u message j i ≡ 𝟘
      none i h = function-out 𝓢 q u message j i (omega (arith, lt-mul-div-succ u positive, weight-wide q j h))

-- the symbol of the byte 0 is zero
symbol-zero : (q : ℕ) → symbol q 0 ≡ (symbols q).𝟘
unfolding symbols
symbol-zero q = refl

-- the number of the row's symbol at point m
unfoldable pub row_number : ℕ → ℕ → List ℕ → ℕ → ℕ
row_number q u message m = number q (message_at (symbols q) q (nongaps q u) (map (symbol q) message) (point_at (symbols q) q m))

module _ (q u : ℕ) (message : List ℕ) (k : Known q) where
  -- the message's function
  abbrev pub function : Fn (symbols q) q
  function = message_function (symbols q) q u (map (symbol q) message)

  -- a message's byte is the number of its symbol
  byte : (n : ℕ) → any_beyond q message ≡ false → n < length message
      → get_or message n 0 ≡ number q (get_or (map (symbol q) message) n (symbols q).𝟘)
  byte n symbolic h =
      sym (number-of-below q (get_or message n 0) k (below_all q message symbolic n h))
      ∙ ap (number q) (sym (get_or-map (symbol q) message n 0) ∙ ap (get_or (map (symbol q) message) n) (symbol-zero q))

  -- the message's bytes in their places are the numbers of its function's coefficients
  pub spread-function : any_beyond q message ≡ false → length message ≡ dimension q u → (places : List ℕ)
      → IsSpread q (u + 1) message places
      → HoldsFunction q function places
  spread-function symbolic long places held j i hj hi = held j i hj hi ∙ ⊎_elim above within (lt-or-ge u (weight q j i))
    where
      above : u < weight q j i → placed q (u + 1) message j i ≡ number q (function j i)
      above h =
          placed-out q message (u + 1) j i (omega arith)
          ∙ sym (ap (number q) (function-out (symbols q) q u (map (symbol q) message) j i h) ∙ (laws-of q k).number-zero)

      within : weight q j i ≤ u → placed q (u + 1) message j i ≡ number q (function j i)
      within h =
          placed-in q message (u + 1) j i (omega arith)
          ∙ byte (rank q (weight q j i)) symbolic (rw long (rank_below q u (weight q j i) (nongap-weight q j i hj) h))
          ∙ ap (number q) (sym (function-in (symbols q) q u (map (symbol q) message) j i h))

  -- at each point the two stages give the row's number
  pub stages : u < point_count q → (a b : ℕ) → a < q * q → b < q
      → fibre_number q (λ j. value_in (symbols q) q (u / q + 1) (function j) (symbol q a)) a b ≡ row_number q u message (a * q + b)
  unfolding fibre_number row_number
  stages small a b ha hb =
      let P = point_at (symbols q) q (a * q + b) in
      let below = rw (count-is q) at small in
      ap (number q)
      (value_in-cong (symbols q) q q P.y
      (λ j h. narrow (laws-of q k) u (map (symbol q) message) j (symbol q a) (known-positive q k) below)
      ∙ two-stages (laws-of q k) (q * q) function (symbol q a) P.y
      ∙ ap (λ x. value_at (symbols q) q (q * q) function x P.y) (sym ((points-arranged q k).abscissa a b ha hb))
      ∙ function-value (laws-of q k) u (map (symbol q) message) below P)

  -- the row by its points
  pub row-numbers : row_numbers q u message ≡ tab (point_count q) (row_number q u message)
  unfolding row_numbers row_number
  row-numbers =
      ap (map (number q)) (row-tab (points-arranged q k) u (map (symbol q) message))
      ∙ map-tab (number q) (point_count q)
      (λ m. message_at (symbols q) q (nongaps q u) (map (symbol q) message) (point_at (symbols q) q m))
