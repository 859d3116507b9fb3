-- The two stages on bytes: a value of a polynomial in x from its sixteen places, and a value of a polynomial in y above an x.
-- Assumes nothing.
use mathlib.Core.Path.{◌≡◌, ap, ◌∙◌}
use mathlib.Core.List.{List}
use Prim.Native.Nat.{ℕ, ◌+◌, ◌*◌, ◌≤◌, ◌<◌}
use native.Mathlib.Omega.{arith}
use lib.ListN.{length, get_or, take, drop, length-take, length-drop}
use lib.Seq.{get_or-take, get_or-drop}
use Rattle.algebra.specs.Functions.{Fn, value_in}
use Rattle.lists.proofs.Numbers.{row_fits}
use Rattle.symbols.specs.Sizes.{most_q, most_symbols, most_points}
use Rattle.symbols.specs.Rule.{Known, Sym, symbols, number, symbol}
use Rattle.symbols.specs.Tables.{product_row, Holds}
use Rattle.symbols.proofs.FieldLaws.{laws-of}
use Rattle.symbols.proofs.Bytes.{known-high}
use Rattle.curve.specs.Points.{point_at}
use Rattle.curve.specs.Codes.{point_count}
use Rattle.ordinates.specs.Ordinates.{ordinates_above}
use Rattle.ordinates.proofs.OrdinateSets.{ordinate-at}
use Rattle.evaluation.specs.Stages.{IsValue, HoldsFunction, column_number, fibre_number}

-- the points above x number a are among all points
pub fibre-within : (q a : ℕ) → a < q * q → a * q + q ≤ point_count q
unfolding point_count
fibre-within q a h = row_fits q h

module _ (q : ℕ) (k : Known q) (products : List ℕ) (value : ℕ) where
  -- what Horner's rule makes of n bytes that are symbols' numbers
  value_of : (a n : ℕ) (α : ℕ → Sym q) (bytes : List ℕ) → length bytes ≡ n → products ≡ product_row q a → Holds q bytes n α
      → IsValue q products bytes value → value ≡ number q (value_in (symbols q) q n α (symbol q a))
  value_of a n α bytes long e held is =
      is a α k e (record { at = λ i h. held.at i (rw long at h) }) ∙ ap (λ m. number q (value_in (symbols q) q m α (symbol q a))) long

  -- the places of y^j give the value at x of the polynomial that stands there
  pub column-value : (f : Fn (symbols q) q) (places : List ℕ) (x j n : ℕ) → j < q → n ≤ most_symbols → length places ≡ most_points
      → HoldsFunction q f places
      → products ≡ product_row q x → IsValue q products (take n (drop (j * most_symbols) places)) value → value ≡ column_number q f n x j
  unfolding column_number
  column-value f places x j n hj hn long held e is =
      value_of x n (f j) (take n (drop (j * most_symbols) places)) (rw (length-take, length-drop) (omega (arith, known-high q k))) e
      (record { at = λ i h. get_or-take n (drop (j * most_symbols) places) i 0 h ∙ get_or-drop (j * most_symbols) places i 0 ∙ held j i hj (omega arith) }) is

  -- the values at x give the value at y number b above x
  pub fibre-value : (v : ℕ → Sym q) (values : List ℕ) (x b : ℕ) → x < q * q → b < q → length values ≡ most_q → Holds q values q v
      → products ≡ product_row q (get_or (ordinates_above q x) b 0) → IsValue q products (take q values) value
      → value ≡ fibre_number q v x b
  unfolding fibre_number
  fibre-value v values x b hx hb long held e is =
      let y : symbol q (get_or (ordinates_above q x) b 0) ≡ (point_at (symbols q) q (x * q + b)).y
      = ap (symbol q) (ordinate-at q k x b hx hb) ∙ (laws-of q k).symbol-number (point_at (symbols q) q (x * q + b)).y in
      value_of (get_or (ordinates_above q x) b 0) q v (take q values) (rw length-take (omega (arith, known-high q k))) e
      (record { at = λ i h. get_or-take q values i 0 h ∙ held.at i h }) is
      ∙ ap (λ s. number q (value_in (symbols q) q q v s)) y
