-- h column by column: the sums above one x, and that all of them are h.
-- Assumes nothing.
use mathlib.Core.Path.{◌≡◌, refl, sym, ap, ap₂, ◌∙◌}
use mathlib.Core.Bool.{true, false}
use mathlib.Core.List.{List, ◌++◌, map}
use mathlib.Core.Logic.{⊎_elim}
use Prim.Native.Nat.{ℕ, ◌+◌, ◌-◌, ◌*◌, ◌%◌, ◌<◌, ◌≤◌}
use native.Mathlib.Numerals.{add-one}
use native.Mathlib.Omega.{arith}
use lib.Dec.{eqb}
use lib.ListN.{get_or, replicate, get_or-replicate, get_or-map}
use borrow.Author.Tests.{lt-ltb, le-ltb}
use Rattle.algebra.specs.Symbols.{power, sum}
use Rattle.algebra.specs.Interpolation.{unit, x_part, y_part}
use Rattle.algebra.proofs.Ring.{ring, mul-add}
use Rattle.algebra.proofs.Sums.{sum-suc, sum-zero, sum-cong, sum-none, sum-mul, sum_rows}
use Rattle.lists.specs.Tables.{put}
use Rattle.lists.proofs.Numbers.{lt-or-ge, row_fits}
use Rattle.symbols.specs.Sizes.{most_symbols, most_points}
use Rattle.symbols.specs.Rule.{difference_of, Known, symbols, number, symbol}
use Rattle.symbols.specs.Tables.{product_row, Holds}
use Rattle.symbols.proofs.FieldLaws.{laws-of}
use Rattle.symbols.proofs.Bytes.{number-of-difference, known-high, square-small, cube-small}
use Rattle.curve.specs.Points.{point_at}
use Rattle.curve.specs.Codes.{point_count}
use Rattle.ordinates.specs.Ordinates.{ordinates_above}
use Rattle.curve.proofs.Arranged.{points-arranged}
use Rattle.ordinates.proofs.OrdinateSets.{ordinate-at}
use Rattle.published.specs.Start.{width, term, h}
use Rattle.published.proofs.StartLeads.{h-within, h-past}
use Rattle.workarea.specs.Area.{row_place, Cells, shown, Turns, with_rows}
use Rattle.startarea.specs.StartArea.{minus_value, minus_values, plus_part, column_sum, column_of, columns_of}
use Rattle.workarea.proofs.Cells.{shown_read}
use Rattle.workarea.proofs.Sizes.{sizes}
use Rattle.workarea.proofs.Multipliers.{multiplies}
use Rattle.startarea.proofs.StartBytes.{shown-places}
use Rattle.startarea.proofs.StartFirsts.{minus_one, less_none}

-- where the symbol of point b above the x with number a stands in the row
pub record Place (q a b : ℕ) : Type 0 where
  pub within : a * q + b < point_count q
  pub low : a * q + b < most_points

module _ (q : ℕ) (known : Known q) where
  infixl 65 ◌⊕◌ ◌⊖◌
  infixl 70 ◌⊗◌
  open symbols q use {K, 𝟘, 𝟙, ◌⊕◌, ◌⊖◌, ◌⊗◌}

  -- bytes hold the numbers of equal functions
  pub holds-cong : {l : List ℕ} {n : ℕ} {F G : ℕ → K} → ((i : ℕ) → i < n → F i ≡ G i) → Holds q l n F → Holds q l n G
  holds-cong e held = record { at = λ i h. held.at i h ∙ ap (number q) (e i h) }

  -- zeros hold the function that is zero
  pub holds-zeros : (n : ℕ) {F : ℕ → K} → n ≤ most_symbols → ((i : ℕ) → F i ≡ 𝟘) → Holds q (replicate most_symbols 0) n F
  holds-zeros n few zero =
      record { at = λ i h. get_or-replicate most_symbols i 0 0 (omega arith) ∙ sym (ap (number q) (zero i) ∙ (laws-of q known).number-zero) }

  -- ---- the points above one x

  -- the place of their symbols in the row
  pub point-place : (a b : ℕ) → a < q * q → b < q → Place q a b
  unfolding point_count
  point-place a b ha hb = let fits = row_fits q ha in let small = cube-small q known in record { within = omega arith; low = omega arith }

  -- the symbol of a symbol's number
  of_number : {b : ℕ} (a : K) → b ≡ number q a → symbol q b ≡ a
  of_number a e = ap (symbol q) e ∙ (laws-of q known).symbol-number a

  -- the part in x
  pub x-part : (a : K) (i : ℕ) → plus_part q (q * q) a (symbol q 1) (symbol q (difference_of q 0 1)) (λ k. 𝟘) i ≡ x_part (symbols q) q a i
  unfolding plus_part x_part
  x-part a i =
      rw (of_number 𝟙 (sym (laws-of q known).number-one), of_number (𝟘 ⊖ 𝟙) (minus_one q known))
      (plain (unit (symbols q) (eqb i 0)) (power (symbols q) a (q * q - 1 - i)))
    where
      plain : (x y : K) → 𝟘 ⊕ (𝟙 ⊗ x ⊕ (𝟘 ⊖ 𝟙) ⊗ y) ≡ x ⊖ y
      plain x y = simp (ring, laws-of q known)

  -- the part in x, from its making
  pub x-values : (a : K) (values : List ℕ)
      → ((F : ℕ → K) → Holds q (replicate most_symbols 0) (q * q) F → Holds q values (q * q) (plus_part q (q * q) a (symbol q 1) (symbol q (difference_of q 0 1)) F))
      → Holds q values (q * q) (x_part (symbols q) q a)
  x-values a values make = holds-cong (λ i h. x-part a i) (make (λ k. 𝟘) (holds-zeros (q * q) (sizes q known).square-few (λ i. refl)))

  module _ (row : List ℕ) (a : ℕ) where
    -- of no point
    pub column-none : (j : ℕ) → column_sum q row a 0 j ≡ 𝟘
    unfolding column_sum
    column-none j = sum-zero (symbols q) (λ b. symbol q (get_or row (a * q + b) 0) ⊗ y_part (symbols q) q (point_at (symbols q) q (a * q + b)).y j)

    -- of one point more
    pub column-more : (b j : ℕ) → a < q * q → b < q
        → plus_part q q (symbol q (get_or (ordinates_above q a) b 0)) (symbol q (get_or row (a * q + b) 0)) (symbol q (get_or row (a * q + b) 0)) (column_sum q row a b) j ≡ column_sum q row a (b + 1) j
    unfolding column_sum plus_part y_part
    column-more b j ha hb =
        rw (of_number (point_at (symbols q) q (a * q + b)).y (ordinate-at q known a b ha hb), add-one b)
        (ap (λ (y : K). column_sum q row a b j ⊕ y)
        (sym (mul-add (laws-of q known) (symbol q (get_or row (a * q + b) 0)) (unit (symbols q) (eqb j 0)) (power (symbols q) (point_at (symbols q) q (a * q + b)).y (q - 1 - j))))
        ∙ sym (sum-suc (symbols q) b (λ b. symbol q (get_or row (a * q + b) 0) ⊗ y_part (symbols q) q (point_at (symbols q) q (a * q + b)).y j)))

    -- what the points give within x^(q²), and past it
    column-within : (j i : ℕ) → i < q * q → column_of q row a j i ≡ column_sum q row a q j ⊗ x_part (symbols q) q (symbol q a) i
    unfolding column_of
    column-within j i h = ap (λ t. elim t [ true ↦ column_sum q row a q j ⊗ x_part (symbols q) q (symbol q a) i | false ↦ 𝟘 ]) (lt-ltb i (q * q) h)

    column-past : (j i : ℕ) → q * q ≤ i → column_of q row a j i ≡ 𝟘
    unfolding column_of
    column-past j i h = ap (λ t. elim t [ true ↦ column_sum q row a q j ⊗ x_part (symbols q) q (symbol q a) i | false ↦ 𝟘 ]) (le-ltb i (q * q) h)

    -- a row of bytes with the values subtracted, each times the sum of the column
    column-row : (S : Cells q) (l rest : List ℕ) → l ≡ shown q S ++ rest → (p r : ℕ) → p < 2 * q → r < 2 * q
        → (values : List ℕ) → Holds q values (q * q) (x_part (symbols q) q (symbol q a)) → (j b : ℕ) → b ≡ number q (column_sum q row a q j)
        → minus_values q l (row_place q p r) (q * q) values (product_row q b)
        ≡ shown q (with_rows q p r 1 (λ n i. S p r i ⊖ column_of q row a j i) S) ++ rest
    unfolding minus_values
    column-row S l rest e p r hp hr values held j b is =
        ap (λ (k : ℕ). put l k (q * q) (minus_value q l to values (product_row q b))) {x = to} {y = to + 0} (omega arith)
        ∙ shown-places q S l rest e p r hp hr 0 (q * q) (minus_value q l to values (product_row q b)) F (omega (arith, wide))
        (λ i h. ap₂ (difference_of q) (shown_read q S l rest e p r i hp hr (omega (arith, wide))) (product i h)
        ∙ number-of-difference q known (S p r i) (column_sum q row a q j ⊗ x_part (symbols q) q (symbol q a) i)
        ∙ ap (λ (y : K). number q (S p r i ⊖ y)) (sym (column-within j i h))
        ∙ ap (λ (k : ℕ). number q (F k)) {x = i} {y = 0 + i} (omega arith))
        (λ i out. ap (λ (y : K). S p r i ⊖ y) (column-past j i (⊎_elim (λ (h : i < 0). omega arith) (λ (h : 0 + q * q ≤ i). omega arith) out)) ∙ less_none q known (S p r i))
      where
        to : ℕ
        to = row_place q p r

        F : ℕ → K
        F i = S p r i ⊖ column_of q row a j i

        wide : q * q < width q
        wide = (sizes q known).wide

        product : (i : ℕ) → i < q * q → get_or (product_row q b) (get_or values i 0 % most_symbols) 0 ≡ number q (column_sum q row a q j ⊗ x_part (symbols q) q (symbol q a) i)
        product i h =
            rw (held.at i h)
            ((multiplies q b known).at (x_part (symbols q) q (symbol q a) i)
            ∙ ap (λ (y : K). number q (y ⊗ x_part (symbols q) q (symbol q a) i)) (of_number (column_sum q row a q j) is))

    -- the same as a change of the area
    pub column-turns : (l m values products : List ℕ) (to p r j b : ℕ) → Holds q values (q * q) (x_part (symbols q) q (symbol q a)) → p < 2 * q → r < 2 * q
        → b ≡ number q (column_sum q row a q j) → to ≡ row_place q p r → products ≡ product_row q b → m ≡ minus_values q l to (q * q) values products
        → Turns q l m (λ S. with_rows q p r 1 (λ n i. S p r i ⊖ column_of q row a j i) S)
    column-turns l m values products to p r j b held hp hr is place table made =
        record { shows = λ S rest e. made ∙ (rw (place, table) (column-row S l rest e p r hp hr values held j b is)) }

  -- ---- the points above all x

  module _ (row : List ℕ) where
    -- above none
    pub columns-none : (j i : ℕ) → columns_of q row 0 j i ≡ 𝟘
    unfolding columns_of
    columns-none j i = sum-zero (symbols q) (λ a. column_of q row a j i)

    -- above one x more
    pub columns-more : (n j i : ℕ) → columns_of q row n j i ⊕ column_of q row n j i ≡ columns_of q row (n + 1) j i
    unfolding columns_of
    columns-more n j i = rw (add-one n) (sym (sum-suc (symbols q) n (λ a. column_of q row a j i)))

    -- the received symbol at a place
    symbol-at : (m : ℕ) → get_or (map (symbol q) row) m 𝟘 ≡ symbol q (get_or row m 0)
    symbol-at m =
        ap (λ (d : K). get_or (map (symbol q) row) m d) (sym (of_number 𝟘 (sym (laws-of q known).number-zero))) ∙ get_or-map (symbol q) row m 0

    module _ (j i : ℕ) where
      -- the terms of h by points, and the parts in y of the terms above one x
      abbrev received : ℕ → K
      received = term (symbols q) q (map (symbol q) row) j i

      abbrev upright : ℕ → ℕ → K
      upright a b = symbol q (get_or row (a * q + b) 0) ⊗ y_part (symbols q) q (point_at (symbols q) q (a * q + b)).y j

      -- the term of one point
      at-point : (a b : ℕ) → a < q * q → b < q → upright a b ⊗ x_part (symbols q) q (symbol q a) i ≡ received (a * q + b)
      unfolding term
      at-point a b ha hb =
          rearranged (symbol q (get_or row (a * q + b) 0)) (x_part (symbols q) q (symbol q a) i) (y_part (symbols q) q (point_at (symbols q) q (a * q + b)).y j)
          ∙ ap₂ (λ (r x : K). r ⊗ (x_part (symbols q) q x i ⊗ y_part (symbols q) q (point_at (symbols q) q (a * q + b)).y j))
          (sym (symbol-at (a * q + b)))
          (sym ((points-arranged q known).abscissa a b ha hb))
        where
          rearranged : (r x y : K) → r ⊗ y ⊗ x ≡ r ⊗ (x ⊗ y)
          rearranged r x y = simp (ring, laws-of q known)

      -- the terms of the points above one x
      by-points : (a : ℕ) → a < q * q → column_sum q row a q j ⊗ x_part (symbols q) q (symbol q a) i ≡ sum (symbols q) q (λ b. received (a * q + b))
      unfolding column_sum
      by-points a ha =
          sum-mul (laws-of q known) q (x_part (symbols q) q (symbol q a) i) (upright a) ∙ sum-cong (symbols q) q (λ b hb. at-point a b ha hb)

      -- above all x they give h
      pub columns-are-h : columns_of q row (q * q) j i ≡ h (symbols q) q (map (symbol q) row) j i
      unfolding columns_of point_count
      columns-are-h =
          ⊎_elim
          (λ (l : i < q * q).
          sum-cong (symbols q) (q * q) (λ a ha. column-within row a j i l ∙ by-points a ha)
          ∙ sym (h-within (symbols q) q (map (symbol q) row) j i l ∙ sum_rows (laws-of q known) (q * q) q received))
          (λ (l : q * q ≤ i).
          sum-none (laws-of q known) (q * q) (λ a ha. column-past row a j i l) ∙ sym (h-past (symbols q) q (map (symbol q) row) j i l))
          (lt-or-ge i (q * q))

-- how large q and q² are, and where the symbols above an x stand
pub ruleset column_places = (known-high, square-small, point-place)
