-- The cells of the decoder's polynomials are their coefficients.
-- Assumes nothing.
use mathlib.Core.Path.{◌≡◌, sym, ap, ◌∙◌}
use mathlib.Core.List.{List, []}
use Prim.Native.Nat.{ℕ, ◌+◌, ◌*◌, ◌/◌, ◌%◌, ◌<◌}
use native.Mathlib.Nat.{div-add-mod', zero-mul, div-eq_of_lt, mod-eq_of_lt, div-eq_of_lt-le, mod-eq-sub-div-mul}
use native.Mathlib.Omega.{arith}
use lib.ListN.{get_or}
use Rattle.lists.specs.Tables.{tab}
use Rattle.lists.proofs.Tables.{get_or-tab}
use Rattle.algebra.specs.Functions.{Fn}
use Rattle.symbols.specs.Rule.{symbols, Sym}
use Rattle.published.specs.Start.{Polynomial, Polynomials, coefficient, polynomial, polynomials, width, upper, lower}
use Rattle.workarea.specs.Area.{cells_of}

module _ (q : ℕ) where
  -- a symbol of a polynomial as it is held
  abbrev pub held : Polynomial (symbols q) q → ℕ → ℕ → Sym q
  held F r i = get_or (get_or F r []) i (symbols q).𝟘

  -- a cell is the symbol held there
  pub cell-held : (S : Polynomials (symbols q) q) (p r i : ℕ) → cells_of q S p r i ≡ held (get_or S p []) r i
  unfolding cells_of coefficient
  cell-held S p r i = ap (λ (n : ℕ). held (get_or S p []) n i) (div-add-mod' r q)

  -- a coefficient of the upper part, and one of the lower
  pub upper-cell : (S : Polynomials (symbols q) q) (p j i : ℕ) → coefficient (symbols q) q S p upper j i ≡ cells_of q S p j i
  unfolding coefficient
  upper-cell S p j i =
      let e : upper * q + j ≡ j = rw zero-mul (omega arith) in
      ap (λ (n : ℕ). held (get_or S p []) n i) e ∙ sym (cell-held S p j i)

  pub lower-cell : (S : Polynomials (symbols q) q) (p j i : ℕ) → coefficient (symbols q) q S p lower j i ≡ cells_of q S p (q + j) i
  unfolding coefficient
  lower-cell S p j i =
      let e : lower * q + j ≡ q + j = omega arith in
      ap (λ (n : ℕ). held (get_or S p []) n i) e ∙ sym (cell-held S p (q + j) i)

  -- the part and the power of y of an upper row, and of a lower one
  pub upper-row : (r : ℕ) → r < q → (r / q ≡ upper) × (r % q ≡ r)
  upper-row r h = (div-eq_of_lt h, mod-eq_of_lt h)

  pub lower-row : (j : ℕ) → j < q → ((q + j) / q ≡ lower) × ((q + j) % q ≡ j)
  lower-row j h =
      let e : (q + j) / q ≡ lower = div-eq_of_lt-le q (omega arith) (omega arith) in
      (e, mod-eq-sub-div-mul (q + j) q ∙ (rw e (omega arith)))

  -- a polynomial made from its parts
  pub held-polynomial : (F : ℕ → Fn (symbols q) q) (r i : ℕ) → r < 2 * q → i < width q → held (polynomial (symbols q) q F) r i ≡ F (r / q) (r % q) i
  unfolding polynomial
  held-polynomial F r i hr hi =
      ap (λ (l : List (Sym q)). get_or l i (symbols q).𝟘) (get_or-tab (2 * q) (λ r. tab (width q) (F (r / q) (r % q))) r [] hr)
      ∙ get_or-tab (width q) (F (r / q) (r % q)) i (symbols q).𝟘 hi

  -- polynomials made from their parts
  pub cell-polynomials : (F : ℕ → ℕ → Fn (symbols q) q) (p r i : ℕ) → p < 2 * q → r < 2 * q → i < width q
      → cells_of q (polynomials (symbols q) q F) p r i ≡ F p (r / q) (r % q) i
  unfolding polynomials
  cell-polynomials F p r i hp hr hi =
      cell-held (polynomials (symbols q) q F) p r i
      ∙ ap (λ (l : Polynomial (symbols q) q). held l r i) (get_or-tab (2 * q) (λ p. polynomial (symbols q) q (F p)) p [] hp)
      ∙ held-polynomial (F p) r i hr hi
