-- The first of each kind of polynomial: 1 and x^(q²) - x stored in an area of zeros.
-- Assumes nothing.
use mathlib.Core.Path.{◌≡◌, refl, sym, ap, ◌∙◌}
use mathlib.Core.Bool.{true, false, ◌&&◌}
use mathlib.Core.List.{List, ◌++◌}
use mathlib.Core.Logic.{⊎_elim}
use Prim.Native.Nat.{ℕ, ◌+◌, ◌*◌, ◌<◌, ◌≤◌}
use native.Mathlib.Nat.{add-zero}
use native.Mathlib.Omega.{arith}
use lib.Dec.{eqb}
use lib.ListN.{set}
use borrow.Author.Tests.{eq-eqb, ne_eqb}
use Rattle.algebra.specs.Interpolation.{unit}
use Rattle.algebra.proofs.Ring.{ring, sub_self}
use Rattle.lists.proofs.Numbers.{same_or_not}
use Rattle.symbols.specs.Rule.{Known, difference_of, symbols, number}
use Rattle.symbols.proofs.FieldLaws.{laws-of}
use Rattle.symbols.proofs.Bytes.{number-of-negative}
use Rattle.published.specs.Start.{width, vanishing, one}
use Rattle.workarea.specs.Area.{row_place, Cells, shown, with_rows}
use Rattle.startarea.specs.StartArea.{blank, firsts}
use Rattle.workarea.proofs.Cells.{shown-same, row_here, row-there}
use Rattle.workarea.proofs.Sizes.{sizes}
use Rattle.startarea.proofs.StartBytes.{shown-store}

module _ (q : ℕ) (known : Known q) where
  infixl 65 ◌⊖◌
  open symbols q use {K, 𝟘, 𝟙, ◌⊖◌}

  -- 1 at x^c, and zero elsewhere
  single : ℕ → ℕ → K
  single c i = unit (symbols q) (eqb i c)

  -- at x^c
  single-here : (c : ℕ) → single c c ≡ 𝟙
  unfolding single unit
  single-here c = ap (λ t. elim t [ true ↦ 𝟙 | false ↦ 𝟘 ]) (eq-eqb c c refl)

  -- and elsewhere
  single-there : (c i : ℕ) → (i ≡ c → ⊥) → single c i ≡ 𝟘
  unfolding single unit
  single-there c i ne = ap (λ t. elim t [ true ↦ 𝟙 | false ↦ 𝟘 ]) (ne_eqb i c ne)

  -- 1 in its first row, and x^(q²) - x in its own
  one-first : (i : ℕ) → one (symbols q) q 0 i ≡ single 0 i
  unfolding one single
  one-first i = refl

  vanishing-first : (i : ℕ) → vanishing (symbols q) q 0 i ≡ single (q * q) i ⊖ single 1 i
  unfolding vanishing single
  vanishing-first i = refl

  -- their other rows are zero
  pub one-else : (j i : ℕ) → (j ≡ 0 → ⊥) → one (symbols q) q j i ≡ 𝟘
  unfolding one unit
  one-else j i ne = rw (ne_eqb j 0 ne)

  pub vanishing-else : (j i : ℕ) → (j ≡ 0 → ⊥) → vanishing (symbols q) q j i ≡ 𝟘
  unfolding vanishing unit
  vanishing-else j i ne =
      ap (λ t. unit (symbols q) (t && eqb i (q * q)) ⊖ unit (symbols q) (t && eqb i 1)) (ne_eqb j 0 ne) ∙ sub_self (laws-of q known) 𝟘

  -- the code's -1
  pub minus_one : difference_of q 0 1 ≡ number q (𝟘 ⊖ 𝟙)
  minus_one = ap (difference_of q 0) (sym (laws-of q known).number-one) ∙ number-of-negative q known 𝟙

  pub minus-one-small : difference_of q 0 1 < q * q
  minus-one-small = rw minus_one ((laws-of q known).number-below (𝟘 ⊖ 𝟙))

  -- -x, and nothing taken from a symbol
  negative : ℕ → K
  negative i = 𝟘 ⊖ single 1 i

  pub less_none : (a : K) → a ⊖ 𝟘 ≡ a
  less_none a = simp (ring, laws-of q known)

  -- three symbols stored in the blank area
  pub firsts-stored : (l rest : List ℕ) → l ≡ shown q (blank q) ++ rest
      → set (set (set l (row_place q q 0) 1) (row_place q 0 q + 1) (difference_of q 0 1)) (row_place q 0 q + q * q) 1 ≡ shown q (firsts q) ++ rest
  unfolding blank firsts negative
  firsts-stored l rest e = last ∙ ap (λ (w : List ℕ). w ++ rest) (shown-same q after (firsts q) same)
    where
      positive : 2 ≤ q
      positive = (sizes q known).some

      wide : q * q < width q
      wide = (sizes q known).wide

      square : 4 ≤ q * q
      square = (sizes q known).square-some

      one_is : (F : ℕ → K) (c : ℕ) → F c ≡ 𝟙 → 1 ≡ number q (F c)
      one_is F c z = sym (ap (number q) z ∙ (laws-of q known).number-one)

      f-first : Cells q
      f-first = with_rows q q 0 1 (λ n. one (symbols q) q 0) (blank q)

      middle : Cells q
      middle = with_rows q 0 q 1 (λ n. negative) f-first

      after : Cells q
      after = with_rows q 0 q 1 (λ n. vanishing (symbols q) q 0) middle

      g-blank : (i : ℕ) → f-first 0 q i ≡ 𝟘
      g-blank i = row-there q q 0 (one (symbols q) q 0) (blank q) 0 q i (λ z y. omega (arith, positive))

      stored-1 : set l (row_place q q 0) 1 ≡ shown q f-first ++ rest
      stored-1 =
          ap (λ (k : ℕ). set l k 1) (sym (add-zero (row_place q q 0)))
          ∙ shown-store q (blank q) l rest e q 0 (omega (arith, positive)) (omega (arith, positive)) 0 1 (one (symbols q) q 0) (omega (arith, wide))
          (one_is (one (symbols q) q 0) 0 (one-first 0 ∙ single-here 0))
          (λ i ne. one-first i ∙ single-there 0 i ne)

      stored-2 : set (set l (row_place q q 0) 1) (row_place q 0 q + 1) (difference_of q 0 1) ≡ shown q middle ++ rest
      stored-2 =
          shown-store q f-first (set l (row_place q q 0) 1) rest stored-1 0 q (omega (arith, positive)) (omega (arith, positive)) 1 (difference_of q 0 1) negative (omega (arith, wide, square))
          (minus_one ∙ ap (λ (y : K). number q (𝟘 ⊖ y)) (sym (single-here 1)))
          (λ i ne. ap (λ (y : K). 𝟘 ⊖ y) (single-there 1 i ne) ∙ less_none 𝟘 ∙ sym (g-blank i))

      last : set (set (set l (row_place q q 0) 1) (row_place q 0 q + 1) (difference_of q 0 1)) (row_place q 0 q + q * q) 1 ≡ shown q after ++ rest
      last =
          shown-store q middle (set (set l (row_place q q 0) 1) (row_place q 0 q + 1) (difference_of q 0 1)) rest stored-2 0 q (omega (arith, positive)) (omega (arith, positive)) (q * q) 1
          (vanishing (symbols q) q 0) wide
          (one_is (vanishing (symbols q) q 0) (q * q)
          (vanishing-first (q * q)
          ∙ ap (λ (y : K). single (q * q) (q * q) ⊖ y) (single-there 1 (q * q) (λ z. omega (arith, square)))
          ∙ less_none (single (q * q) (q * q)) ∙ single-here (q * q)))
          (λ i ne.
          vanishing-first i
          ∙ ap (λ (y : K). y ⊖ single 1 i) (single-there (q * q) i ne)
          ∙ sym (row_here q 0 q negative f-first i))

      same : (p r i : ℕ) → p < 2 * q → r < 2 * q → i < width q → after p r i ≡ firsts q p r i
      same p r i hp hr hi =
          ⊎_elim
          (λ (z : p ≡ 0). ⊎_elim
          (λ (y : r ≡ q). rw (z, y) (row_here q 0 q (vanishing (symbols q) q 0) middle i ∙ sym (row_here q 0 q (vanishing (symbols q) q 0) f-first i)))
          (λ ne. other (λ w y. ne y))
          (same_or_not r q))
          (λ ne. other (λ w y. ne w))
          (same_or_not p 0)
        where
          other : (p ≡ 0 → r ≡ q → ⊥) → after p r i ≡ firsts q p r i
          other ne =
              row-there q 0 q (vanishing (symbols q) q 0) middle p r i ne
              ∙ row-there q 0 q negative f-first p r i ne
              ∙ sym (row-there q 0 q (vanishing (symbols q) q 0) f-first p r i ne)
