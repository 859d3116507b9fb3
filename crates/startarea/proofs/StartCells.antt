-- The start: the first of each kind with h subtracted from f_0, and that all of both kinds are the polynomials before the first step.
-- Assumes nothing.
use mathlib.Core.Path.{◌≡◌, sym, ap, ◌∙◌}
use mathlib.Core.List.{List, ◌++◌, map}
use mathlib.Core.Logic.{inl, ⊎_elim}
use Prim.Native.Nat.{ℕ, ◌+◌, ◌*◌, ◌/◌, ◌%◌, ◌<◌}
use native.Mathlib.Nat.{mod-lt, div-lt_iff_lt-mul, add-zero}
use native.Mathlib.Omega.{arith}
use Rattle.algebra.specs.Functions.{times_ys}
use Rattle.algebra.proofs.Ring.{ring}
use Rattle.lists.proofs.Numbers.{same_or_not}
use Rattle.symbols.specs.Rule.{Known, symbols, symbol}
use Rattle.symbols.proofs.FieldLaws.{laws-of}
use Rattle.published.specs.Start.{h, table, of_table, vanishing, one, negated, start}
use Rattle.published.specs.Picture.{picture}
use Rattle.published.proofs.StartLeads.{table-whole, start-held}
use Rattle.workarea.specs.Area.{Cells, cells_of, shown, with_rows}
use Rattle.startarea.specs.StartArea.{columns_of, rows_minus, blank, firsts, begun}
use Rattle.workarea.proofs.Cells.{picture-is, shown-same, rows_in, rows_out, row_here, row-there}
use Rattle.workarea.proofs.Sizes.{sizes}
use Rattle.startarea.proofs.StartColumns.{columns-are-h}
use Rattle.startarea.proofs.StartFirsts.{one-else, vanishing-else}
use Rattle.startarea.proofs.StartKinds.{each_row, begun-in, begun-out, g-upper, g-lower, f-upper, f-lower, begun-else}

module _ (q : ℕ) (known : Known q) where
  infixl 65 ◌⊖◌
  open symbols q use {K, 𝟘, ◌⊖◌, minus}

  module _ (row : List ℕ) where
    -- the coefficients of h, and the area after h was subtracted in the first of each kind
    abbrev H : List (List K)
    H = table (symbols q) q (h (symbols q) q (map (symbol q) row))

    abbrev S : Cells q
    S = rows_minus q q q q (columns_of q row (q * q)) (firsts q)

    -- what no row was subtracted from
    plain : (p r k : ℕ) → (p ≡ q → r < q) → S p r k ≡ firsts q p r k
    unfolding rows_minus
    plain p r k out = rows_out q q q q (λ j k. firsts q q (q + j) k ⊖ columns_of q row (q * q) j k) (firsts q) p r k (λ e. inl (out e))

    -- and what was left blank
    untouched : (p r k : ℕ) → (p ≡ 0 → r ≡ q → ⊥) → (p ≡ q → r ≡ 0 → ⊥) → firsts q p r k ≡ 𝟘
    unfolding firsts blank
    untouched p r k ng nf =
        row-there q 0 q (vanishing (symbols q) q 0) (with_rows q q 0 1 (λ n. one (symbols q) q 0) (blank q)) p r k ng
        ∙ row-there q q 0 (one (symbols q) q 0) (blank q) p r k nf

    -- q is at least 1
    positive : 0 < q
    positive = omega (arith, (sizes q known).some)

    -- the lower part of g_0
    g-first : (j k : ℕ) → j < q → S 0 (q + j) k ≡ vanishing (symbols q) q j k
    unfolding firsts
    g-first j k hj =
        plain 0 (q + j) k (λ e. absurd (omega (arith, positive)))
        ∙ ⊎_elim
        (λ (e : j ≡ 0). let z : q + 0 ≡ q = omega arith in rw (e, z) (row_here q 0 q (vanishing (symbols q) q 0) (with_rows q q 0 1 (λ n. one (symbols q) q 0) (blank q)) k))
        (λ (ne : j ≡ 0 → ⊥). untouched 0 (q + j) k (λ e z. ne (omega arith)) (λ e z. omega (arith, positive)) ∙ sym (vanishing-else q known j k ne))
        (same_or_not j 0)

    -- the upper part of f_0
    f-upper-first : (j k : ℕ) → j < q → S q (0 + j) k ≡ one (symbols q) q j k
    unfolding firsts
    f-upper-first j k hj =
        plain q (0 + j) k (λ e. omega arith)
        ∙ ⊎_elim
        (λ (e : j ≡ 0). rw e
        (row-there q 0 q (vanishing (symbols q) q 0) (with_rows q q 0 1 (λ n. one (symbols q) q 0) (blank q)) q (0 + 0) k (λ z y. omega (arith, positive))
        ∙ row_here q q 0 (one (symbols q) q 0) (blank q) k))
        (λ (ne : j ≡ 0 → ⊥). untouched q (0 + j) k (λ e z. omega (arith, positive)) (λ e z. ne (omega arith)) ∙ sym (one-else q known j k ne))
        (same_or_not j 0)

    -- its lower part, -h
    f-lower-first : (j k : ℕ) → j < q → S q (q + j) k ≡ negated (symbols q) q (of_table (symbols q) q H) j k
    unfolding rows_minus negated
    f-lower-first j k hj =
        rows_in q q q q (λ j k. firsts q q (q + j) k ⊖ columns_of q row (q * q) j k) (firsts q) j k hj
        ∙ ap (λ (y : K). y ⊖ columns_of q row (q * q) j k) (untouched q (q + j) k (λ e z. omega (arith, positive)) (λ e z. omega (arith, positive)))
        ∙ less (columns_of q row (q * q) j k)
        ∙ ap minus (columns-are-h q known row j k ∙ sym (table-whole (symbols q) q (map (symbol q) row) j k hj))
      where
        less : (a : K) → 𝟘 ⊖ a ≡ minus a
        less a = simp (ring, laws-of q known)

    -- the first of each kind, with h
    first-cells : (p r k : ℕ) → p < 2 * q → r < 2 * q → S p r k ≡ begun q H 1 p r k
    unfolding times_ys
    first-cells p r k hp hr =
        ⊎_elim
        (λ (e : p ≡ 0). rw e (each_row q (λ r. S 0 r k ≡ begun q H 1 0 r k)
        (λ j hj. plain 0 (0 + j) k (λ z. omega arith) ∙ untouched 0 (0 + j) k (λ z y. omega arith) (λ z y. omega (arith, positive)) ∙ sym (g-upper q known H 1 0 (omega arith) positive j k hj))
        (λ j hj. g-first j k hj ∙ sym (g-lower q known H 1 0 (omega arith) positive j k hj))
        r hr))
        (λ (ng : p ≡ 0 → ⊥). ⊎_elim
        (λ (e : p ≡ q). rw e (each_row q (λ r. S q r k ≡ begun q H 1 q r k)
        (λ j hj. f-upper-first j k hj ∙ sym (at-zeroth (0 + j) ∙ f-upper q known H 1 0 (omega arith) positive j k hj))
        (λ j hj. f-lower-first j k hj ∙ sym (at-zeroth (q + j) ∙ f-lower q known H 1 0 (omega arith) positive j k hj))
        r hr))
        (λ (nf : p ≡ q → ⊥).
        plain p r k (λ z. absurd (nf z)) ∙ untouched p r k (λ z y. ng z) (λ z y. nf z)
        ∙ sym (begun-out q known H 0 p r k (omega arith)) ∙ begun-else q known H 0 p r k hp ng (λ z. nf (z ∙ add-zero q)))
        (same_or_not p q))
        (same_or_not p 0)
      where
        at-zeroth : (r : ℕ) → begun q H 1 q r k ≡ begun q H 1 (q + 0) r k
        at-zeroth r = ap (λ (p : ℕ). begun q H 1 p r k) (sym (add-zero q))

    -- the same of the bytes
    pub begun_first : (l rest : List ℕ) → l ≡ shown q S ++ rest → l ≡ shown q (begun q H 1) ++ rest
    begun_first l rest e = e ∙ ap (λ (w : List ℕ). w ++ rest) (shown-same q S (begun q H 1) (λ p r k hp hr hk. first-cells p r k hp hr))

    -- all of both kinds are the start, cell by cell
    all-cells : (p r k : ℕ) → p < 2 * q → r < 2 * q → begun q H q p r k ≡ cells_of q (start (symbols q) q (map (symbol q) row)) p r k
    unfolding cells_of
    all-cells p r k hp hr =
        let half : r / q < 2 = (div-lt_iff_lt-mul positive).1 hr in
        begun-in q known H q p r k (mod-lt p positive)
        ∙ (start-held (laws-of q known) (map (symbol q) row) p hp).at (r / q) (r % q) k (omega arith) (mod-lt r positive)

    -- and as bytes
    pub begun_all : (l rest : List ℕ) → l ≡ shown q (begun q H q) ++ rest → l ≡ picture (symbols q) q (start (symbols q) q (map (symbol q) row)) ++ rest
    begun_all l rest e =
        e
        ∙ ap (λ (w : List ℕ). w ++ rest)
        (shown-same q (begun q H q) (cells_of q (start (symbols q) q (map (symbol q) row))) (λ p r k hp hr hk. all-cells p r k hp hr)
        ∙ sym (picture-is q (start (symbols q) q (map (symbol q) row))))
