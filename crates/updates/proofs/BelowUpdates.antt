-- The heights bound the upper parts after each update of a pair.
-- Assumes nothing.
use mathlib.Core.Path.{◌≡◌, ◌∙◌}
use mathlib.Core.List.{List}
use mathlib.Core.Logic.{⊎_elim}
use Prim.Native.Nat.{ℕ, ◌+◌, ◌*◌, ◌<◌, ◌≤◌}
use native.Mathlib.Omega.{arith}
use lib.ListN.{get_or, set, length-set}
use lib.Seq.{get_or-set_same, get_or-set_other}
use Rattle.algebra.specs.Functions.{shift}
use Rattle.algebra.proofs.Ring.{ring}
use Rattle.lists.proofs.Numbers.{lt-or-ge, same_or_not}
use Rattle.symbols.specs.Rule.{Known, symbols}
use Rattle.symbols.proofs.FieldLaws.{laws-of}
use Rattle.published.specs.Start.{Polynomials, width}
use Rattle.workarea.specs.Area.{Cells, cells_of, Turns, with_rows, first_symbols, minus_multiple, raised_minus}
use Rattle.updates.specs.Updates.{row_height, polynomial_reduced, polynomials_exchanged}
use Rattle.workarea.specs.Heights.{Heights, WithinHeights, BecomesBelow, height_of_sum, heights_added, heights_exchanged}
use Rattle.workarea.proofs.Cells.{rows_out, all-rows}
use Rattle.workarea.proofs.Becoming.{becomes, below-same}
use Rattle.workarea.proofs.FirstSymbols.{first-in, first_out}
use Rattle.workarea.proofs.HeightLaws.{sum_past}
use Rattle.workarea.proofs.RowLaws.{multiple-is, raised_is}
use Rattle.algebra.proofs.Polynomials.{shift_none}

module _ (q : ℕ) (known : Known q) where
  infixl 65 ◌⊖◌
  infixl 70 ◌⊗◌
  open symbols q use {K, 𝟘, ◌⊖◌, ◌⊗◌}

  -- a difference of zeros
  nothing_left : (a b ρ : K) → a ≡ 𝟘 → b ≡ 𝟘 → a ⊖ ρ ⊗ b ≡ 𝟘
  nothing_left a b ρ ea eb = rw (ea, eb) (simp (ring, laws-of q known))

  -- the first symbols of a row of zeros
  first-zero : (n : ℕ) (a : ℕ → K) (i : ℕ) → a i ≡ 𝟘 → first_symbols q n a i ≡ 𝟘
  first-zero n a i e =
      ⊎_elim
      (λ (l : i < n). first-in q n a i l ∙ e)
      (λ (l : n ≤ i). first_out q n a i l)
      (lt-or-ge i n)

  module _ (heights : List ℕ) (many : Heights q heights) (S : Cells q) (below : WithinHeights q heights S) (f g c : ℕ) (ρ : K) (hf : f < 2 * q) (hg : g < 2 * q) where
    -- after polynomial f has become f - ρ·x^c·g
    pub below-reduced : (n : ℕ) → WithinHeights q (heights_added q f g c heights) (polynomial_reduced q f g n c ρ (2 * q) S)
    unfolding heights_added polynomial_reduced
    below-reduced n =
        record {
          above = λ p r i hp hr hi past. ⊎_elim
              (λ (e : p ≡ f).
              let high = sum_past q (get_or heights f 0) (get_or heights g 0 + c) i hi (rw (e, get_or-set_same heights f new 0 (omega (arith, many.enough))) at past) in
              rw e
              (all-rows q f F S r i (omega arith)
              ∙ multiple-is q known ◌⊖◌ (S f r) ρ c (first_symbols q (row_height q n r) (S g r)) i
              ∙ nothing_left (S f r i) (shift (symbols q) q c (first_symbols q (row_height q n r) (S g r)) i) ρ
              (below.above f r i hf hr hi high.0)
              (shift_none (symbols q) q c (first_symbols q (row_height q n r) (S g r)) i
              (λ m l. first-zero (row_height q n r) (S g r) m (below.above g r m hg hr (omega arith) (omega (arith, high.1)))))))
              (λ ne.
              rows_out q f 0 (2 * q) F S p r i (λ e. absurd (ne e))
              ∙ below.above p r i hp hr hi (rw (get_or-set_other heights f p new 0 ne) at past))
              (same_or_not p f);
        }
      where
        F : ℕ → ℕ → K
        F r = minus_multiple q (S f r) ρ c (first_symbols q (row_height q n r) (S g r))

        new : ℕ
        new = height_of_sum q (get_or heights f 0) (get_or heights g 0 + c)

    -- after f has become x^c·f - ρ·g, and g what f was
    pub below-exchanged : (f ≡ g → ⊥) → WithinHeights q (heights_exchanged q f g c heights) (polynomials_exchanged q f g c ρ (2 * q) S)
    unfolding heights_exchanged polynomials_exchanged
    below-exchanged apart =
        record {
          above = λ p r i hp hr hi past. ⊎_elim
              (λ (e : p ≡ g).
              rw e
              (all-rows q g (S f) inner r i (omega arith)
              ∙ below.above f r i hf hr hi (rw (e, get_or-set_same (set heights f new) g (get_or heights f 0) 0 (rw length-set (omega (arith, many.enough)))) at past)))
              (λ ng.
              rows_out q g 0 (2 * q) (S f) inner p r i (λ e. absurd (ng e))
              ∙ rest p r i hp hr hi (rw (get_or-set_other (set heights f new) g p (get_or heights f 0) 0 ng) at past))
              (same_or_not p g);
        }
      where
        F : ℕ → ℕ → K
        F r = raised_minus q (S f r) ρ c (S g r)

        inner : Cells q
        inner = with_rows q f 0 (2 * q) F S

        new : ℕ
        new = height_of_sum q (get_or heights f 0 + c) (get_or heights g 0)

        rest : (p r i : ℕ) → p < 2 * q → r < q → i < width q → get_or (set heights f new) p 0 ≤ i → inner p r i ≡ 𝟘
        rest p r i hp hr hi past =
            ⊎_elim
            (λ (e : p ≡ f).
            let high = sum_past q (get_or heights f 0 + c) (get_or heights g 0) i hi (rw (e, get_or-set_same heights f new 0 (omega (arith, many.enough))) at past) in
            rw e
            (all-rows q f F S r i (omega arith)
            ∙ raised_is q known (S f r) ρ c (S g r) i
            ∙ nothing_left (shift (symbols q) q c (S f r) i) (S g r i) ρ
            (shift_none (symbols q) q c (S f r) i (λ n l. below.above f r n hf hr (omega arith) (omega (arith, high.0))))
            (below.above g r i hg hr hi high.1)))
            (λ ne.
            rows_out q f 0 (2 * q) F S p r i (λ e. absurd (ne e))
            ∙ below.above p r i hp hr hi (rw (get_or-set_other heights f p new 0 ne) at past))
            (same_or_not p f)

  module _ (heights heights' : List ℕ) (many : Heights q heights) (S T : Polynomials (symbols q) q) (below : WithinHeights q heights (cells_of q S))
      (f g c : ℕ) (ρ : K) (hf : f < 2 * q) (hg : g < 2 * q) {before after : List ℕ} where
    -- both updates of the bytes and of the heights, where their cells are those of T
    pub becomes-reduced : (n : ℕ) → Turns q before after (polynomial_reduced q f g n c ρ (2 * q)) → heights' ≡ heights_added q f g c heights
        → ((p r i : ℕ) → p < 2 * q → r < 2 * q → i < width q → polynomial_reduced q f g n c ρ (2 * q) (cells_of q S) p r i ≡ cells_of q T p r i)
        → BecomesBelow q before after S T heights'
    becomes-reduced n turns e same =
        record {
          becomes = becomes q (polynomial_reduced q f g n c ρ (2 * q)) turns same;
          below = rw e (below-same q _ _ (cells_of q T) same (below-reduced heights many (cells_of q S) below f g c ρ hf hg n));
        }

    pub becomes-exchanged : (f ≡ g → ⊥) → Turns q before after (polynomials_exchanged q f g c ρ (2 * q)) → heights' ≡ heights_exchanged q f g c heights
        → ((p r i : ℕ) → p < 2 * q → r < 2 * q → i < width q → polynomials_exchanged q f g c ρ (2 * q) (cells_of q S) p r i ≡ cells_of q T p r i)
        → BecomesBelow q before after S T heights'
    becomes-exchanged apart turns e same =
        record {
          becomes = becomes q (polynomials_exchanged q f g c ρ (2 * q)) turns same;
          below = rw e (below-same q _ _ (cells_of q T) same (below-exchanged heights many (cells_of q S) below f g c ρ hf hg apart));
        }
