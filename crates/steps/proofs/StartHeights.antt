-- The heights bound the upper parts before the first step.
-- Assumes nothing.
use mathlib.Core.Path.{◌≡◌, refl, ap, ◌∙◌}
use mathlib.Core.Bool.{Bool, true, false, ◌&&◌}
use mathlib.Core.List.{List, map}
use mathlib.Core.Logic.{◌⊎◌, inl, inr, ⊎_elim}
use Prim.Native.Nat.{ℕ, zero, suc, ◌+◌, ◌-◌, ◌<◌, ◌≤◌}
use native.Mathlib.Omega.{arith}
use lib.Dec.{eqb}
use borrow.Author.Tests.{ne_eqb}
use Rattle.algebra.specs.Functions.{Fn, times_y, times_ys}
use Rattle.algebra.specs.Interpolation.{unit}
use Rattle.algebra.proofs.Ring.{sub_self}
use Rattle.lists.proofs.Numbers.{lt-or-ge}
use Rattle.symbols.specs.Rule.{Known, symbols, symbol}
use Rattle.symbols.proofs.FieldLaws.{laws-of}
use Rattle.published.specs.Start.{one, nothing, start_part, table, h, start}
use Rattle.published.specs.Steps.{after}
use Rattle.published.proofs.StartLeads.{start_g-upper, start_f-upper}
use Rattle.workarea.specs.Heights.{AtStart}
use Rattle.steps.specs.Stop.{state_after}
use Rattle.steps.specs.Step.{BelowAfter}
use Rattle.workarea.proofs.Coefficients.{upper-row, cell-polynomials}
use Rattle.algebra.proofs.Polynomials.{shift_none}

module _ (q : ℕ) (known : Known q) where
  infixl 65 ◌⊖◌
  open symbols q use {K, 𝟘, ◌⊖◌}

  -- 1 has no symbol but zero elsewhere than at x^0·y^0
  one-zero : (j i : ℕ) → (j ≡ 0 → ⊥) ⊎ (0 < i) → one (symbols q) q j i ≡ 𝟘
  unfolding one unit
  one-zero j i elsewhere =
      ⊎_elim
      (λ (ne : j ≡ 0 → ⊥). rw (ne_eqb j 0 ne))
      (λ (l : 0 < i). rw (ne_eqb i 0 (λ e. omega arith)) (nowhere (eqb j 0)))
      elsewhere
    where
      nowhere : (t : Bool) → unit (symbols q) (t && false) ≡ 𝟘
      nowhere true = refl
      nowhere false = refl

  -- nor has y^b elsewhere than at x^0·y^b
  y-zero : (b j i : ℕ) → b < q → j < q → (j ≡ b → ⊥) ⊎ (0 < i) → times_ys (symbols q) q b (one (symbols q) q) j i ≡ 𝟘
  unfolding times_ys times_y
  y-zero zero j i hb hj elsewhere = one-zero j i elsewhere
  y-zero (suc b) zero i hb hj elsewhere =
      shift_none (symbols q) q (q + 1) (times_ys (symbols q) q b (one (symbols q) q) (q - 1)) i (λ n l. y-zero b (q - 1) n (omega arith) (omega arith) (inl (λ e. omega arith)))
  y-zero (suc b) (suc zero) i hb hj elsewhere =
      ap (λ (y : K). times_ys (symbols q) q b (one (symbols q) q) 0 i ⊖ y) (y-zero b (q - 1) i (omega arith) (omega arith) (inl (λ e. omega arith)))
      ∙ ap (λ (y : K). y ⊖ 𝟘)
      (y-zero b 0 i (omega arith) (omega arith) (⊎_elim (λ (ne : 1 ≡ suc b → ⊥). inl (λ e. ne (omega arith))) (λ (l : 0 < i). inr l) elsewhere))
      ∙ sub_self (laws-of q known) 𝟘
  y-zero (suc b) (suc (suc j)) i hb hj elsewhere =
      y-zero b (suc j) i (omega arith) (omega arith) (⊎_elim (λ (ne : suc (suc j) ≡ suc b → ⊥). inl (λ e. ne (omega arith))) (λ (l : 0 < i). inr l) elsewhere)

  -- before the first step
  pub below-start : (heights : List ℕ) → AtStart q heights → (u : ℕ) (row : List ℕ) → BelowAfter q u row 0 heights
  unfolding state_after after start nothing
  below-start heights at u row =
      record {
        above = λ p r i hp hr hi past.
            cell-polynomials q (start_part (symbols q) q rows) p r i hp (omega arith) hi
            ∙ (rw ((upper-row q r hr).0, (upper-row q r hr).1)
            (⊎_elim
            (λ (l : p < q). ap (λ (F : Fn (symbols q) q). F r i) (start_g-upper (symbols q) q rows p l))
            (λ (l : q ≤ p).
            let e : p ≡ q + (p - q) = omega arith in
            let some : 0 < i = omega (arith, at.f-one p l hp) in
            rw e (ap (λ (F : Fn (symbols q) q). F r i) (start_f-upper (symbols q) q rows (p - q)) ∙ y-zero (p - q) r i (omega arith) hr (inr some)))
            (lt-or-ge p q)));
      }
    where
      rows : List (List K)
      rows = table (symbols q) q (h (symbols q) q (map (symbol q) row))
