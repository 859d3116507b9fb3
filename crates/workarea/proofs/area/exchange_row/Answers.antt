-- The bytes from the shift on are exchanged, and then those below it; together they are the two rows exchanged.
-- Assumes nothing.
use mathlib.Core.Path.{◌≡◌, ◌∙◌}
use Prim.Native.Nat.{ℕ, ◌+◌, ◌*◌, ◌<◌, ◌≤◌}
use native.Mathlib.Omega.{arith}
use Rattle.published.specs.Start.{width}
use Rattle.workarea.specs.Area.{Area, row_place, row_exchanged}
use Rattle.workarea.proofs.Cells.{row_fits, rows_differ}
use Rattle.workarea.proofs.RowLaws.{exchange-law, exchange-past}
use Rattle.workarea.proofs.area.exchange_row.Goals as goal

-- both rows end within the area
fit : {q n : ℕ} (f g r : ℕ) → Area q n → (f < 2 * q) × (g < 2 * q) × (r < 2 * q) × (f ≡ g → ⊥)
    → (row_place q f r + width q ≤ n) × (row_place q g r + width q ≤ n)
fit f g r area b = (row_fits f r area b.0 b.2, row_fits g r area b.1 b.2)

pub exchange_below-requires-clause-in_area : goal.exchange_below-requires-clause-in_area
exchange_below-requires-clause-in_area c = omega (arith, fit _ _ _ c.requires.area c.requires.f_bound)

pub exchange_above-requires-clause-in_area : goal.exchange_above-requires-clause-in_area
exchange_above-requires-clause-in_area c = omega (arith, fit _ _ _ c.requires.area c.requires.f_bound)

pub exchange_below-requires-2-clause-in_area : goal.exchange_below-requires-2-clause-in_area
exchange_below-requires-2-clause-in_area c = omega (arith, fit _ _ _ c.requires.area c.requires.f_bound)

pub returns-then-width-shift : goal.returns-then-width-shift
unfolding row_exchanged
returns-then-width-shift c =
    λ ρ m. record {
      shows = λ S rest e.
          let b = c.requires.f_bound in
          (rw (c.row_place-to.ensures, c.row_place-from.ensures, c.width_of-width.ensures) at c.exchange_below.ensures)
          ∙ exchange-past _ c.requires.area.known S _ rest e _ _ _ _ b.0 b.2 b.1 b.2 _ ρ m (rows_differ _ _ _ _ _ b.2 b.2 (λ e d. b.3 e)) _ (rw c.width_of-width.ensures at c.if-width-shift.true);
    }

pub returns : goal.returns
unfolding row_exchanged
returns c =
    λ ρ m. record {
      shows = λ S rest e.
          let b = c.requires.f_bound in
          (rw (c.exchange_above.ensures, c.row_place-to.ensures, c.row_place-from.ensures, c.width_of-width.ensures) at c.exchange_below-2.ensures)
          ∙ exchange-law _ c.requires.area.known S _ rest e _ _ _ _ b.0 b.2 b.1 b.2 _ ρ m (rows_differ _ _ _ _ _ b.2 b.2 (λ e d. b.3 e)) _ (omega (arith, c.width_of-width.ensures, c.if-width-shift.false));
    }
