-- One row is added, and where a y comes round a second one subtracted; together they are the row of the product.
-- Assumes nothing.
use mathlib.Core.Path.{◌≡◌}
use mathlib.Core.Logic.{◌⊎◌, inl, inr}
use Prim.Native.Nat.{◌<◌}
use native.Mathlib.Omega.{arith}
use Rattle.workarea.proofs.Cells.{turns_same, turns-both}
use Rattle.substitution.proofs.ProductCells.{once, twice}
use Rattle.substitution.proofs.add_product_row.Goals.{then-j-eq0-via-then-j-eq0, then-j-eq0-via-else-j-eq0+then-b-j}
use Rattle.substitution.proofs.add_product_row.Goals as goal

pub change_row-requires-clause-two_rows : goal.change_row-requires-clause-two_rows
change_row-requires-clause-two_rows c = let a = c.requires.apart in
    let w = c.source_of-source.ensures in
    record {
      to-polynomial = a.to-polynomial;
      to_row = omega (arith, a.to_row);
      from-polynomial = a.from-polynomial;
      from_row = omega (arith, a.from_row);
      differ = λ e d. a.rows _ _ c.requires.j_lt_q.0 w.2 e d;
    }

pub returns-then-j-eq0 : goal.returns-then-j-eq0
returns-then-j-eq0 c =
    λ ρ m.
    let w = c.source_of-source.ensures in
    let no_y : (c.args.j ≡ 0) ⊎ (c.args.powers.y < c.args.j) =
    elim c.then-j-eq0.branch [ then-j-eq0-via-then-j-eq0 w ↦ inl w.if-j-eq0.true | then-j-eq0-via-else-j-eq0+then-b-j w ↦ inr w.if-b-j.true ] in
    turns_same _ (λ S p r i hp hr hi. once _ c.requires.area.known c.args.to c.args.from _ _ _ ρ S _ c.requires.j_lt_q.1 c.requires.j_lt_q.0 no_y p r i)
    (rw (w.0, w.1) at (c.change_row.ensures ρ m))

pub returns : goal.returns
returns c =
    λ ρ m.
    let w = c.source_of-source.ensures in
    let some = c.if-j-eq0.false in
    turns_same _ (λ S p r i hp hr hi. twice _ c.requires.area.known c.args.to c.args.from _ _ _ ρ S _ c.requires.j_lt_q.1 c.requires.j_lt_q.0 c.requires.apart (omega arith) c.if-b-j.false p r i)
    (turns-both _ (rw (w.0, w.1) at (c.change_row.ensures ρ m)) (c.change_row-2.ensures ρ m))
