-- `evaluation::fill_fibre` meets its contract: the goals that the check leaves open. Assumes nothing.
use mathlib.Core.Path.{sym, ap, ◌∙◌}
use Prim.Native.Nat.{◌*◌}
use native.Mathlib.Omega.{arith}
use lib.ListN.{get_or}
use Rattle.lists.proofs.Put.{put-none, put-more}
use Rattle.symbols.specs.Tables.{product_row}
use Rattle.evaluation.specs.Stages.{fibre_number}
use Rattle.evaluation.proofs.Values.{fibre-within, fibre-value}
use Rattle.evaluation.proofs.fill_fibre.Goals as goal

pub loop-b-init : goal.loop-b-init
loop-b-init c = λ v held. sym (put-none _ _ _)

pub bounds-row-start : goal.bounds-row-start
bounds-row-start c =
    omega (arith, fibre-within _ c.args.x c.requires.0)

pub loop-b-preserved : goal.loop-b-preserved
loop-b-preserved c = λ v held.
    let q = c.args.products.q in
    let b = c.loop-b.b in
    let above = c.ordinates-ordinates.ensures _ c.row.ensures in
    let e = c.row-by_y.ensures ∙ ap (λ l. product_row q (get_or l b 0)) above in
    rw (
      c.loop-b.invariant v held,
      fibre-value q c.args.products.known c.row-by_y.result c.value_in.result v
          c.args.values.now c.args.x b
          c.requires.0 (omega arith) c.requires.1 held e c.value_in.ensures,
    )
    (put-more c.args.row.now (c.args.x * q) b (fibre_number q v c.args.x))
