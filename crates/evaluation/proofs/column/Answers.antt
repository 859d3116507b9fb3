-- `evaluation::column` meets its contract: the goals that the check leaves open. Assumes nothing.
use mathlib.Core.Path.{◌≡◌, sym, ap, ◌∙◌}
use Prim.Native.Nat.{◌+◌, ◌-◌, ◌*◌}
use native.Mathlib.Omega.{arith}
use lib.ListN.{replicate}
use Rattle.lists.proofs.Put.{put-none, put_next}
use Rattle.symbols.specs.Sizes.{most_q, most_symbols}
use Rattle.evaluation.specs.Stages.{column_number}
use Rattle.evaluation.proofs.Values.{column-value}
use Rattle.evaluation.proofs.column.Goals as goal

pub loop-j-init : goal.loop-j-init
loop-j-init c = λ f held. sym (put-none _ _ _)

pub loop-j-preserved : goal.loop-j-preserved
loop-j-preserved c = λ f held.
    let q = c.args.products.q in
    let j = c.loop-j.j in
    let width = c.args.width in
    let n : j * most_symbols + width - j * most_symbols ≡ width = omega arith in
    rw (c.loop-j.invariant f held)
    (put_next (replicate most_q 0) j (column_number q f width c.args.x) c.value_in.result
    (column-value q c.args.products.known c.row-by_x.result c.value_in.result f c.args.places.now
    c.args.x j (j * most_symbols + width - j * most_symbols)
    (omega arith) (omega arith) c.requires.1 held c.row-by_x.ensures c.value_in.ensures
    ∙ ap (λ m. column_number q f m c.args.x j) n))
