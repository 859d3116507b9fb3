-- `heights::Heights::of_list` meets its contract: the places copied are the list's. Assumes nothing.
use mathlib.Core.Path.{sym, ◌∙◌}
use native.Mathlib.Omega.{arith}
use Rattle.std.proofs.lemmas.List.{length-append, length-take, length-drop, length-take-le, take-append-le, take_all}
use Rattle.symbols.proofs.Bytes.{known-test}
use Rattle.workarea.proofs.Sizes.{sizes}
use Rattle.heights.proofs.Lists.{heights-same}
use Rattle.heights.proofs.Heights.of_list.Goals as goal

pub slice_bounds-copy_from_slice-end : goal.slice_bounds-copy_from_slice-end
slice_bounds-copy_from_slice-end c =
    let few = (sizes _ c.requires.0).few in
    sym (length-take-le _ _ (omega (arith, few)))

pub copy_from_slice-requires : goal.copy_from_slice-requires
copy_from_slice-requires c =
    let few = (sizes _ c.requires.0).few in
    simp (length-take, length-drop) (omega (arith, few, c.requires.1.enough))

pub invariant_of-result : goal.invariant_of-result
invariant_of-result c =
    let few = (sizes _ c.requires.0).few in
    let copied = c.copy_from_slice.ensures.len ∙ length-take-le _ _ (omega (arith, few)) in
    record {
      known = known-test _ c.requires.0;
      low = heights-same _ _ _ (take-append-le _ _ _ (omega (arith, copied)) ∙ take_all _ _ (omega (arith, copied)) ∙ c.copy_from_slice.ensures.after) (rw length-append (omega (arith, copied))) c.requires.1;
    }
