-- `rowstate::is_original` meets its contract: lists that are equal compare as the same. Assumes nothing.
use mathlib.Core.Path.{ap, ◌∙◌}
use mathlib.Core.List.{List}
use Prim.Native.Nat.{ℕ}
use lib.Pointwise.{bytes_decides}
use Rattle.lists.specs.Same.{same_list}
use Rattle.lists.proofs.Same.{tells-same}
use Rattle.rowstate.proofs.is_original.Goals as goal

pub returns : goal.returns
returns c =
    let message = c.args.message.now in
    c.eq.ensures ∙ tells-same message _ _ (bytes_decides message _)
    ∙ ap (λ (l : List ℕ). same_list message l) (c.as_slice.ensures ∙ c.unpack.ensures.0)
