-- The three parts are made one after the other.
-- Assumes nothing.
use mathlib.Core.Path.{ap, ◌∙◌}
use mathlib.Core.List.{List, ◌++◌}
use Prim.Native.Nat.{ℕ}
use Rattle.workarea.proofs.Cells.{shown-same}
use Rattle.startarea.proofs.StartKinds.{begun_more}
use Rattle.startarea.proofs.add_multiples.Goals as goal

pub returns : goal.returns
returns c =
    λ H rest e.
    c.add_multiple-3.ensures.shows _ rest
    (c.add_multiple-2.ensures.shows _ rest
    (c.add_multiple.ensures.shows _ rest e))
    ∙ ap (λ (l : List ℕ). l ++ rest) (shown-same _ _ _ (λ p r k hp hr hk. begun_more _ c.requires.area.known H _ c.requires.i_nonzero.0 c.requires.i_nonzero.1 p r k hp hr hk))
