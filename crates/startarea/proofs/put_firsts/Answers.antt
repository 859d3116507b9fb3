-- Three symbols are stored; the places are within the area.
-- Assumes nothing.
use Rattle.startarea.proofs.StartFirsts.{firsts-stored}
use Rattle.startarea.proofs.put_firsts.Goals as goal

pub returns : goal.returns
returns c =
    λ rest e. rw (c.row_place-one.ensures, c.row_place-vanishing.ensures, c.difference.ensures) (firsts-stored _ c.requires.known _ rest e)
