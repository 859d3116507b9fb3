-- The word is copied to its place.
use Rattle.std.proofs.Common.{refl, arith}
use Rattle.lines.proofs.Writing.{wrote-part}
use Rattle.lines.proofs.Pages.{put}
use Rattle.lines.proofs.Page.word.Goals as goal

pub returns : goal.returns
returns c = put c.requires refl (wrote-part _ _ c.copy_from_slice.ensures.after (omega arith))
