-- One store is one byte written.
use Rattle.std.proofs.Common.{refl, arith}
use Rattle.lines.proofs.Writing.{wrote-byte}
use Rattle.lines.proofs.Pages.{put}
use Rattle.lines.proofs.Page.byte.Goals as goal

pub returns : goal.returns
returns c = put c.requires refl (wrote-byte _ _ _ (omega arith))
