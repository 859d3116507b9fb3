-- `files::read_full` meets its contract: the goals that the check leaves open. Assumes nothing.
use Rattle.std.proofs.Common.{◌≡◌, ℕ, ◌+◌, ◌-◌, ◌≤◌, List, ◌++◌, arith, length, take, sym, subst, le_refl}
use Rattle.std.proofs.lemmas.Grind.{common_steps}
use Rattle.std.proofs.lemmas.Slice.{take-put_mid_below}
use Rattle.std.specs.Io.KnownBytes.{Consumes}
use Rattle.std.proofs.KnownBytes.{Consumes-trans}
use borrow.Rule.Slice.PartMut.{put_mid}
use lib.Seq.{take-add}
use Rattle.files.proofs.read_full.Goals as goal

-- what stood at the start, and then what was read
take-put_mid_more : (a k n : ℕ) (xs ys : List ℕ) → a ≤ length xs → n ≤ length ys → take (a + n) (put_mid a k xs ys) ≡ take a xs ++ take n ys
take-put_mid_more a k n xs ys within fits =
    rw (take-add a n (put_mid a k xs ys), take-put_mid_below a k xs ys a (le_refl a) within) (grind (arith, common_steps))

pub loop-done-preserved : goal.loop-done-preserved
loop-done-preserved g c =
    let done = c.loop-done.done in
    let buffer = c.loop-done.buffer in
    let part = c.read.new.buf in
    let room = length buffer - done in
    let joined = take-put_mid_more done room c.in_ok-n.n buffer part c.loop-done.invariant.within c.in_ok-n.ensures.bound.0 in
    record {
      within = omega (arith, c.in_ok-n.ensures.bound.0);
      bytes = subst (Consumes _ _) (sym joined) (Consumes-trans _ _ _ _ _ c.loop-done.invariant.bytes c.in_ok-n.ensures.bytes.0);
    }
