-- Heights that stand in a list: what holds of its first places holds of every list that begins with the same.
-- Assumes nothing.
use mathlib.Core.Path.{◌≡◌, sym, ap, ◌∙◌}
use mathlib.Core.List.{List, ◌++◌}
use Prim.Native.Nat.{ℕ, ◌*◌, ◌<◌, ◌≤◌}
use lib.ListN.{length, get_or, take, drop}
use lib.Seq.{take_at}
use Rattle.std.proofs.lemmas.List.{get_or-take, length-take-le}
use Rattle.workarea.specs.Area.{Cells}
use Rattle.workarea.specs.Heights.{Heights, WithinHeights}

-- a place of the first n is the same in both
height_same : (n : ℕ) (a b : List ℕ) → take n a ≡ take n b → (p : ℕ) → p < n → get_or a p 0 ≡ get_or b p 0
height_same n a b e p h = sym (get_or-take n a p 0 h) ∙ ap (λ l. get_or l p 0) e ∙ get_or-take n b p 0 h

-- so no height is more than the width
pub heights-same : (q : ℕ) (a b : List ℕ) → take (2 * q) a ≡ take (2 * q) b → 2 * q ≤ length a → Heights q b → Heights q a
heights-same q a b e room low = record { enough = room; low = λ p h. rw (height_same (2 * q) a b e p h) (low.low p h) }

-- and they bound the same upper parts
pub within-same : (q : ℕ) (a b : List ℕ) (S : Cells q) → take (2 * q) a ≡ take (2 * q) b → WithinHeights q b S → WithinHeights q a S
within-same q a b S e within =
    record { above = λ p r i hp hr hi past. within.above p r i hp hr hi (rw (height_same (2 * q) a b e p hp) at past) }

-- a list in which the first n places were made those of another begins with the same
pub same-first : (n : ℕ) (a b : List ℕ) → n ≤ length a → take n (take n a ++ drop n b) ≡ take n a
same-first n a b room = take_at (take n a) (drop n b) n (length-take-le n a room)
