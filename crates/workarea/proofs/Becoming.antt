-- One change of the work area after the other, with the heights of the upper parts.
-- Assumes nothing.
use mathlib.Core.Path.{◌≡◌, sym, ◌∙◌}
use mathlib.Core.List.{List}
use Prim.Native.Nat.{ℕ, ◌*◌, ◌<◌}
use native.Mathlib.Omega.{arith}
use Rattle.symbols.specs.Rule.{symbols}
use Rattle.published.specs.Start.{Polynomials, width}
use Rattle.workarea.specs.Area.{Cells, cells_of, Turns, Becomes}
use Rattle.workarea.specs.Heights.{WithinHeights, BecomesBelow}
use Rattle.workarea.proofs.Cells.{picture-is, shown-same}

-- a change of cells that makes the cells of T of those of S
pub becomes : (q : ℕ) {before after : List ℕ} {S T : Polynomials (symbols q) q} (change : Cells q → Cells q) → Turns q before after change
    → ((p r i : ℕ) → p < 2 * q → r < 2 * q → i < width q → change (cells_of q S) p r i ≡ cells_of q T p r i) → Becomes q before after S T
becomes q {S = S} {T = T} change t same =
    record {
      shows = λ rest e.
          t.shows (cells_of q S) rest (rw (← picture-is q S) e)
          ∙ (rw (shown-same q (change (cells_of q S)) (cells_of q T) same, ← picture-is q T));
    }

-- nothing changes, in the bytes and in the polynomials
pub becomes-same : (q : ℕ) {before : List ℕ} (S T : Polynomials (symbols q) q) → T ≡ S → Becomes q before before S T
becomes-same q S T e = record { shows = λ rest d. rw e d }

-- one change after the other
pub becomes-then : (q : ℕ) {before between after : List ℕ} {S T U : Polynomials (symbols q) q} → Becomes q before between S T → Becomes q between after T U → Becomes q before after S U
becomes-then q b b' = record { shows = λ rest e. b'.shows rest (b.shows rest e) }

-- the same symbols have the same heights
pub below-same : (q : ℕ) (heights : List ℕ) (S T : Cells q) → ((p r i : ℕ) → p < 2 * q → r < 2 * q → i < width q → S p r i ≡ T p r i)
    → WithinHeights q heights S → WithinHeights q heights T
below-same q heights S T same below =
    record { above = λ p r i hp hr hi past. sym (same p r i hp (omega arith) hi) ∙ below.above p r i hp hr hi past }

-- one change after the other
pub becomes-below : (q : ℕ) {before between after heights heights' : List ℕ} {S T U : Polynomials (symbols q) q}
    → BecomesBelow q before between S T heights → BecomesBelow q between after T U heights' → BecomesBelow q before after S U heights'
becomes-below q b b' = record { becomes = becomes-then q b.becomes b'.becomes; below = b'.below }
