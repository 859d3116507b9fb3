-- Nothing of a picture is left of the area that it stood in once its places are zero.
-- Assumes nothing.
use mathlib.Core.Path.{◌≡◌, ap, ap₂, ◌∙◌}
use mathlib.Core.List.{List, ◌++◌}
use Prim.Native.Nat.{ℕ, ◌*◌, ◌≤◌}
use native.Mathlib.Omega.{arith}
use lib.ListN.{length, drop, replicate, length-append}
use lib.Seq.{drop_at}
use Rattle.lists.proofs.Grid.{grid, length-grid}
use Rattle.symbols.specs.Rule.{symbols}
use Rattle.published.specs.Start.{width}
use Rattle.published.specs.Picture.{area_size, layout, cell_number, picture}
use Rattle.steps.specs.Stop.{state_after, picture_after}
use Rattle.voting.specs.Voting.{cleared}

-- what stood in the places does not matter
cleared-over : (n : ℕ) (front l : List ℕ) → length front ≡ n → cleared n (front ++ drop n l) ≡ cleared n l
unfolding cleared
cleared-over n front l e = ap (λ m. replicate n 0 ++ m) (drop_at front (drop n l) n e)

-- a picture fills its area
picture-length : (q u : ℕ) (row : List ℕ) (t : ℕ) → length (picture_after q u row t) ≡ area_size q
unfolding picture_after picture layout grid area_size
picture-length q u row t =
    length-grid (2 * q) (2 * q) (width q) (cell_number (symbols q) q (state_after q u row t).polys) ∙ omega arith

module _ (q u : ℕ) (row : List ℕ) (t : ℕ) (work work' : List ℕ) (n : ℕ) (size : n ≡ area_size q)
    (left : work' ≡ picture_after q u row t ++ drop (area_size q) work) where
  -- an area with a picture has room for it
  pub picture-room : n ≤ length work'
  picture-room = omega (arith, size, ap length left ∙ length-append (picture_after q u row t) (drop (area_size q) work), picture-length q u row t)

  -- and none of it is left when the area is cleared
  pub picture-cleared : (work'' : List ℕ) → work'' ≡ cleared n work' → work'' ≡ cleared (area_size q) work
  picture-cleared work'' e =
      e ∙ ap₂ cleared size left ∙ cleared-over (area_size q) (picture_after q u row t) work (picture-length q u row t)
