-- Which weights are voted: the non-gaps up to u.
-- Assumes nothing.
use mathlib.Core.Path.{◌≡◌, ap, ◌∙◌}
use mathlib.Core.Bool.{true, false, not, ◌&&◌, and-false, and-eq-true_iff}
use Prim.Native.Nat.{ℕ, ◌≤◌, ◌<◌}
use lib.Dec.{leb}
use borrow.Author.Tests.{leb-true, le-leb, lt-leb, not-true}
use Rattle.algebra.specs.Weights.{gap, nongap}
use Rattle.published.specs.Pairing.{is_voted}

module _ (q u s : ℕ) where
  -- a weight above u is not voted
  pub unvoted-above : u < s → is_voted q u s ≡ false
  unfolding is_voted
  unvoted-above h = rw (lt-leb s u h)

  -- nor is a gap
  pub unvoted-gap : gap q s ≡ true → is_voted q u s ≡ false
  unfolding is_voted nongap
  unvoted-gap t = ap (λ b. leb s u && not b) t ∙ and-false (leb s u)

  -- a non-gap of at most u is voted
  pub is-voted : s ≤ u → nongap q s ≡ true → is_voted q u s ≡ true
  unfolding is_voted
  is-voted h t = rw (le-leb s u h) t

  -- a voted weight is at most u
  pub voted-below : is_voted q u s ≡ true → s ≤ u
  unfolding is_voted
  voted-below t = leb-true s u ((and-eq-true_iff (leb s u) (nongap q s)).0 t).0

  -- and a non-gap
  pub voted-nongap : is_voted q u s ≡ true → nongap q s ≡ true
  unfolding is_voted
  voted-nongap t = ((and-eq-true_iff (leb s u) (nongap q s)).0 t).1

  -- so it is no gap
  pub voted-no-gap : is_voted q u s ≡ true → gap q s ≡ false
  unfolding nongap
  voted-no-gap t = not-true (gap q s) (voted-nongap t)
