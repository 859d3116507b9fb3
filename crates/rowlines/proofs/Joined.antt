-- Joined lists: one more at the end, and lists that agree.
-- Assumes nothing.
use mathlib.Core.Path.{◌≡◌, refl, sym, ap, ◌∙◌}
use mathlib.Core.List.{List, ◌++◌, append_assoc, append-nil}
use Prim.Native.Nat.{ℕ, zero, suc, ◌+◌, ◌<◌}
use native.Mathlib.Nat.{zero-add, add-zero}
use native.Mathlib.Numerals.{add-one}
use native.Mathlib.Omega.{arith}
use Rattle.lists.specs.Tables.{join_from, join}

module _ {ℓ} {A : Type ℓ} where
  -- one more at the end, from anywhere
  join_from-more : (i n : ℕ) (g : ℕ → List A) → join_from i (suc n) g ≡ join_from i n g ++ g (i + n)
  unfolding join_from
  join_from-more i zero g = append-nil (g i) ∙ (rw (add-zero i))
  join_from-more i (suc n) g =
      let e : suc i + n ≡ i + suc n = omega arith in
      ap (λ (l : List A). g i ++ l) (join_from-more (suc i) n g)
      ∙ sym (append_assoc (g i) (join_from (suc i) n g) (g (suc i + n)))
      ∙ ap (λ (k : ℕ). (g i ++ join_from (suc i) n g) ++ g k) e

  -- one more at the end
  pub join_more : (n : ℕ) (g : ℕ → List A) → join (n + 1) g ≡ join n g ++ g n
  unfolding join
  join_more n g = rw (add-one n) (join_from-more 0 n g ∙ ap (λ (k : ℕ). join_from 0 n g ++ g k) (zero-add n))

  -- the same lists joined, from anywhere
  join_from-same : (i n : ℕ) (g h : ℕ → List A) → ((k : ℕ) → k < i + n → g k ≡ h k) → join_from i n g ≡ join_from i n h
  unfolding join_from
  join_from-same i zero g h same = refl
  join_from-same i (suc n) g h same =
      let rest = join_from-same (suc i) n g h (λ k l. same k (omega arith)) in
      rw (same i (omega arith), rest)

  -- the same lists joined
  pub join-same : (n : ℕ) (g h : ℕ → List A) → ((k : ℕ) → k < n → g k ≡ h k) → join n g ≡ join n h
  unfolding join
  join-same n g h same = join_from-same 0 n g h (λ k l. same k (omega arith))
