-- A list that is written over from its front, one part after the other, and a part that was lent and came back.
-- Assumes nothing.
use mathlib.Core.Path.{◌≡◌, sym, ap, ap₂, ◌∙◌}
use mathlib.Core.List.{List, ◌++◌, append_assoc}
use Prim.Native.Nat.{ℕ, ◌+◌, ◌-◌, ◌≤◌}
use native.Mathlib.Nat.{le_refl}
use native.Mathlib.Omega.{arith}
use lib.ListN.{length, take, drop}
use lib.Seq.{paste, length-take-le, take_at, drop_at, take_all, take-take, drop-drop, take-add}

module _ {ℓ} {A : Type ℓ} where
  -- the first n of w stand over those of l, and the next m follow
  pub over-next : (w l : List A) (n m : ℕ) → n ≤ length w
      → paste (take n w ++ drop n l) n (take m (drop n w)) m ≡ take (n + m) w ++ drop (n + m) l
  over-next w l n m fits =
      let d : List A = take n w ++ drop n l in
      let long : length (take n w) ≡ n = length-take-le n w fits in
      let front : take n d ≡ take n w = take_at (take n w) (drop n l) n long in
      let behind : drop (n + m) d ≡ drop (n + m) l =
      sym (drop-drop m n d) ∙ ap (drop m) (drop_at (take n w) (drop n l) n long) ∙ drop-drop m n l
      in
      ap₂ (λ (a b : List A). a ++ b)
      (ap₂ (λ (a b : List A). a ++ b) front (take-take m m (drop n w) (le_refl m)) ∙ sym (take-add n m w))
      behind

  -- the m elements from place n up to place e, written over by as many others
  pub part-pasted : (l part new : List A) (n e m : ℕ) → e - n ≡ m → part ≡ new → length new ≡ m
      → take n l ++ (part ++ drop (e - n) (drop n l)) ≡ paste l n new m
  part-pasted l part new n e m all is long =
      sym (append_assoc (take n l) part (drop (e - n) (drop n l)))
      ∙ ap₂ (λ (a b : List A). take n l ++ a ++ b) (is ∙ sym (take_all m new (omega arith)))
      (ap (λ (k : ℕ). drop k (drop n l)) all ∙ drop-drop m n l)
