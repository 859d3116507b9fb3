-- The degree of a row, and that a search from behind finds it.
-- Assumes nothing.
use mathlib.Core.Path.{◌≡◌, refl, sym, ◌∙◌, subst}
use mathlib.Core.Bool.{Bool, true, false}
use mathlib.Core.Logic.{⊎_elim}
use Prim.Native.Nat.{ℕ, zero, suc, ◌<◌, ◌≤◌}
use native.Mathlib.Omega.{arith}
use borrow.Author.Tests.{eq-eqb, ne_eqb}
use Rattle.lists.proofs.Numbers.{lt-or-ge, same_or_not}
use Rattle.std.specs.Prelude.{List, length, get_or, Option, Some, None, MatchOption, unwrap_or}
use Rattle.published.specs.Pairing.{degree}

skip : (a : ℕ → ℕ) (n : ℕ) → a n ≡ 0 → degree a (suc n) ≡ degree a n
unfolding degree
skip a n h = subst (λ (t : Bool). ◌≡◌ {A = ℕ} (elim t [ true ↦ degree a n | false ↦ n ]) (degree a n)) (sym (eq-eqb (a n) 0 h)) refl

found : (a : ℕ → ℕ) (n : ℕ) → (a n ≡ 0 → ⊥) → degree a (suc n) ≡ n
unfolding degree
found a n h = subst (λ (t : Bool). ◌≡◌ {A = ℕ} (elim t [ true ↦ degree a n | false ↦ n ]) n) (sym (ne_eqb (a n) 0 h)) refl

-- equal coefficients have the same degree
pub degree-cong : (a b : ℕ → ℕ) → ((i : ℕ) → a i ≡ b i) → (n : ℕ) → degree a n ≡ degree b n
unfolding degree
degree-cong a b h zero = refl
degree-cong a b h (suc n) =
    ⊎_elim
    (λ (e : a n ≡ 0). skip a n e ∙ degree-cong a b h n ∙ sym (skip b n (sym (h n) ∙ e)))
    (λ ne. found a n ne ∙ sym (found b n (λ e. ne (h n ∙ e))))
    (same_or_not (a n) 0)

-- zeros on top are left out
pub degree-above : (a : ℕ → ℕ) (h n : ℕ) → h ≤ n → ((i : ℕ) → h ≤ i → i < n → a i ≡ 0) → degree a n ≡ degree a h
degree-above a h zero l zeros = let e : h ≡ 0 = omega arith in rw e
degree-above a h (suc n) l zeros =
    ⊎_elim
    (λ (e : h ≡ suc n). rw e)
    (λ ne. let k : h ≤ n = small ne in skip a n (zeros n k (omega arith)) ∙ degree-above a h n k (λ i p q. zeros i p (omega arith)))
    (same_or_not h (suc n))
  where
    small : (h ≡ suc n → ⊥) → h ≤ n
    small ne = ⊎_elim (λ (b : n < h). absurd (ne (omega arith))) (λ (b : h ≤ n). b) (lt-or-ge n h)

-- a search from behind for what is not zero gave this
abbrev pub Last : List ℕ → Option ℕ → Type 0
Last row r =
    MatchOption r ((k : ℕ) → k < length row → get_or row k 0 ≡ 0)
    (λ i. (i < length row) × (get_or row i 0 ≡ 0 → ⊥) × ((k : ℕ) → i < k → k < length row → get_or row k 0 ≡ 0))

-- so it gave the degree, 0 where there is nothing but zeros
pub degree-last : (a : ℕ → ℕ) (row : List ℕ) (r : Option ℕ) → Last row r → ((k : ℕ) → k < length row → get_or row k 0 ≡ a k)
    → degree a (length row) ≡ unwrap_or r 0
unfolding degree
degree-last a row None zeros same = degree-above a 0 (length row) (omega arith) (λ k h l. sym (same k l) ∙ zeros k l)
degree-last a row (Some i) last same =
    degree-above a (suc i) (length row) (omega arith) (λ k h l. sym (same k l) ∙ last.2 k (omega arith) l)
    ∙ found a i (λ e. last.1 (same i last.0 ∙ e))
