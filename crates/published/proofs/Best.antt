-- The choice among the symbols by their scores, whatever the scores are: number by number only a larger score displaces the best
-- so far, so that the smallest number among equals stays.
use mathlib.Core.Path.{◌≡◌, refl, sym, ◌∙◌}
use mathlib.Core.Logic.{◌≢◌}
use mathlib.Core.Bool.{cond}
use Prim.Native.Nat.{ℕ, zero, suc, ◌-◌, ◌≤◌, ◌<◌}
use native.Mathlib.Omega.{arith}
use native.Mathlib.Decide.{dec_lt, ℕ_discrete}
use lib.Dec.{ltb}
use borrow.Author.Tests.{lt-ltb, le-ltb}
use Rattle.published.specs.Pairing.{best}

-- the best of one symbol
pub best-first : (score : ℕ → ℕ) → 0 ≡ best score 0
unfolding best
best-first score = refl

best-next : (score : ℕ → ℕ) (n : ℕ) → best score (suc n) ≡ cond (ltb (score (best score n)) (score (suc n))) (suc n) (best score n)
unfolding best
best-next score n = refl

-- a larger score displaces the best
pub best-higher : (score : ℕ → ℕ) (n m : ℕ) → m ≡ best score (n - 1) → 0 < n → score m < score n → n ≡ best score n
best-higher score zero m e h l = absurd (omega arith)
best-higher score (suc n) m e h l =
    let z : suc n - 1 ≡ n = omega arith in
    let k : score (best score n) < score (suc n) = rw (← rw z at e) l in
    sym (best-next score n ∙ (rw (lt-ltb (score (best score n)) (score (suc n)) k)))

-- an equal or smaller one does not
pub best-kept : (score : ℕ → ℕ) (n m : ℕ) → m ≡ best score (n - 1) → 0 < n → score n ≤ score m → m ≡ best score n
best-kept score zero m e h l = absurd (omega arith)
best-kept score (suc n) m e h l =
    let z : suc n - 1 ≡ n = omega arith in
    let y : m ≡ best score n = rw z at e in
    let k : score (suc n) ≤ score (best score n) = rw (← y) l in
    y ∙ sym (best-next score n ∙ (rw (le-ltb (score (best score n)) (score (suc n)) k)))

-- no symbol but 0 has a score: 0
pub best_none : (score : ℕ → ℕ) (n : ℕ) → ((a : ℕ) → a ≤ n → a ≢ 0 → score a ≡ 0) → best score n ≡ 0
unfolding best
best_none score zero none = refl
best_none score (suc n) none =
    let before = best_none score n (λ a l. none a (omega arith)) in
    rw (before, none (suc n) (omega arith) (omega arith), le-ltb (score 0) 0 (omega arith))

-- m is one of the symbols from 0 to n, and none of them has a larger score
pub record Greatest (score : ℕ → ℕ) (n m : ℕ) : Type 0 where
  pub among : m ≤ n
  pub greatest : (b : ℕ) → b ≤ n → score b ≤ score m

-- with one symbol more, the greatest so far or the new one is such a one
greatest-next : (score : ℕ → ℕ) (n m a : ℕ) → Greatest score n m → a ≤ suc n → score m ≤ score a → score (suc n) ≤ score a
    → Greatest score (suc n) a
greatest-next score n m a before l old new = record {
  among = l;
  greatest = λ b h. elim (ℕ_discrete b (suc n)) [
    | yes e ↦ rw e new
    | no ne ↦ omega (arith, before.greatest b (omega arith))
  ];
}

-- the best is such a one; which way ties go is not used
pub best-greatest : (score : ℕ → ℕ) (n : ℕ) → Greatest score n (best score n)
unfolding best
best-greatest score zero = record { among = omega arith; greatest = λ b l. let e : b ≡ 0 = omega arith in rw e (omega arith) }
best-greatest score (suc n) =
    let m = best score n in
    let before = best-greatest score n in
    elim (dec_lt (score m) (score (suc n))) [
      | yes taller ↦
          rw (lt-ltb (score m) (score (suc n)) taller) (greatest-next score n m (suc n) before (omega arith) (omega arith) (omega arith))
      | no lower ↦
          rw (le-ltb (score m) (score (suc n)) (omega arith))
          (greatest-next score n m m before (omega (arith, before.among)) (omega arith) (omega arith))
    ]

-- where one symbol's score is above every other's, it alone is such a one: every way to decide ties gives it
pub only-greatest : (score : ℕ → ℕ) (n a : ℕ) → a ≤ n → ((b : ℕ) → b ≤ n → b ≢ a → score b < score a)
    → (m : ℕ) → Greatest score n m → m ≡ a
only-greatest score n a l above m G = elim (ℕ_discrete m a) [
  | yes e ↦ e
  | no ne ↦ absurd (omega (arith, above m G.among ne, G.greatest a l))
]
