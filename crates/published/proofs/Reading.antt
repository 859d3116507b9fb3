-- What stands where: the coefficients of polynomials that are made by a rule, and the 2q polynomials after one or two of them
-- are new.
use mathlib.Core.Path.{◌≡◌, refl, sym, ap, ap₂, ◌∙◌}
use mathlib.Core.Logic.{◌≢◌}
use mathlib.Core.Bool.{Bool, true, false}
use mathlib.Core.List.{List, []}
use Prim.Native.Nat.{ℕ, ◌+◌, ◌*◌, ◌-◌, ◌/◌, ◌%◌, ◌≤◌, ◌<◌}
use native.Mathlib.Nat as Nat
use native.Mathlib.Omega.{arith}
use native.Mathlib.Decide.{dec_lt}
use lib.Dec.{eqb}
use borrow.Author.Tests.{eq-eqb, ne_eqb}
use lib.ListN.{get_or, get_or-eq_default}
use Rattle.algebra.specs.Symbols.{Symbols}
use Rattle.lists.specs.Tables.{tab}
use Rattle.lists.proofs.Tables.{length-tab, get_or-tab}
use Rattle.published.specs.Start.{Polynomial, Polynomials, width, lower, f, g, coefficient, polynomial, polynomials}
use Rattle.published.specs.Steps.{replaced, exchanged}
use Rattle.published.proofs.Parts.{Parts, Narrow}

-- the row of y^j in a part of a polynomial is one of 2q
pub row_below : (q : ℕ) {part j : ℕ} → part ≤ lower → j < q → part * q + j < 2 * q
row_below q {part} {j} hp hj = omega (arith, Nat.mul-le-mul_right q hp)

-- its part
pub row-part : (q part : ℕ) {j : ℕ} → j < q → (part * q + j) / q ≡ part
row-part q part {j} hj =
    Nat.mul-add-div_right (omega arith) part j ∙ ap (λ n. part + n) (Nat.div-eq_of_lt hj) ∙ Nat.add-zero part

-- its power of y
pub row-power : (q part : ℕ) {j : ℕ} → j < q → (part * q + j) % q ≡ j
row-power q part {j} hj = Nat.mul-add-mod_self_right part q j ∙ Nat.mod-eq_of_lt hj

-- each of the 2q polynomials is some g_j or some f_i
pub each-polynomial : (q : ℕ) (P : ℕ → Type 0) → ((j : ℕ) → j < q → P (g q j)) → ((i : ℕ) → i < q → P (f q i))
    → (p : ℕ) → p < 2 * q → P p
each-polynomial q P hg hf p hp = elim (dec_lt p q) [
  | yes l ↦ hg p l
  | no l ↦ let e : f q (p - q) ≡ p = omega arith in rw e at (hf (p - q) (omega arith))
]

-- a table has nothing past its end
past-tab : {A : Type 0} (n : ℕ) (F : ℕ → A) (k : ℕ) (d : A) → n ≤ k → get_or (tab n F) k d ≡ d
past-tab n F k d h = get_or-eq_default (tab n F) d (rw length-tab h)

module _ (𝓢 : Symbols) (q : ℕ) where
  open 𝓢 use {K, 𝟘}

  -- the coefficients of one polynomial
  held : Polynomial 𝓢 q → Parts 𝓢 q
  held P part j i = get_or (get_or P (part * q + j) []) i 𝟘

  -- those that a state holds
  coefficient-held : (S : Polynomials 𝓢 q) (p : ℕ) → coefficient 𝓢 q S p ≡ held (get_or S p [])
  unfolding coefficient held
  coefficient-held S p = refl

  -- equal polynomials have equal coefficients
  pub coefficient-cong : (S T : Polynomials 𝓢 q) (p p' : ℕ) → get_or S p [] ≡ get_or T p' []
      → coefficient 𝓢 q S p ≡ coefficient 𝓢 q T p'
  coefficient-cong S T p p' e = coefficient-held S p ∙ ap held e ∙ sym (coefficient-held T p')

  -- a row of a polynomial that is made by a rule
  made_row : (F : Parts 𝓢 q) (part j : ℕ) → part ≤ lower → j < q
      → get_or (polynomial 𝓢 q F) (part * q + j) [] ≡ tab (width q) (F part j)
  unfolding polynomial
  made_row F part j hp hj =
      get_or-tab (2 * q) (λ r. tab (width q) (F (r / q) (r % q))) (part * q + j) [] (row_below q hp hj)
      ∙ ap₂ (λ a b. tab (width q) (F a b)) (row-part q part hj) (row-power q part hj)

  -- a rule that gives nothing past the width is held whole
  held-made : (F : Parts 𝓢 q) → Narrow 𝓢 q F → (part j i : ℕ) → part ≤ lower → j < q
      → held (polynomial 𝓢 q F) part j i ≡ F part j i
  unfolding held
  held-made F past part j i hp hj =
      ap (λ (l : List K). get_or l i 𝟘) (made_row F part j hp hj) ∙ elim (dec_lt i (width q)) [
        | yes l ↦ get_or-tab (width q) (F part j) i 𝟘 l
        | no l ↦ past-tab (width q) (F part j) i 𝟘 (omega arith) ∙ sym (past part j i hp hj (omega arith))
      ]

  -- so are the coefficients of a state that has it
  pub coefficient-made : (S : Polynomials 𝓢 q) (p : ℕ) (F : Parts 𝓢 q) → get_or S p [] ≡ polynomial 𝓢 q F → Narrow 𝓢 q F
      → (part j i : ℕ) → part ≤ lower → j < q → coefficient 𝓢 q S p part j i ≡ F part j i
  coefficient-made S p F e past part j i hp hj =
      ap (λ (P : Parts 𝓢 q). P part j i) (coefficient-held S p ∙ ap held e) ∙ held-made F past part j i hp hj

  -- polynomial p of the 2q that are made by a rule
  pub made_all : (F : ℕ → Parts 𝓢 q) (p : ℕ) → p < 2 * q → get_or (polynomials 𝓢 q F) p [] ≡ polynomial 𝓢 q (F p)
  unfolding polynomials
  made_all F p hp = get_or-tab (2 * q) (λ p. polynomial 𝓢 q (F p)) p [] hp

  module _ (i : ℕ) (new : Polynomial 𝓢 q) (S : Polynomials 𝓢 q) where
    -- polynomial p once f_i is new, by the test for f_i
    with-new : Bool → ℕ → Polynomial 𝓢 q
    with-new here p = elim here [ true ↦ new | false ↦ get_or S p [] ]

    -- so every polynomial is
    replaced-at : (p : ℕ) → p < 2 * q → get_or (replaced 𝓢 q i new S) p [] ≡ with-new (eqb p (f q i)) p
    unfolding replaced with-new
    replaced-at p hp = get_or-tab (2 * q) (λ p. with-new (eqb p (f q i)) p) p [] hp

    -- the new f_i
    pub replaced-here : i < q → get_or (replaced 𝓢 q i new S) (f q i) [] ≡ new
    unfolding with-new
    replaced-here hi = replaced-at (f q i) (omega arith) ∙ ap (λ b. with-new b (f q i)) (eq-eqb (f q i) (f q i) refl)

    -- the others stay
    pub replaced-other : (p : ℕ) → p < 2 * q → p ≢ f q i → get_or (replaced 𝓢 q i new S) p [] ≡ get_or S p []
    unfolding with-new
    replaced-other p hp ne = replaced-at p hp ∙ ap (λ b. with-new b p) (ne_eqb p (f q i) ne)

  module _ (i j : ℕ) (new : Polynomial 𝓢 q) (S : Polynomials 𝓢 q) where
    -- polynomial p once f_i is new and the old f_i stands for g_j, by the tests for f_i and g_j
    with-both : Bool → Bool → ℕ → Polynomial 𝓢 q
    with-both is_f is_g p = elim is_f [ true ↦ new | false ↦ elim is_g [ true ↦ get_or S (f q i) [] | false ↦ get_or S p [] ] ]

    -- so every polynomial is
    exchanged-at : (p : ℕ) → p < 2 * q → get_or (exchanged 𝓢 q i j new S) p [] ≡ with-both (eqb p (f q i)) (eqb p (g q j)) p
    unfolding exchanged with-both
    exchanged-at p hp = get_or-tab (2 * q) (λ p. with-both (eqb p (f q i)) (eqb p (g q j)) p) p [] hp

    -- the new f_i
    pub exchanged-f : i < q → get_or (exchanged 𝓢 q i j new S) (f q i) [] ≡ new
    unfolding with-both
    exchanged-f hi =
        exchanged-at (f q i) (omega arith)
        ∙ ap (λ b. with-both b (eqb (f q i) (g q j)) (f q i)) (eq-eqb (f q i) (f q i) refl)

    -- the new g_j is the old f_i
    pub exchanged-g : j < q → get_or (exchanged 𝓢 q i j new S) (g q j) [] ≡ get_or S (f q i) []
    unfolding with-both
    exchanged-g hj =
        let apart = ne_eqb (g q j) (f q i) (λ e. absurd (omega arith)) in
        exchanged-at (g q j) (omega arith) ∙ ap₂ (λ a b. with-both a b (g q j)) apart (eq-eqb (g q j) (g q j) refl)

    -- the others stay
    pub exchanged-other : (p : ℕ) → p < 2 * q → p ≢ f q i → p ≢ g q j → get_or (exchanged 𝓢 q i j new S) p [] ≡ get_or S p []
    unfolding with-both
    exchanged-other p hp nf ng =
        exchanged-at p hp ∙ ap₂ (λ a b. with-both a b p) (ne_eqb p (f q i) nf) (ne_eqb p (g q j) ng)
