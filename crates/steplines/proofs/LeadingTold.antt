-- The degrees in a step's line are those of the leading terms after the step, as demand 3 has them: number i that of f_i in its
-- upper part at y^i, number q + i that of g_i in its lower part at y^i. A polynomial has one leading term, so no other degrees
-- could stand there.
-- Assumes nothing.
use mathlib.Core.Path.{◌≡◌, ap, sym, ◌∙◌}
use mathlib.Core.List.{List, ◌++◌}
use Prim.Native.Nat.{ℕ, ◌+◌, ◌≤◌, ◌<◌}
use lib.IntN.{ℤ}
use lib.ListN.{get_or, get_or-append}
use lib.Seq.{get_or-append-add}
use Rattle.lists.specs.Tables.{tab}
use Rattle.lists.proofs.Tables.{length-tab, get_or-tab}
use Rattle.symbols.specs.Rule.{Known, symbols}
use Rattle.published.specs.Start.{Polynomials, step_count, f, g, coefficient}
use Rattle.published.specs.Pairing.{degree_f, degree_g}
use Rattle.published.specs.Meaning.{weight_after, in_upper, in_lower, Leading}
use Rattle.published.proofs.MeaningAfter.{leads-known}
use Rattle.steps.specs.Stop.{state_after}
use Rattle.stepline.specs.StepLine.{degrees}

module _ (q : ℕ) (S : Polynomials (symbols q) q) where
  abbrev fs : List ℕ
  fs = tab q (degree_f (symbols q) q S)

  abbrev gs : List ℕ
  gs = tab q (degree_g (symbols q) q S)

  -- the first q degrees are those of f
  degree-f : (i : ℕ) → i < q → get_or (degrees q S) i 0 ≡ degree_f (symbols q) q S i
  unfolding degrees
  degree-f i h =
      get_or-append fs gs 0 i (rw (length-tab q (degree_f (symbols q) q S)) h) ∙ get_or-tab q (degree_f (symbols q) q S) i 0 h

  -- the other q those of g
  degree-g : (i : ℕ) → i < q → get_or (degrees q S) (q + i) 0 ≡ degree_g (symbols q) q S i
  unfolding degrees
  degree-g i h =
      ap (λ n. get_or (fs ++ gs) (n + i) 0) (sym (length-tab q (degree_f (symbols q) q S))) ∙ get_or-append-add fs gs i 0
      ∙ get_or-tab q (degree_g (symbols q) q S) i 0 h

  -- these numbers are the degrees of the leading terms, first of each f_i and then of each g_i, where z weighs s
  pub record LeadingDegrees (s : ℤ) (numbers : List ℕ) : Type 0 where
    pub of-f : (i : ℕ) → i < q → Leading (symbols q) q s (coefficient (symbols q) q S (f q i)) (in_upper i (get_or numbers i 0))
    pub of-g : (i : ℕ) → i < q → Leading (symbols q) q s (coefficient (symbols q) q S (g q i)) (in_lower i (get_or numbers (q + i) 0))

-- the degrees after t steps
pub degrees-lead : (q : ℕ) → Known q → (u : ℕ) (row : List ℕ) (t : ℕ) → t ≤ step_count q
    → LeadingDegrees q (state_after q u row t).polys (weight_after q t) (degrees q (state_after q u row t).polys)
unfolding state_after
degrees-lead q known u row t h = record {
  of-f = λ i hi. rw (degree-f q (state_after q u row t).polys i hi) (leads-known q known u row t h i hi).0;
  of-g = λ i hi. rw (degree-g q (state_after q u row t).polys i hi) (leads-known q known u row t h i hi).1;
}
