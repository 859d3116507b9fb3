-- The parts of a step put together are the definition's step.
-- Assumes nothing.
use mathlib.Core.Path.{◌≡◌, refl, sym, ap, ◌∙◌}
use mathlib.Core.Bool.{Bool, true, false}
use mathlib.Core.List.{List, ◌++◌}
use Prim.Native.Nat.{ℕ, ◌+◌, ◌-◌, ◌<◌}
use native.Mathlib.Numerals.{add-one}
use Rattle.algebra.specs.Weights.{gap}
use Rattle.lists.specs.Tables.{tab}
use Rattle.symbols.specs.Rule.{Known, symbols, Sym, number}
use Rattle.published.specs.Start.{Polynomials, start_weight}
use Rattle.published.specs.Pairing.{Pairing, is_voted, pairing, vote}
use Rattle.published.specs.Steps.{substituted, updated, pairings, step, after}
use Rattle.published.specs.Meaning.{vote_on}
use Rattle.published.proofs.VotedWeights.{voted-no-gap}
use Rattle.workarea.specs.Area.{cells_of, Starts, Narrow, Becomes}
use Rattle.workarea.specs.Heights.{WithinHeights, BecomesBelow}
use Rattle.pair.specs.Pairs.{NumbersOf, pair_at}
use Rattle.steps.specs.Stop.{state_after, picture_after}
use Rattle.steps.specs.Step.{vote_after, Stepped, BelowAfter}
use Rattle.pair.specs.declared.Pair.{Pair}
use Rattle.workarea.proofs.Cells.{picture-is}
use Rattle.workarea.proofs.Becoming.{becomes-then}
use Rattle.steps.proofs.NarrowLaws.{narrow-after}
use Rattle.substitution.proofs.ReplaceLaws.{below-substituted}

-- a vote that is not 0 is of a step at no gap
pub vote-zero : (q u s vote : ℕ) (voted : Bool) → voted ≡ is_voted q u s → (voted ≡ false → vote ≡ 0) → (vote ≡ 0 → ⊥) → gap q s ≡ false
vote-zero q u s vote true e zero ne = voted-no-gap q u s (sym e)
vote-zero q u s vote false e zero ne = absurd (ne (zero refl))

module _ (q u : ℕ) (row : List ℕ) (t : ℕ) where
  -- the polynomials before the step, its weight, its pairs and its vote
  abbrev S : Polynomials (symbols q) q
  S = (state_after q u row t).polys

  abbrev weight : ℕ
  weight = start_weight q - t

  abbrev P : ℕ → Pairing (symbols q) q
  P = pairing (symbols q) q u weight S

  abbrev ω : Sym q
  ω = vote (symbols q) q u weight (tab q P)

  -- the polynomials after it
  step_is : updated (symbols q) q ω (tab q P) (substituted (symbols q) q weight ω S) q ≡ (state_after q u row (t + 1)).polys
  unfolding state_after after step pairings
  step_is = rw (add-one t)

  -- the parts of the step, each by its promise, make the step
  pub assembled : Known q → (rest : List ℕ) (s : ℕ) (voted : Bool) (pairs : List Pair) (v : ℕ) (before between after heights heights' : List ℕ)
      → s ≡ weight → voted ≡ is_voted q u s → before ≡ picture_after q u row t ++ rest → BelowAfter q u row t heights
      → ((S : Polynomials (symbols q) q) (u : ℕ) → Narrow q (cells_of q S) → WithinHeights q heights (cells_of q S) → Starts q before (cells_of q S)
      → is_voted q u s ≡ voted → (i : ℕ) → i < q → NumbersOf q (pair_at pairs i) (pairing (symbols q) q u s S i))
      → ((P : ℕ → Pairing (symbols q) q) (u s : ℕ) → ((i : ℕ) → i < q → NumbersOf q (pair_at pairs i) (P i)) → is_voted q u s ≡ voted
      → v ≡ number q (vote (symbols q) q u s (tab q P)))
      → ((S : Polynomials (symbols q) q) (ω : Sym q) → v ≡ number q ω → WithinHeights q heights (cells_of q S)
      → Becomes q before between S (substituted (symbols q) q s ω S))
      → ((S : Polynomials (symbols q) q) (ω : Sym q) (P : ℕ → Pairing (symbols q) q) → v ≡ number q ω
      → ((i : ℕ) → i < q → NumbersOf q (pair_at pairs i) (P i)) → WithinHeights q heights (cells_of q S)
      → BecomesBelow q between after S (updated (symbols q) q ω (tab q P) S q) heights')
      → Stepped q u row t rest v after × BelowAfter q u row (t + 1) heights'
  unfolding picture_after vote_after vote_on pairings
  assembled known rest s voted pairs v before between after heights heights' es ev e below paired chosen replaced changed =
      let yes : is_voted q u weight ≡ voted = rw (← es) (sym ev) in
      let starts : Starts q before (cells_of q S) = record { rest = rest; is = e ∙ ap (λ (m : List ℕ). m ++ rest) (picture-is q S) } in
      let numbers = (rw es at paired) S u (narrow-after q u row t) below starts yes in
      let is = chosen P u weight numbers yes in
      let done = rw step_is at (changed (substituted (symbols q) q weight ω S) ω P is numbers (below-substituted q known heights S below weight ω)) in (
        record {
          picture = (becomes-then q ((rw es at replaced) S ω is below) done.becomes).shows rest e;
          vote-is = is;
        },
        done.below,
      )
