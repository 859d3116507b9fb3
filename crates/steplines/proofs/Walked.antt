-- What the walk from step to step has reached: at its start, and after one step more and its line.
-- Assumes nothing.
use mathlib.Core.Path.{◌≡◌, ap, sym, ◌∙◌}
use mathlib.Core.List.{List, ◌++◌}
use Prim.Native.Nat.{ℕ, zero, suc, ◌+◌, ◌-◌, ◌<◌}
use native.Mathlib.Numerals.{add-one}
use native.Mathlib.Omega.{arith}
use lib.ListN.{length, length-set, length-replicate}
use lib.Seq.{get_or-set_same}
use Rattle.lines.specs.declared.Page.{Page}
use Rattle.lines.specs.Page.{Put, Room}
use Rattle.lines.proofs.Pages.{put_more}
use Rattle.symbols.specs.Rule.{symbols, number, symbol}
use Rattle.published.specs.Start.{start_weight, step_count}
use Rattle.published.specs.Pairing.{vote}
use Rattle.published.specs.Steps.{State, pairings, step, after}
use Rattle.published.specs.Meaning.{vote_on}
use Rattle.published.specs.Picture.{cell_number, picture}
use Rattle.workarea.specs.Area.{Starts, cells_of, numbers, shown}
use Rattle.steps.specs.Stop.{state_after, picture_after}
use Rattle.steps.specs.Step.{vote_after, Stepped, BelowAfter}
use Rattle.steplines.specs.StepLines.{step_lines}
use Rattle.stepline.specs.StepLine.{step_line}
use Rattle.stepline.specs.StepLine.{vote_at}

-- step t + 1 is at the start weight less t
pub weight_is : (q t : ℕ) {count : ℕ} → count ≡ step_count q → count - 1 - t ≡ start_weight q - t
unfolding step_count
weight_is q t {count} e = omega arith

-- after t steps of a row the area shows their state, their lines are written, and the heights bound the upper parts
pub record Reached (q u : ℕ) (row : List ℕ) (t : ℕ) (page : Page) (work heights : List ℕ) (now : Page) : Type 0 where
  pub shows : Starts q work (cells_of q (state_after q u row t).polys)
  pub lines : Put page (step_lines q u row t) now
  pub below : BelowAfter q u row t heights

-- what taking step t + 1 does, whatever the row
abbrev pub TakesStep : (q u t : ℕ) (work heights : List ℕ) (vote : ℕ) (work' heights' : List ℕ) → Type 0
TakesStep q u t work heights vote work' heights' =
    (row rest : List ℕ) → work ≡ picture_after q u row t ++ rest → BelowAfter q u row t heights
    → Stepped q u row t rest vote work' × BelowAfter q u row (t + 1) heights'

-- what writing the line of step s does, whatever the state
abbrev pub PutsLine : (q u s vote : ℕ) (work : List ℕ) (now next : Page) → Type 0
PutsLine q u s vote work now next =
    (state : State (symbols q) q) → Starts q work (cells_of q state.polys) → vote ≡ vote_at q s state
    → Put now (step_line q u s state) next

module _ (q u : ℕ) (row : List ℕ) where
  -- there is a place for each weight's vote
  votes-length : (t : ℕ) → length (state_after q u row t).votes ≡ step_count q
  unfolding state_after after step
  votes-length zero = length-replicate (step_count q) (symbols q).𝟘
  votes-length (suc t) = length-set (state_after q u row t).votes (start_weight q - t) _ ∙ votes-length t

  -- the vote of the step is in its place afterwards
  vote-more : (t : ℕ) → t < step_count q
      → let s = start_weight q - t in
      number q (vote (symbols q) q u s (pairings (symbols q) q u s (state_after q u row t).polys)) ≡ vote_at q s (state_after q u row (suc t))
  unfolding vote_at state_after after step
  vote-more t h =
      let s = start_weight q - t in
      let inside : s < length (state_after q u row t).votes = unfold step_count in omega (arith, votes-length t) in
      ap (number q) (sym (get_or-set_same (state_after q u row t).votes s (vote (symbols q) q u s (pairings (symbols q) q u s (state_after q u row t).polys)) (symbol q 0) inside))

  -- an area that shows the state after t steps starts with its picture
  picture-of : {l : List ℕ} (t : ℕ) (starts : Starts q l (cells_of q (state_after q u row t).polys)) → l ≡ picture_after q u row t ++ starts.rest
  unfolding picture_after picture cell_number cells_of shown numbers
  picture-of t starts = starts.is

  -- after a step it shows the next state, and the vote is the one of that state
  stepped : {l : List ℕ} {vote : ℕ} (t : ℕ) (rest : List ℕ) → t < step_count q → Stepped q u row t rest vote l
      → Starts q l (cells_of q (state_after q u row (suc t)).polys) × (vote ≡ vote_at q (start_weight q - t) (state_after q u row (suc t)))
  unfolding picture_after picture cell_number cells_of shown numbers vote_after vote_on
  stepped t rest h done = (record { rest = rest; is = rw add-one at done.picture }, done.vote-is ∙ vote-more t h)

  -- the state that a step leaves, with s for its weight
  pub next-state : {page now : Page} {work heights work' heights' : List ℕ} {vote : ℕ} (t s : ℕ) → t < step_count q → s ≡ start_weight q - t
      → Reached q u row t page work heights now → TakesStep q u t work heights vote work' heights'
      → Starts q work' (cells_of q (state_after q u row (suc t)).polys) × (vote ≡ vote_at q s (state_after q u row (suc t)))
      × BelowAfter q u row (t + 1) heights'
  next-state t s h weight so_far takes =
      let taken = takes row so_far.shows.rest (picture-of t so_far.shows) so_far.below in
      let after = stepped t so_far.shows.rest h taken.0 in
      (after.0, rw weight after.1, taken.1)

  -- one step more
  pub reached-more : {page now next : Page} {work heights work' heights' : List ℕ} {vote : ℕ} (t s : ℕ) → t < step_count q → s ≡ start_weight q - t
      → Room page (step_lines q u row t) → Reached q u row t page work heights now
      → TakesStep q u t work heights vote work' heights' → PutsLine q u s vote work' now next
      → Reached q u row (t + 1) page work' heights' next
  unfolding step_lines
  reached-more t s h weight fits so_far takes puts =
      let after = next-state t s h weight so_far takes in
      let line = rw weight at (puts (state_after q u row (suc t)) after.0 after.1) in
      record { shows = rw add-one after.0; lines = rw add-one (put_more fits so_far.lines line); below = after.2 }
