-- `updates::change_all` meets its contract: the goals that the check leaves open. Assumes nothing.
use mathlib.Core.Path.{◌≡◌, refl, ◌∙◌}
use Prim.Native.Nat.{◌<◌}
use native.Mathlib.Omega.{arith}
use lib.ListN.{length, get_or, take}
use borrow.Author.Rules.{rules}
use Rattle.std.proofs.lemmas.List.{get_or-take, length-take-le}
use Rattle.lists.specs.Tables.{tab}
use Rattle.symbols.specs.Rule.{symbols}
use Rattle.published.specs.Steps.{updated}
use Rattle.pair.specs.declared.Pair.{Pair}
use Rattle.workarea.proofs.Sizes.{sizes}
use Rattle.workarea.proofs.Becoming.{becomes-same, becomes-below}
use Rattle.updates.proofs.ChangeLaws.{updated_none, updated-more}
use Rattle.updates.proofs.change_all.Goals as goal
use Rattle.updates.proofs.change_all.Goals.{Start, In-loop-i}

-- the pairs that the loop goes over are q
long : (c : Start) → length (take c.args.products.q c.args.pairs) ≡ c.args.products.q
long c = length-take-le c.args.products.q c.args.pairs (omega (arith, sizes _ c.requires.area.known))

pub loop-i-init : goal.loop-i-init
loop-i-init c = (
  search rules,
  refl,
  λ S ω P ev n below.
      let none = updated_none _ S ω (tab _ P) in
      record { becomes = becomes-same _ S _ none; below = rw none below },
)

-- the pair of this turn
turn-is : (c : In-loop-i) → (c.loop-i.i < c.args.products.q) × ((d : Pair) → get_or (take c.args.products.q c.args.pairs) c.loop-i.i d ≡ get_or c.args.pairs c.loop-i.i d)
turn-is c =
    let more : c.loop-i.i < c.args.products.q = omega (arith, c.loop-i-test.true, length-take-le c.args.products.q c.args.pairs (omega (arith, sizes _ c.requires.area.known))) in
    (more, λ d. get_or-take c.args.products.q c.args.pairs c.loop-i.i d more)

pub loop-i-preserved : goal.loop-i-preserved
loop-i-preserved c =
    let i = c.loop-i.i in
    let turn = turn-is (goal.at.loop-i-preserved c).In-loop-i in (
      search rules,
      c.change.ensures.q_stays ∙ c.loop-i.invariant.1,
      λ S ω P ev n below.
          let done = c.loop-i.invariant.2 S ω P ev n below in
          rw (← updated-more _ S ω P i turn.0)
          (becomes-below _ done (c.change.ensures.becomes_below (updated (symbols _) _ ω (tab _ P) S i) ω (P i) ev (rw turn.1 (n i turn.0)) done.below)),
    )
