-- `stepvotes::scores_of` meets its contract: the goals that the check leaves open. Assumes nothing.
use mathlib.Core.Path.{◌≡◌, sym, ap, ◌∙◌}
use Prim.Native.Nat.{ℕ, ◌+◌, ◌*◌, ◌%◌, ◌≤◌, ◌<◌}
use native.Mathlib.Nat.{mod-eq_of_lt, mod-lt}
use native.Mathlib.Omega.{arith}
use lib.ListN.{length, get_or, take, length-set}
use borrow.Author.Rules.{rules}
use Rattle.std.proofs.lemmas.List.{get_or-take, length-take-le}
use Rattle.symbols.specs.Sizes.{most_symbols, most_shift}
use Rattle.symbols.proofs.FieldLaws.{laws-of}
use Rattle.published.specs.Pairing.{positive_part}
use Rattle.pair.specs.declared.Pair.{Pair}
use Rattle.pair.specs.Pairs.{pair_at}
use Rattle.workarea.proofs.Sizes.{sizes}
use Rattle.stepvotes.proofs.ScoreLaws.{converted, score-none, scores-more, bounded-more}
use Rattle.lists.proofs.Tables.{replicate-at}
use Rattle.pair.proofs.Signed.{back, positive-small}
use Rattle.stepvotes.proofs.scores_of.Goals as goal
use Rattle.stepvotes.proofs.scores_of.Goals.{Start, After-unwrap_or}

-- the pairs that the loop goes over are q
long : (c : Start) → length (take c.args.q c.args.pairs) ≡ c.args.q
long c = length-take-le c.args.q c.args.pairs (omega (arith, sizes _ c.requires.known))

pub slice_bounds-pair-items-end : goal.slice_bounds-pair-items-end
slice_bounds-pair-items-end c = sym (long (goal.at.slice_bounds-pair-items-end c).Start)

pub loop-pair-init : goal.loop-pair-init
loop-pair-init c =
    (search rules, λ a. rw (replicate-at {A = ℕ} most_symbols a 0) (omega arith), λ P numbers a h. replicate-at most_symbols a 0 ∙ score-none _ P a)

-- the pair of this turn
turn-is : (c : After-unwrap_or) → (c.loop-pair.pair-index < c.args.q)
    × ((d : Pair) → get_or (take c.args.q c.args.pairs) c.loop-pair.pair-index d ≡ get_or c.args.pairs c.loop-pair.pair-index d)
turn-is c =
    let more : c.loop-pair.pair-index < c.args.q = omega (arith, c.loop-pair-test.true, length-take-le c.args.q c.args.pairs (omega (arith, sizes _ c.requires.known))) in
    (more, λ d. get_or-take c.args.q c.args.pairs c.loop-pair.pair-index d more)

pub loop-pair-preserved : goal.loop-pair-preserved
loop-pair-preserved c =
    let i = c.loop-pair.pair-index in
    let pair = pair_at c.args.pairs i in
    let turn = turn-is (goal.at.loop-pair-preserved c).After-unwrap_or in
    let held = c.requires.held i turn.0 in
    let w-is : c.from-w.result ≡ pair.w % most_symbols = rw turn.1 at c.from-w.ensures in
    let gain : c.unwrap_or.result ≡ positive_part pair.c = c.unwrap_or.ensures ∙ converted pair.c _ held.c (rw (turn.1, back pair.c held.c) at c.try_from.ensures) in
    let few : c.unwrap_or.result ≤ most_shift = omega (arith, gain, positive-small pair.c, held.c) in
    let room : c.from-w.result < length c.loop-pair.scores = omega (arith, w-is, mod-lt pair.w {m = most_symbols} (omega arith)) in
    let n : most_shift * i + most_shift ≡ most_shift * (i + 1) = omega arith in (
      simp length-set c.loop-pair.invariant.0,
      rw (← n) (bounded-more c.loop-pair.scores c.from-w.result _ _ room few c.loop-pair.invariant.1),
      λ P numbers a h.
          let p = numbers i turn.0 in
          let below : pair.w < most_symbols = rw p.w (omega (arith, (laws-of _ c.requires.known).number-below (P i).w, sizes _ c.requires.known)) in
          scores-more _ P c.loop-pair.scores i c.from-w.result _ (w-is ∙ mod-eq_of_lt below ∙ p.w) (gain ∙ ap positive_part p.c)
          (λ b hb. c.loop-pair.invariant.2 P numbers b (omega arith)) a (omega arith),
    )

pub returns : goal.returns
returns c =
    let e : c.loop-pair.pair-index ≡ c.args.q = omega (arith, c.loop-pair-test.false, c.loop-pair.auto.pair-index-end, long (goal.at.returns c).Start) in
    rw e at c.loop-pair.invariant.2
