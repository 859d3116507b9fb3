-- `products::part_of` meets its contract: the goals that the check leaves open. Assumes nothing.
use mathlib.Core.Path.{◌≡◌, sym, ap, ◌∙◌}
use mathlib.Core.Logic.{inr}
use Prim.Native.Nat.{ℕ, ◌<◌}
use native.Mathlib.Omega.{arith}
use lib.ListN.{get_or, replicate, get_or-replicate}
use lib.Bits.{bit_xor}
use Rattle.lists.specs.Tables.{put}
use Rattle.lists.proofs.Put.{put-none, put_next, put-out}
use Rattle.symbols.specs.Sizes.{most_symbols}
use Rattle.symbols.specs.Tables.{places_on}
use Rattle.products.proofs.part_of.Goals as goal

-- what is added to a place that is not yet passed stands there
added : (f : ℕ → ℕ) (i a : ℕ) → i < most_symbols → bit_xor (get_or (put (replicate most_symbols 0) 0 i f) i 0) a ≡ a
added f i a h = ap (λ x. bit_xor x a) (put-out (replicate most_symbols 0) 0 i f i 0 (inr (omega arith)) ∙ get_or-replicate most_symbols i 0 0 h)

pub loop-i-init : goal.loop-i-init
loop-i-init g c = sym (put-none _ _ _)

pub loop-i-preserved : goal.loop-i-preserved
unfolding places_on
loop-i-preserved g c =
    let s = c.loop-i in
    let part = places_on c.args.table.now c.args.start in
    rw s.invariant (put_next (replicate most_symbols 0) s.i part _ (added part s.i (part s.i) (omega arith)))
