-- `tape_write` meets its contract: it passes the answer of writing on as an integer. Assumes nothing.
use mathlib.Core.Path.{◌≡◌, refl, sym, ◌∙◌}
use Prim.Native.Nat.{ℕ, ◌≤◌}
use native.Mathlib.Omega.{arith}
use Rattle.std.specs.Prelude.{Result, Ok, Err}
use Rattle.refusals.specs.declared.Refusal.{Refusal}
use Rattle.block.proofs.Writes.{told-length}
use Rattle.results.specs.Results.{CountFits}
use Rattle.tape.proofs.tape_write.Goals as goal

-- a length that is told is small
small-fits : (answer : Result ℕ Refusal) → ((bytes : ℕ) → answer ≡ Ok bytes → bytes ≤ 32776) → CountFits answer
small-fits (Ok bytes) small = omega (arith, small bytes refl)
small-fits (Err why) small = tt

pub of_count-requires : goal.of_count-requires
of_count-requires c = small-fits c.write.result (λ n is. (told-length _ _ n (sym c.write.ensures.answered ∙ is)).0)
