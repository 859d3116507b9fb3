-- One row more in the verdict, by the two tests of its state.
-- Assumes nothing.
use mathlib.Core.Bool.{Bool, true, false}
use Prim.Native.Nat.{ℕ}
use Rattle.answers.specs.declared.Verdict.{Verdict}
use Rattle.answers.specs.declared.Verdict.TheVariants.{Differs, Unreadable}

-- what a row makes of the verdict so far, by whether its state is 0 and whether it is 1: where it is equal, what `equal` says
abbrev pub by_state : Bool → Bool → ℕ → Verdict → Verdict
by_state is_zero is_one r equal =
    elim is_zero as (λ b. Verdict) [
      | true ↦ equal
      | false ↦ elim is_one as (λ b. Verdict) [ true ↦ Differs r | false ↦ Unreadable r ]
    ]
