-- The count of an acceptance is at most the reach of a known code, so it fits an integer. Assumes nothing.
use mathlib.Core.Path.{◌≡◌, refl, sym, subst}
use mathlib.Core.Logic.{◌⊎◌, inl, inr}
use mathlib.Core.Bool.{Bool, true, false}
use mathlib.Core.List.{List}
use Prim.Native.Nat.{ℕ, ◌<◌, ◌^◌}
use native.Mathlib.Omega.{arith}
use lib.Dec.{leb}
use borrow.Author.Tests.{leb-true}
use Rattle.std.specs.Prelude.{Ok, Err}
use Rattle.refusals.specs.declared.Refusal.{Refusal}
use Rattle.refusals.specs.declared.Refusal.TheVariants.{BeyondReach}
use Rattle.refusals.specs.Numbers.{Check}
use Rattle.refusals.proofs.Checks.{Refuses, Passes, refused, passed, decide_checks, passes-split}
use Rattle.symbols.specs.Rule.{Known}
use Rattle.symbols.proofs.Bytes.{test_known}
use Rattle.curve.specs.Codes.{reach}
use Rattle.curve.specs.Answers.{code_checks}
use Rattle.curve.proofs.Sizes.{count_small}
use Rattle.curve.proofs.Distances.{reach-most}
use Rattle.curve.proofs.Naming.{passes-known}
use Rattle.judging.specs.Judging.{count_of}
use Rattle.decoder.specs.Decoding.{judgement, decoded, decode_checks, decode_answer}
use Rattle.voting.specs.Voting.{voted}
use Rattle.results.specs.Results.{CountFits}

-- the reach is at most n, which is small
reach-small : (q u : ℕ) → Known q → reach q u < 2 ^ 63
reach-small q u known = omega (arith, reach-most q u, count_small q known)

-- a judgement accepts no count beyond the reach
judged : (q u : ℕ) (message row : List ℕ) → reach q u < 2 ^ 63 → CountFits (judgement q u message row)
unfolding judgement
judged q u message row small = go (leb (count_of q u message row) (reach q u)) refl
  where
    go : (b : Bool) → leb (count_of q u message row) (reach q u) ≡ b → CountFits (elim b [ true ↦ Ok (count_of q u message row) | false ↦ Err BeyondReach ])
    go true within = omega (arith, small, leb-true (count_of q u message row) (reach q u) within)
    go false beyond = tt

module _ (q u : ℕ) (row work message corrected : List ℕ) where
  abbrev checks : List Check
  checks = decode_checks q u row work message corrected

  -- a refusal has no count
  if-refused : {why : Refusal} → Refuses checks why → CountFits (decode_answer q u row work message corrected)
  unfolding decode_answer
  if-refused refuses = subst CountFits (sym (refused Err (decoded q u row) refuses)) tt

  -- q is known then
  known : Passes checks → Known q
  unfolding decode_checks
  known passes = test_known q (passes-known q u (passes-split (code_checks q u) passes).0)

  -- what decoding answers after its checks
  if-passed : Passes checks → CountFits (decode_answer q u row work message corrected)
  unfolding decode_answer decoded
  if-passed passes =
      subst CountFits (sym (passed Err (decoded q u row) passes)) (judged q u (voted q u row) row (reach-small q u (known passes)))

  -- whatever decoding answers, its count fits
  pub answer-fits : CountFits (decode_answer q u row work message corrected)
  answer-fits = go (decide_checks checks)
    where
      go : ((why : Refusal) × Refuses checks why) ⊎ Passes checks → CountFits (decode_answer q u row work message corrected)
      go (inl refuses) = if-refused refuses.1
      go (inr passes) = if-passed passes
