-- How long the printed lines are: no trace is longer than `longest_trace`, and that is the size in the code.
-- Assumes nothing.
use mathlib.Core.Path.{◌≡◌, refl, subst, sym}
use mathlib.Core.Logic.{⊎_elim}
use mathlib.Core.Bool.{Bool, true, false}
use mathlib.Core.List.{List, [], ◌∷◌}
use Prim.Native.Nat.{ℕ, suc, ◌*◌, ◌-◌, ◌≤◌}
use native.Mathlib.Nat.{mul-le-mul_right, le-max_left, le-max_right}
use native.Mathlib.Omega.{arith}
use borrow.Author.Tests.{leb-true}
use lib.Dec.{leb}
use lib.ListN.{length, get_or, length-append}
use Rattle.lines.specs.Text.{last_digits, digits}
use Rattle.lines.proofs.Digits.{digits-widen}
use Rattle.refusals.specs.declared.Refusal.{Refusal}
use Rattle.refusals.specs.declared.Refusal.TheVariants.{WrongLength, BeyondReach}
use Rattle.refusals.proofs.Checks.{Refuses, Passes, refused, passed, decide_checks}
use Rattle.symbols.specs.Rule.{Known, symbols}
use Rattle.curve.specs.Codes.{point_count, is_code, reach}
use Rattle.curve.proofs.CodeLaws.{code_below, dimension-le}
use Rattle.curve.proofs.Distances.{reach-most}
use Rattle.published.specs.Start.{width, start_weight, step_count}
use Rattle.published.specs.Steps.{message_of}
use Rattle.steps.specs.Stop.{state_after, votes_after}
use Rattle.std.specs.Prelude.{Result, Ok, Err}
use Rattle.judging.specs.Judging.{count_of}
use Rattle.decoder.specs.Decoding.{judgement, decoded}
use Rattle.voting.specs.Voting.{voted}
use Rattle.voting.proofs.Votes.{voted-count}
use Rattle.request.specs.Request.{line, Said, asks, nothing, reading}
use Rattle.requesttext.proofs.Written.{length-code}
use Rattle.report.specs.Report.{refuse_line, accept_line}
use Rattle.report.proofs.Lengths.{length-refuse, length-accept}
use Rattle.stepline.specs.StepLine.{step_size}
use Rattle.steplines.proofs.Lengths.{length-steps}
use Rattle.stepline.proofs.Lengths.{numbers-most}
use Rattle.trace.specs.Trace.{last_line, row_lines, trace_checks, answer, answer_to, trace_text}
use Rattle.trace.specs.Size.{first_size, last_size, trace_size, longest_trace}
use Rattle.trace.proofs.Checked.{row-passes}

-- the first line
pub length-first-line : (q u : ℕ) → is_code q u ≡ true → length (line (q ∷ u ∷ [])) ≤ first_size q
unfolding first_size
length-first-line q u code =
    let below : u ≤ point_count q = omega (arith, code_below q u code) in
    omega (arith, length-code q u, digits-widen u (point_count q) below)

-- an acceptance's line
voted-most : (q u : ℕ) (row : List ℕ) (i : ℕ) → get_or (voted q u row) i 0 ≤ q * q - 1
unfolding voted votes_after
voted-most q u row i = numbers-most q (message_of (symbols q) q u (state_after q u row (step_count q)).votes) i

length-accepted : (q u count : ℕ) (row : List ℕ) → is_code q u ≡ true → count ≤ point_count q
    → length (accept_line count (voted q u row)) ≤ last_size q
unfolding last_size
length-accepted q u count row code few =
    let wide = suc (length (digits (q * q - 1))) in
    let short : length (voted q u row) ≤ point_count q = omega (arith, voted-count q u row, dimension-le q u code) in
    omega (
      arith,
      length-accept (point_count q) (q * q - 1) count (voted q u row) few (voted-most q u row),
      mul-le-mul_right wide short,
    )

-- a refusal's line is no longer
refuse-last : (q : ℕ) (why : Refusal) → length (refuse_line why) ≤ last_size q
unfolding last_size
refuse-last q why = omega (arith, length-refuse why)

-- the last line
pub length_last : (q u : ℕ) (row : List ℕ) → is_code q u ≡ true → length (last_line (decoded q u row) (voted q u row)) ≤ last_size q
unfolding decoded judgement
length_last q u row code = by-test (leb (count_of q u (voted q u row) row) (reach q u)) refl
  where
    count : ℕ
    count = count_of q u (voted q u row) row

    by-test : (t : Bool) → leb count (reach q u) ≡ t
        → length (last_line (elim t as (λ _. Result ℕ Refusal) [ true ↦ Ok count | false ↦ Err BeyondReach ]) (voted q u row)) ≤ last_size q
    by-test true e =
        unfold last_line in length-accepted q u count row code (omega (arith, leb-true count (reach q u) e, reach-most q u))
    by-test false e = unfold last_line in refuse-last q BeyondReach

-- all lines of a row
length-row-lines : (q u : ℕ) (row : List ℕ) → is_code q u ≡ true → length (row_lines q u row) ≤ trace_size q
unfolding row_lines trace_size
length-row-lines q u row code =
    simp length-append (omega (arith, length-first-line q u code, length-steps q u row (step_count q), length_last q u row code))

-- every q that there is has room in the longest trace, and so has any refusal
pub longest : (q : ℕ) → Known q → trace_size q ≤ longest_trace
unfolding Known longest_trace
longest q =
    ⊎_elim
    (λ (e : q ≡ 2). subst (λ (k : ℕ). trace_size k ≤ longest_trace) (sym e) (le-max_left (trace_size 2) (trace_size 4)))
    (λ (e : q ≡ 4). subst (λ (k : ℕ). trace_size k ≤ longest_trace) (sym e) (le-max_right (trace_size 2) (trace_size 4)))

pub length-refused : (why : Refusal) → length (refuse_line why) ≤ longest_trace
unfolding trace_size
length-refused why =
    let all : trace_size 2 ≤ longest_trace = unfold longest_trace in le-max_left (trace_size 2) (trace_size 4) in
    omega (arith, refuse-last 2 why, all)

-- so what is printed for q, u and a row fits, and what is printed for any text
length-answer : (q u : ℕ) (row : List ℕ) → length (answer q u row) ≤ longest_trace
unfolding answer
length-answer q u row =
    ⊎_elim
    (λ (r : (why : Refusal) × Refuses (trace_checks q u row) why). rw (refused refuse_line (row_lines q u row) r.1) (length-refused r.0))
    (λ (p : Passes (trace_checks q u row)).
    let full = row-passes q u row p in
    rw (passed refuse_line (row_lines q u row) p) (omega (arith, length-row-lines q u row full.code, longest q full.known)))
    (decide_checks (trace_checks q u row))

pub length-trace : (text : List ℕ) → length (trace_text text) ≤ longest_trace
unfolding trace_text
length-trace text = by_said (reading text)
  where
    by_said : (said : Said) → length (answer_to said) ≤ longest_trace
    by_said (asks q u row) = unfold answer_to in length-answer q u row
    by_said nothing = unfold answer_to in length-refused WrongLength

-- the number in the code
pub longest-is : longest_trace ≡ 2489
unfolding longest_trace trace_size first_size last_size step_size point_count width start_weight step_count digits last_digits
longest-is = refl
