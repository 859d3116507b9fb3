-- What the stop service gives and leaves when a check is the first to hold, and when none holds; what is left has its meaning.
-- Assumes nothing.
use mathlib.Core.Path.{◌≡◌, sym, ◌∙◌}
use mathlib.Core.List.{List, ◌++◌}
use Prim.Native.Nat.{ℕ, ◌≤◌, ◌<◌}
use lib.ListN.{length, drop}
use borrow.Author.Tests.{lt-ltb, le-ltb}
use Rattle.std.specs.Prelude.{Result, Ok, Err, OnOk}
use Rattle.refusals.specs.declared.Refusal.{Refusal}
use Rattle.refusals.specs.declared.Refusal.TheVariants.{TooManySteps, ShortWork, ShortOutput}
use Rattle.refusals.proofs.Checks.{Refuses, here, later, Passes, clear, done, refused, passed, refuses-front, refuses-behind, passes-both}
use Rattle.curve.specs.Codes.{point_count, dimension}
use Rattle.curve.specs.Answers.{code_checks, symbol_checks}
use Rattle.symbols.specs.Rule.{Known, symbols}
use Rattle.published.specs.Start.{step_count}
use Rattle.published.specs.Meaning.{Meaning}
use Rattle.published.proofs.MeaningAfter.{meaning-known}
use Rattle.published.specs.Picture.{area_size}
use Rattle.steps.specs.Stop.{state_after, picture_after, votes_after, stop_checks, stop_answer, stop_work, stop_output}

-- what is left has its meaning
means : {q u steps : ℕ} {row work output : List ℕ} (rest rest' : List ℕ) → Known q → steps ≤ step_count q → work ≡ picture_after q u row steps ++ rest
    → output ≡ votes_after q u row steps ++ rest' → Meaning (symbols q) q u row steps output work
unfolding picture_after votes_after state_after
means {q} {u} {steps} {row} rest rest' known few e e' = rw (e, e') (meaning-known q known u row steps few rest' rest)

-- what is promised of a call, by the answer and what is left in the two areas
abbrev pub Promised : (q u steps : ℕ) (row area votes : List ℕ) → Result (Unit {0}) Refusal → List ℕ → List ℕ → Type 0
Promised q u steps row area votes result area' votes' = record {
  answer : result ≡ stop_answer q u steps row area votes;
  work : area' ≡ stop_work q u steps row area votes;
  output : votes' ≡ stop_output q u steps row area votes;
  meaning : OnOk result (Meaning (symbols q) q u row steps votes' area');
}

module _ (q u steps : ℕ) (row work output : List ℕ) where
  -- with a refusal nothing is written, and nothing is to be said of what the areas mean
  abbrev pub Refusing : Refusal → Type 0
  Refusing why = Promised q u steps row work output (Err why) work output

  stop-refused : {why : Refusal} → Refuses (stop_checks q u steps row work output) why → Refusing why
  unfolding stop_answer stop_work stop_output
  stop-refused r = record {
    answer = sym (refused Err (Ok tt) r);
    work = sym (refused (λ why. work) _ r);
    output = sym (refused (λ why. output) _ r);
    meaning = tt;
  }

  -- otherwise the picture and the votes are left
  stop-done : {work' output' : List ℕ} → Known q → steps ≤ step_count q → Passes (stop_checks q u steps row work output)
      → work' ≡ picture_after q u row steps ++ drop (area_size q) work → output' ≡ votes_after q u row steps ++ drop (dimension q u) output
      → Promised q u steps row work output (Ok tt) work' output'
  unfolding stop_answer stop_work stop_output
  stop-done known enough p w o = record {
    answer = sym (passed Err (Ok tt) p);
    work = w ∙ sym (passed (λ why. work) (picture_after q u row steps ++ drop (area_size q) work) p);
    output = o ∙ sym (passed (λ why. output) (votes_after q u row steps ++ drop (dimension q u) output) p);
    meaning = means _ _ known enough w o;
  }

  -- 1, 2
  pub refused-by-code : {why : Refusal} → Refuses (code_checks q u) why → Refusing why
  unfolding stop_checks
  refused-by-code r = stop-refused (refuses-front _ r)

  module _ (coded : Passes (code_checks q u)) where
    -- 3
    pub refused-by-steps : step_count q < steps → Refusing TooManySteps
    unfolding stop_checks
    refused-by-steps l = stop-refused (refuses-behind coded (here (lt-ltb (step_count q) steps l)))

    module _ (enough : steps ≤ step_count q) where
      -- 4, 5
      pub refused-by-row : {why : Refusal} → Refuses (symbol_checks q (point_count q) row) why → Refusing why
      unfolding stop_checks
      refused-by-row r = stop-refused (refuses-behind coded (later (le-ltb (step_count q) steps enough) (refuses-front _ r)))

      module _ (whole : Passes (symbol_checks q (point_count q) row)) where
        -- 6
        pub refused-by-work : length work < area_size q → Refusing ShortWork
        unfolding stop_checks
        refused-by-work l =
            stop-refused (refuses-behind coded (later (le-ltb (step_count q) steps enough) (refuses-behind whole (here (lt-ltb (length work) (area_size q) l)))))

        -- 7
        pub refused-by-output : area_size q ≤ length work → length output < dimension q u → Refusing ShortOutput
        unfolding stop_checks
        refused-by-output room l =
            stop-refused
            (refuses-behind coded
            (later (le-ltb (step_count q) steps enough)
            (refuses-behind whole (later (le-ltb (length work) (area_size q) room) (here (lt-ltb (length output) (dimension q u) l))))))

        pub not-refused : {work' output' : List ℕ} → Known q → area_size q ≤ length work → dimension q u ≤ length output
            → work' ≡ picture_after q u row steps ++ drop (area_size q) work → output' ≡ votes_after q u row steps ++ drop (dimension q u) output
            → Promised q u steps row work output (Ok tt) work' output'
        unfolding stop_checks
        not-refused known room places =
            stop-done known enough
            (passes-both coded
            (clear (le-ltb (step_count q) steps enough)
            (passes-both whole (clear (le-ltb (length work) (area_size q) room) (clear (le-ltb (length output) (dimension q u) places) done)))))
