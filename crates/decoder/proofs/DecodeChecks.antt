-- The checks of decoding, in their order, by the tests that the call makes.
-- Assumes nothing.
use mathlib.Core.Path.{◌≡◌, ap, ap₂, ◌∙◌}
use mathlib.Core.Bool.{true, ◌||◌, or-true}
use mathlib.Core.List.{List}
use Prim.Native.Nat.{ℕ, ◌≤◌, ◌<◌}
use lib.Dec.{ltb}
use lib.ListN.{length}
use borrow.Author.Tests.{lt-ltb, le-ltb}
use Rattle.refusals.specs.declared.Refusal.{Refusal}
use Rattle.refusals.specs.declared.Refusal.TheVariants.{ShortWork, ShortOutput}
use Rattle.refusals.proofs.Checks.{Refuses, here, later, Passes, done, clear, refuses-front, refuses-behind, passes-both}
use Rattle.curve.specs.Codes.{point_count, dimension}
use Rattle.curve.specs.Answers.{code_checks, symbol_checks}
use Rattle.curve.specs.Given.{Received}
use Rattle.curve.proofs.GivenChecks.{code-passes, given-passes}
use Rattle.published.specs.Picture.{area_size}
use Rattle.decoder.specs.Decoding.{decode_checks}
use Rattle.decoder.specs.FullRows.{Room}

module _ (q u : ℕ) (row work message corrected : List ℕ) where
  -- 1, 2: there is no such code
  pub refused-by-code : {why : Refusal} → Refuses (code_checks q u) why → Refuses (decode_checks q u row work message corrected) why
  unfolding decode_checks
  refused-by-code r = refuses-front _ r

  -- 4, 5: the row is not n symbols
  pub refused-by-row : {why : Refusal} → Passes (code_checks q u) → Refuses (symbol_checks q (point_count q) row) why
      → Refuses (decode_checks q u row work message corrected) why
  unfolding decode_checks
  refused-by-row coded r = refuses-behind coded (refuses-front _ r)

  module _ (input : Received q u row) where
    coded : Passes (code_checks q u)
    coded = code-passes q u input.known input.code

    -- 6: the work area is too short
    pub short-work : length work < area_size q → Refuses (decode_checks q u row work message corrected) ShortWork
    unfolding decode_checks
    short-work l = refuses-behind coded (refuses-behind (given-passes input) (here (lt-ltb (length work) (area_size q) l)))

    -- 7: an output is too short
    short-output : area_size q ≤ length work → ltb (length message) (dimension q u) || ltb (length corrected) (point_count q) ≡ true
        → Refuses (decode_checks q u row work message corrected) ShortOutput
    unfolding decode_checks
    short-output room e =
        refuses-behind coded (refuses-behind (given-passes input) (later (le-ltb (length work) (area_size q) room) (here e)))

    -- the message output is
    pub short-message : area_size q ≤ length work → length message < dimension q u → Refuses (decode_checks q u row work message corrected) ShortOutput
    short-message room l =
        short-output room (ap (λ b. b || ltb (length corrected) (point_count q)) (lt-ltb (length message) (dimension q u) l))

    -- the corrected output is
    pub short-corrected : area_size q ≤ length work → length corrected < point_count q → Refuses (decode_checks q u row work message corrected) ShortOutput
    short-corrected room l =
        short-output room
        (ap (λ b. ltb (length message) (dimension q u) || b) (lt-ltb (length corrected) (point_count q) l) ∙ or-true (ltb (length message) (dimension q u)))

    -- no check holds
    pub passes : Room q u work message corrected → Passes (decode_checks q u row work message corrected)
    unfolding decode_checks
    passes room =
        passes-both coded
        (passes-both (given-passes input)
        (clear (le-ltb (length work) (area_size q) room.for-work)
        (clear (ap₂ ◌||◌ (le-ltb (length message) (dimension q u) room.for-message) (le-ltb (length corrected) (point_count q) room.for-corrected)) done)))
