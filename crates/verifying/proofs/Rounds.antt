-- Between the rows: the verdict so far, the work area, and what the next row needs; and what all of it is after the last row.
-- Assumes nothing.
use mathlib.Core.Path.{◌≡◌, refl, sym, ap, ◌∙◌}
use mathlib.Core.Logic.{⊎_elim}
use mathlib.Core.Bool.{Bool, true, false}
use mathlib.Core.List.{List, [], ◌∷◌, ◌++◌}
use Prim.Native.Nat.{ℕ, zero, suc, ◌+◌, ◌*◌, ◌^◌, ◌≤◌, ◌<◌, zero-le}
use native.Mathlib.Nat.{zero-add, add-zero}
use native.Mathlib.Numerals.{add-one}
use native.Mathlib.Omega.{arith}
use lib.Dec.{eqb}
use lib.ListN.{length, drop, replicate, length-replicate}
use lib.Seq.{drop_at}
use Rattle.refusals.specs.declared.Refusal.{Refusal}
use Rattle.refusals.specs.Numbers.{Check}
use Rattle.std.specs.Prelude.{Result, Ok, Err}
use Rattle.refusals.proofs.Checks.{Refuses, Passes, refused, passed, decide_checks}
use Rattle.lists.specs.Tables.{from, tab}
use Rattle.published.specs.Picture.{area_size}
use Rattle.voting.specs.Voting.{cleared}
use Rattle.layout.specs.Layout.{tape_reach, row_bytes, message_bytes, header_bytes, tape_q, row_count}
use Rattle.taperow.specs.Reading.{row_record}
use Rattle.verifying.specs.Verification.{verdict_from}
use Rattle.verdict.specs.Checks.{checks_for}
use Rattle.verdict.specs.RowByRow.{verdict_before, verdict_with, total_in}
use Rattle.answers.specs.declared.Record.{Record}
use Rattle.answers.specs.declared.Verdict.{Verdict}
use Rattle.answers.specs.declared.Verdict.TheVariants.{Copied, Differs, Unreadable}
use Rattle.verdict.proofs.Verdicts.{by_state}
use Rattle.verdict.proofs.Start.{fit}
use Rattle.taperow.proofs.Outcomes.{row-count-small}

-- the work area after k rows: the first row clears its part, and it stays so
unfoldable pub worked : ℕ → List ℕ → List ℕ
worked zero work = work
worked (suc k) work = cleared (area_size tape_q) work

-- clearing twice is clearing once
cleared-again : (n : ℕ) (l : List ℕ) → cleared n (cleared n l) ≡ cleared n l
unfolding cleared
cleared-again n l = ap (λ (rest : List ℕ). replicate n 0 ++ rest) (drop_at (replicate n 0) (drop n l) n (length-replicate n 0))

-- one row more
pub worked-next : (k : ℕ) (work : List ℕ) → cleared (area_size tape_q) (worked k work) ≡ worked (k + 1) work
unfolding worked
worked-next zero work = refl
worked-next (suc k) work = rw (add-one (suc k)) (cleared-again (area_size tape_q) work)

-- the verdict after k rows with the records f 0, f 1, ..
unfoldable pub after : (ℕ → Record) → ℕ → Verdict
after f zero = Copied 0
after f (suc k) = verdict_with (after f k) k (f k)

-- one row more
pub after_next : (f : ℕ → Record) (k : ℕ) → after f (k + 1) ≡ verdict_with (after f k) k (f k)
unfolding after
after_next f k = rw (add-one k)

-- the verdict after the records of a list, of which the first is row r's
unfoldable over : Verdict → ℕ → List Record → Verdict
over v r [] = v
over v r (x ∷ xs) = over (verdict_with v r x) (suc r) xs

-- a verdict that names a row stays
over-differs : (i r : ℕ) (xs : List Record) → over (Differs i) r xs ≡ Differs i
unfolding over verdict_with
over-differs i r [] = refl
over-differs i r (x ∷ xs) = over-differs i (suc r) xs

-- of either kind
over-unreadable : (i r : ℕ) (xs : List Record) → over (Unreadable i) r xs ≡ Unreadable i
unfolding over verdict_with
over-unreadable i r [] = refl
over-unreadable i r (x ∷ xs) = over-unreadable i (suc r) xs

-- the first row not in state 0 is named: one row, by its two tests
first-named : (r total : ℕ) (xs : List Record) (zero one : Bool)
    → verdict_from (suc r) total xs ≡ over (Copied total) (suc r) xs
    → by_state zero one r (verdict_from (suc r) total xs) ≡ over (by_state zero one r (Copied total)) (suc r) xs
first-named r total xs true one later = later
first-named r total xs false true later = sym (over-differs r (suc r) xs)
first-named r total xs false false later = sym (over-unreadable r (suc r) xs)

-- the answer's verdict is made row by row
from-copied : (r total : ℕ) (xs : List Record) → verdict_from r total xs ≡ over (Copied total) r xs
unfolding verdict_from over verdict_with
from-copied r total [] = refl
from-copied r total (x ∷ xs) =
    first-named r (total + x.count) xs (eqb x.state 0) (eqb x.state 1) (from-copied (suc r) (total + x.count) xs)

-- the verdict after rows, and then over the rows that follow
over-after : (f : ℕ → Record) (i n : ℕ) → over (after f i) i (from i n f) ≡ after f (i + n)
unfolding over from after
over-after f i zero = rw (add-zero i)
over-after f i (suc n) =
    let e : suc i + n ≡ i + suc n = omega arith in
    over-after f (suc i) n ∙ ap (after f) e

-- after all rows it is the answer's verdict
pub after-all : (f : ℕ → Record) (n : ℕ) → after f n ≡ verdict_from 0 0 (tab n f)
unfolding after tab
after-all f n = sym (from-copied 0 0 (from 0 n f) ∙ over-after f 0 n ∙ ap (after f) (zero-add n))

-- the sum of counts grows by at most 9 a row
next-total : (v : Verdict) (r : ℕ) (x : Record) → x.count ≤ tape_reach → total_in (verdict_with v r x) ≤ total_in v + tape_reach
unfolding verdict_with total_in
next-total (Copied total) r x small = by_tests (eqb x.state 0) (eqb x.state 1)
  where
    -- by the row's two tests
    by_tests : (zero one : Bool) → total_in (by_state zero one r (Copied (total + x.count))) ≤ total + tape_reach
    by_tests true one = omega arith
    by_tests false true = zero-le
    by_tests false false = zero-le
next-total (Differs i) r x small = zero-le
next-total (Unreadable i) r x small = zero-le

-- after k rows the sum is at most 9k
total-small : (f : ℕ → Record) → ((k : ℕ) → (f k).count ≤ tape_reach) → (k : ℕ) → total_in (after f k) ≤ tape_reach * k
unfolding after total_in
total-small f small zero = zero-le
total-small f small (suc k) = omega (arith, total-small f small k, next-total (after f k) k (f k) (small k))

-- what row r needs of what is lent
pub record Ready (block payload : List ℕ) (records work r : ℕ) : Type 0 where
  pub row : header_bytes + row_bytes + row_bytes * r ≤ length block
  pub message : message_bytes + message_bytes * r ≤ length payload
  pub place : r < records
  pub room : area_size tape_q ≤ work
  pub sum : total_in (after (row_record block payload) r) + (row_record block payload r).count < 2 ^ 64

-- what is known of a call that reads rows
pub record Begun (block payload : List ℕ) (records work : ℕ) (first : Verdict) (rows : ℕ) : Type 0 where
  pub passes : Passes (checks_for block payload records work)
  pub nothing : first ≡ Copied 0
  pub all : rows ≡ row_count block

module _ (block payload : List ℕ) (records work : ℕ) where
  -- the checks of the call, and what it knows where none of them holds
  abbrev checks : List Check
  checks = checks_for block payload records work

  abbrev open_all : Result (Verdict × ℕ) Refusal
  open_all = Ok (Copied 0, row_count block)

  -- where the first function refuses, a check holds
  pub refusing : {why : Refusal} → Err why ≡ verdict_before block payload records work → Refuses checks why
  unfolding verdict_before
  refusing {why} is =
      ⊎_elim (λ r. let same : r.0 ≡ why = cc (is, refused Err open_all r.1) in rw same at r.1)
      (λ p. let never : Err why ≡ open_all = is ∙ passed Err open_all p in cc)
      (decide_checks checks)

  -- else no check does
  pub begun : {first : Verdict} {rows : ℕ} → Ok (first, rows) ≡ verdict_before block payload records work
      → Begun block payload records work first rows
  unfolding verdict_before
  begun {first} {rows} is =
      ⊎_elim (λ r. let never : open_first ≡ Err r.0 = is ∙ refused Err open_all r.1 in cc)
      (λ p.
      let same : open_first ≡ open_all = is ∙ passed Err open_all p in
      let both : ◌≡◌ {A = Verdict × ℕ} (first, rows) (Copied 0, row_count block) = cc in
      record { passes = p; nothing = ap (λ x. x.0) both; all = ap (λ x. x.1) both })
      (decide_checks checks)
    where
      open_first : Result (Verdict × ℕ) Refusal
      open_first = Ok (first, rows)

  -- a row that is read has all it needs
  pub ready : {first : Verdict} {rows : ℕ} → Begun block payload records work first rows
      → (r : ℕ) → r < rows → Ready block payload records work r
  ready begun r less =
      let known = fit block payload records work begun.passes in
      let few : r < row_count block = omega (arith, begun.all) in
      record {
        row = omega (arith, known.rows);
        message = omega (arith, known.messages);
        place = omega (arith, known.enough);
        room = known.room;
        sum =
            omega (
              arith,
              known.most,
              row-count-small block payload r,
              total-small (row_record block payload) (row-count-small block payload) r,
            );
      }

-- after any row but none the work area is cleared
pub worked-some : (n : ℕ) (work : List ℕ) → 1 ≤ n → worked n work ≡ cleared (area_size tape_q) work
unfolding worked
worked-some zero work some = absurd (omega (arith, some))
worked-some (suc n) work some = refl
