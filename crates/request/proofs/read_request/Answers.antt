-- What was read is said exactly if the comparison says that the text is the one of it, and a text that is too long or has no row
-- says nothing.
-- Assumes nothing.
use Rattle.std.proofs.Common.{◌≡◌, ◌∙◌, refl, Bool, true, false, List, ◌∷◌, ℕ, ◌≤◌, take, drop, ap, arith, length-take-le}
use Rattle.std.specs.Bool.{then_some}
use Rattle.asking.specs.Request.{asks, if_taken, numbers_from}
use Rattle.asking.proofs.Meaning.{as-read, reads-long, reads_none, reads-empty, reads-row}
use Rattle.request.specs.declared.Asked.{Asked}
use Rattle.request.specs.Reader.{saying, count_in, FoundAt, FoundIn}
use Rattle.request.proofs.read_request.Goals as goal

pub returns-then-text-gt4096 : goal.returns-then-text-gt4096
unfolding saying
returns-then-text-gt4096 c =
    let said = reads-long c.args.text.now c.if-text-gt4096.true in
    record { row_after = said; means = as-read said; result_in_bounds = omega arith }

pub returns-in_err-q : goal.returns-in_err-q
unfolding saying FoundIn
returns-in_err-q c =
    let said = reads_none c.args.text.now (ap (drop 2) c.in_err-q.ensures) in
    rw c.from_residual.ensures (record { row_after = said; means = as-read said; result_in_bounds = omega arith })

pub returns-in_err-u : goal.returns-in_err-u
unfolding saying FoundIn
returns-in_err-u c =
    let none = c.in_ok-q.ensures.numbers ∙ ap (λ (l : List ℕ). c.in_ok-q.field-0.value ∷ l) c.in_err-u.ensures in
    let said = reads_none c.args.text.now (ap (drop 2) none) in
    rw c.from_residual-in_err-u.ensures (record { row_after = said; means = as-read said; result_in_bounds = omega arith })

-- q and u were found, and the numbers left are the row's
numbers-read : {text : List ℕ} {q after_q u after_u : ℕ} → FoundAt text 0 q after_q → FoundAt text after_q u after_u
    → numbers_from 0 text ≡ q ∷ u ∷ numbers_from 0 (drop after_u text)
numbers-read {q = q} first second = first.numbers ∙ ap (λ (l : List ℕ). q ∷ l) second.numbers

pub returns-then-count-eq0 : goal.returns-then-count-eq0
unfolding saying FoundIn
returns-then-count-eq0 c =
    let said =
    reads-empty c.args.text.now _ _ _ c.read_row-count.new.row c.read_row-count.result
    (numbers-read c.in_ok-q.ensures c.in_ok-u.ensures) c.if-count-eq0.true c.read_row-count.ensures.row_after in
    record { row_after = said; means = as-read said; result_in_bounds = omega arith }

pub is_text_of-taken-requires : goal.is_text_of-taken-requires
unfolding FoundIn
is_text_of-taken-requires c =
    let count = length-take-le c.read_row-count.result c.read_row-count.new.row c.read_row-count.ensures.upper_bound in
    (c.in_ok-q.ensures.small, c.in_ok-u.ensures.small, omega arith, omega arith)

-- what is said by the comparison, and that its count is the row's
says_taken : (taken : Bool) (asked : Asked) (row : List ℕ)
    → saying (then_some taken asked) row ≡ if_taken taken (asks asked.q asked.u (take asked.count row))
unfolding saying
says_taken true asked row = refl
says_taken false asked row = refl

count-taken : (taken : Bool) (asked : Asked) → count_in (then_some taken asked) ≤ asked.count
count-taken true asked = omega arith
count-taken false asked = omega arith

pub returns : goal.returns
unfolding FoundIn
returns c =
    let asked : Asked = record { q = c.in_ok-q.field-0.value; u = c.in_ok-u.field-0.value; count = c.read_row-count.result } in
    let count = length-take-le asked.count c.read_row-count.new.row c.read_row-count.ensures.upper_bound in
    let taken = c.is_text_of-taken.result in
    let said =
    says_taken taken asked c.read_row-count.new.row
    ∙ reads-row c.args.text.now asked.q asked.u _ _ taken (omega arith) (omega arith)
    (numbers-read c.in_ok-q.ensures c.in_ok-u.ensures) c.read_row-count.ensures.row_after c.is_text_of-taken.ensures in
    rw c.then_some.ensures (record { row_after = said; means = as-read said; result_in_bounds = omega (arith, count-taken taken asked) })
