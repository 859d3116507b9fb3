-- `trace::trace` meets its contract: what the text says is answered, and the answer fits.
-- Assumes nothing.
use mathlib.Core.Path.{◌≡◌, ap, sym, ◌∙◌}
use mathlib.Core.List.{List}
use Prim.Native.Nat.{ℕ}
use native.Mathlib.Omega.{arith}
use lib.ListN.{length, take}
use Rattle.std.specs.Prelude.{Option, Some, None}
use Rattle.io.proofs.Counting.{prefix_len_of_le}
use Rattle.lines.specs.Page.{Put}
use Rattle.lines.proofs.Writing.{wrote-within}
use Rattle.refusals.specs.declared.Refusal.TheVariants.{WrongLength}
use Rattle.request.specs.Request.{reading}
use Rattle.request.specs.declared.Asked.{Asked}
use Rattle.request.specs.Reader.{saying}
use Rattle.trace.specs.Trace.{answer, answer_to, trace_text}
use Rattle.report.specs.Report.{refuse_line}
use Rattle.trace.proofs.Lengths.{length-refused, length-trace, longest-is}
use Rattle.trace.proofs.trace.Goals as goal
use Rattle.trace.proofs.trace.Goals.{Joined-read_request, in-Some, in-None}

-- what is answered where the text asks, and where it does not
asked : (text row : List ℕ) {read : Option Asked} {what : Asked} → saying read row ≡ reading text → read ≡ Some what
    → trace_text text ≡ answer what.q what.u (take what.count row)
unfolding trace_text answer_to saying
asked text row said is = ap answer_to (sym said ∙ ap (λ r. saying r row) is)

not-asked : (text row : List ℕ) {read : Option Asked} → saying read row ≡ reading text → read ≡ None
    → trace_text text ≡ refuse_line WrongLength
unfolding trace_text answer_to saying
not-asked text row said is = ap answer_to (sym said ∙ ap (λ r. saying r row) is)

-- so the page has the trace
traced : (c : Joined-read_request) → Put c.new-page.result (trace_text c.args.text.now) c.match-read_request.page
traced c =
    elim c.match-read_request.branch [
      | in-Some w ↦
          rw (w.page-is, asked c.args.text.now c.read_request.new.row c.read_request.ensures.row_after w.in-Some.is) w.answer.ensures
      | in-None w ↦
          rw (w.page-is, not-asked c.args.text.now c.read_request.new.row c.read_request.ensures.row_after w.in-None.is) w.put_refusal.ensures
    ]

pub answer-requires : goal.answer-requires
answer-requires c = omega (arith, longest-is, ap length c.new-page.ensures.kept, c.new-page.ensures.empty)

pub put_refusal-requires : goal.put_refusal-requires
put_refusal-requires c = omega (arith, length-refused WrongLength, longest-is, ap length c.new-page.ensures.kept, c.new-page.ensures.empty)

pub returns-clause-wrote : goal.returns-clause-wrote
returns-clause-wrote c =
    rw (c.new-page.ensures.kept, c.new-page.ensures.empty) at (traced (goal.at.returns-clause-wrote c).Joined-read_request).wrote

pub returns-clause-prefix_len : goal.returns-clause-prefix_len
returns-clause-prefix_len c =
    let wrote = rw (c.new-page.ensures.kept, c.new-page.ensures.empty) at (traced (goal.at.returns-clause-prefix_len c).Joined-read_request).wrote in
    prefix_len_of_le _ _ (wrote-within (omega (arith, length-trace c.args.text.now, longest-is)) wrote)
