-- `verifying::rows::verify_rows` meets its contract: the goals that the check leaves open. Assumes nothing.
use mathlib.Core.Path.{◌≡◌, refl, sym, ap, ◌∙◌}
use native.Mathlib.Omega.{arith}
use lib.ListN.{length}
use Rattle.std.proofs.lemmas.Result.{err_from_is_err_and}
use Rattle.std.specs.Prelude.{Ok, Err}
use Rattle.refusals.specs.Numbers.{first_of}
use Rattle.refusals.proofs.Checks.{Refuses, refused, passed}
use Rattle.layout.specs.Layout.{row_count}
use Rattle.verdict.specs.Checks.{checks_for}
use Rattle.verdict.specs.RowByRow.{next_verdict, total_of}
use Rattle.verifying.specs.Verification.{verdict_from, all_records}
use Rattle.verdict.proofs.Start.{fit}
use Rattle.verifying.proofs.Rounds.{worked, worked-next, worked-some, after, after_next, after-all, Begun, begun, refusing, Ready, ready}
use Rattle.verifying.proofs.Copies.{copied-only}
use Rattle.verifying.proofs.NearCopies.{copied-exactly}
use Rattle.verifying.proofs.rows.verify_rows.Given.{Over}
use Rattle.verifying.proofs.rows.verify_rows.Goals as goal
use Rattle.verifying.proofs.rows.verify_rows.Goals.{After-from_residual, In-loop-r, After-loop-r}

-- where the question mark returns a check holds
failing : (g : Over) (c : After-from_residual g) → Refuses
    (checks_for c.args.block.now c.args.payload.now (g.S.Stored.room c.args.records.now) (length c.args.work.now))
    c.in_err-first.field-0.0
failing g c = refusing _ _ _ _ (rw c.room.ensures at c.in_err-first.ensures.told)

-- and the refusal is answered
refused-is : (g : Over) (c : After-from_residual g) → c.from_residual.result
    ≡ first_of (checks_for c.args.block.now c.args.payload.now (g.S.Stored.room c.args.records.now) (length c.args.work.now)) Err
    (Ok (verdict_from 0 0 (all_records c.args.block.now c.args.payload.now)))
refused-is g c =
    let told = err_from_is_err_and c.from_residual.result c.from_residual.ensures.1 in
    rw (told.1, told.2) (sym (refused Err _ (failing g c)))

pub returns-in_err-first-clause-answered : goal.returns-in_err-first-clause-answered
returns-in_err-first-clause-answered g c = refused-is g (goal.at.returns-in_err-first-clause-answered g c).After-from_residual

pub returns-in_err-first-clause-records_left : goal.returns-in_err-first-clause-records_left
returns-in_err-first-clause-records_left g c =
    sym (refused (λ why. c.args.records.now) _ (failing g (goal.at.returns-in_err-first-clause-records_left g c).After-from_residual))

pub returns-in_err-first-clause-work_left : goal.returns-in_err-first-clause-work_left
returns-in_err-first-clause-work_left g c =
    sym (refused (λ why. c.args.work.now) _ (failing g (goal.at.returns-in_err-first-clause-work_left g c).After-from_residual))

pub returns-in_err-first-clause-exactly : goal.returns-in_err-first-clause-exactly
returns-in_err-first-clause-exactly g c =
    let bytes = c.in_err-first.ensures in
    rw (refused-is g (goal.at.returns-in_err-first-clause-exactly g c).After-from_residual)
    (copied-exactly _ _ bytes.block_of_bytes bytes.payload_of_bytes _ _)

pub loop-r-init : goal.loop-r-init
unfolding worked after
loop-r-init g c = record {
  records = sym (g.met.S.Stored.none _ _);
  room = refl;
  work = refl;
  verdict = ap Ok (begun _ _ _ _ c.in_ok-first.ensures.told).nothing;
}

-- where a turn begins the row has all it needs
ready-here : (g : Over) (c : In-loop-r g) → Ready
    c.args.block.now
    c.args.payload.now
    (g.S.Stored.room c.args.records.now)
    (length c.args.work.now)
    c.loop-r.r
ready-here g c = ready _ _ _ _ (begun _ _ _ _ (rw c.room.ensures at c.in_ok-first.ensures.told)) c.loop-r.r c.loop-r-test.true

pub row_record-outcome-requires : goal.row_record-outcome-requires
row_record-outcome-requires g c =
    let here = ready-here g (goal.at.row_record-outcome-requires g c).In-loop-r in
    (here.row, here.message, omega (arith, here.room, c.loop-r.auto.work))

pub put-requires : goal.put-requires
put-requires g c = omega (arith, (ready-here g (goal.at.put-requires g c).In-loop-r).place, c.loop-r.invariant.room)

pub next_verdict-verdict-requires : goal.next_verdict-verdict-requires
unfolding total_of
next_verdict-verdict-requires g c =
    rw (c.loop-r.invariant.verdict, c.row_record-outcome.ensures.0) (ready-here g (goal.at.next_verdict-verdict-requires g c).In-loop-r).sum

pub loop-r-preserved : goal.loop-r-preserved
unfolding next_verdict
loop-r-preserved g c =
    let row = c.row_record-outcome.ensures.0 in
    let laws = g.met.S.Stored in
    let place = (ready-here g (goal.at.loop-r-preserved g c).In-loop-r).place in
    record {
      records = c.put.ensures ∙ (rw (row, c.loop-r.invariant.records) (laws.next _ _ _ place));
      room = ap g.S.Stored.room c.put.ensures ∙ laws.kept _ _ _ ∙ c.loop-r.invariant.room;
      work = c.row_record-outcome.ensures.1 ∙ (rw c.loop-r.invariant.work (worked-next c.loop-r.r _));
      verdict = c.next_verdict-verdict.ensures ∙ (rw (row, c.loop-r.invariant.verdict) (ap Ok (sym (after_next _ c.loop-r.r))));
    }

-- where the loop is left all rows are read
read-all : (g : Over) (c : After-loop-r g) → Begun
    c.args.block.now
    c.args.payload.now
    (g.S.Stored.room c.args.records.now)
    (length c.args.work.now)
    c.in_ok-first.first
    c.in_ok-first.rows
read-all g c = begun _ _ _ _ (rw c.room.ensures at c.in_ok-first.ensures.told)

count-read : (g : Over) (c : After-loop-r g) → c.loop-r.r ≡ row_count c.args.block.now
count-read g c = omega (arith, (read-all g c).all)

-- and their verdict is answered
verdict-is : (g : Over) (c : After-loop-r g) → c.loop-r.verdict
    ≡ first_of (checks_for c.args.block.now c.args.payload.now (g.S.Stored.room c.args.records.now) (length c.args.work.now)) Err
    (Ok (verdict_from 0 0 (all_records c.args.block.now c.args.payload.now)))
unfolding all_records
verdict-is g c =
    c.loop-r.invariant.verdict ∙ ap Ok (rw (count-read g c) (after-all _ _)) ∙ sym (passed Err _ (read-all g c).passes)

pub returns-clause-answered : goal.returns-clause-answered
returns-clause-answered g c = verdict-is g (goal.at.returns-clause-answered g c).After-loop-r

pub returns-clause-records_left : goal.returns-clause-records_left
returns-clause-records_left g c =
    let done = (goal.at.returns-clause-records_left g c).After-loop-r in
    rw (c.loop-r.invariant.records, count-read g done) (sym (passed (λ why. c.args.records.now) _ (read-all g done).passes))

pub returns-clause-work_left : goal.returns-clause-work_left
returns-clause-work_left g c =
    let done = (goal.at.returns-clause-work_left g c).After-loop-r in
    let passes = (read-all g done).passes in
    let some = (fit _ _ _ _ passes).some in
    rw (c.loop-r.invariant.work, count-read g done, worked-some _ c.args.work.now some) (sym (passed (λ why. c.args.work.now) _ passes))

pub returns-clause-copied : goal.returns-clause-copied
returns-clause-copied g c =
    λ total is. copied-only _ _ _ _ total (sym (verdict-is g (goal.at.returns-clause-copied g c).After-loop-r) ∙ is)

pub returns-clause-exactly : goal.returns-clause-exactly
returns-clause-exactly g c =
    let bytes = c.in_ok-first.ensures in
    rw (verdict-is g (goal.at.returns-clause-exactly g c).After-loop-r)
    (copied-exactly _ _ bytes.block_of_bytes bytes.payload_of_bytes _ _)
