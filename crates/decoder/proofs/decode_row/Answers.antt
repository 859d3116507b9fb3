-- `decoder::decode_row` meets its contract. What is known once the votes are there, and once they are judged, is gathered in
-- `voting` and `judged`; the needs take it from there.
-- Assumes nothing.
use mathlib.Core.Path.{◌≡◌, sym, ap, subst, ◌∙◌}
use mathlib.Core.List.{List, ◌++◌}
use Prim.Native.Nat.{ℕ, ◌≤◌}
use native.Mathlib.Omega.{arith}
use lib.ListN.{drop, replicate}
use lib.Seq.{length-take-le}
use Rattle.symbols.specs.Sizes.{most_points}
use Rattle.curve.specs.Codes.{Code, point_count, dimension, reach}
use Rattle.curve.specs.Given.{Valid, Received}
use Rattle.curve.proofs.CodeLaws.{dimension-le}
use Rattle.curve.proofs.Sizes.{count_small}
use Rattle.decoder.proofs.Judgements.{Voted, Judged, votes-count, votes-fit, votes-message, sent-count, sent-fit}
use Rattle.decoder.proofs.Judgements.{beyond, within, message-kept, corrected-kept, message-written, corrected-written}
use Rattle.decoder.proofs.decode_row.Goals as goal
use Rattle.decoder.proofs.decode_row.Goals.{After-vote_all, After-judge-count}

-- the numbers that are read are those of the code
abbrev Numbers : (n k most : ℕ) → Code → Type 0
Numbers n k most code = (n ≡ point_count code.q) × (k ≡ dimension code.q code.u) × (most ≡ reach code.q code.u)

numbers : {inside code : Code} → Valid inside → inside ≡ code → Numbers inside.n inside.k inside.reach code
numbers {inside} valid is = subst (Numbers inside.n inside.k inside.reach) is (valid.n-is, valid.k-is, valid.reach-is)

-- what is known once the votes are there
voting : (c : After-vote_all) → Voted c.args.code.q c.args.code.u c.args.row.now c.vote_all.new.votes c.code.inside.k
voting c =
    record {
      input = c.requires.received;
      k-is = (numbers c.code.invariant c.code.view_is).1;
      rest = drop (dimension c.args.code.q c.args.code.u) (replicate most_points 0);
      votes-are = c.vote_all.ensures.votes_left;
    }

-- and once they are judged
judged : (c : After-judge-count) → Voted c.args.code.q c.args.code.u c.args.row.now c.vote_all.new.votes c.code.inside.k
    → Judged c.args.code.q c.args.code.u c.args.row.now c.vote_all.new.votes c.judge-count.new.sent c.code.inside.k c.code.inside.n
    c.code.inside.reach c.judge-count.result
judged c V =
    let own = numbers c.code.invariant c.code.view_is in
    record {
      votes-of = V;
      n-is = own.0;
      most-is = own.2;
      rest = drop (point_count c.args.code.q) (replicate most_points 0);
      sent_is = c.judge-count.ensures.sent_after;
      count-is = c.judge-count.ensures.value;
    }

-- no code has more than 64 symbols in a row or a message
fits-row : {q u : ℕ} {row : List ℕ} → Received q u row → point_count q ≤ most_points
fits-row {q} R = count_small q R.known

fits-message : {q u : ℕ} {row : List ℕ} → Received q u row → dimension q u ≤ most_points
fits-message {q} {u} R = omega (arith, count_small q R.known, dimension-le q u R.code)

pub vote_all-requires-clause-room : goal.vote_all-requires-clause-room
vote_all-requires-clause-room c = (c.requires.room.for-work, fits-message c.requires.received)

pub slice_bounds-votes-end : goal.slice_bounds-votes-end
slice_bounds-votes-end c = votes-fit (voting (goal.at.slice_bounds-votes-end c).After-vote_all)

pub slice_bounds-judge-end : goal.slice_bounds-judge-end
slice_bounds-judge-end c = sym (votes-count (voting (goal.at.slice_bounds-judge-end c).After-vote_all))

pub judge-count-requires-clause-message : goal.judge-count-requires-clause-message
judge-count-requires-clause-message c = votes-message (voting (goal.at.judge-count-requires-clause-message c).After-vote_all)

pub judge-count-requires-clause-room : goal.judge-count-requires-clause-room
judge-count-requires-clause-room c = fits-row c.requires.received

pub returns-then-reach-count : goal.returns-then-reach-count
returns-then-reach-count c =
    let at = goal.at.returns-then-reach-count c in
    let J = judged at.After-judge-count (voting at.After-vote_all) in
    let far = c.if-reach-count.true in
    record {
      value = sym (beyond J far);
      work_left = c.vote_all.ensures.work_left;
      message_left = message-kept J c.args.message.now far;
      corrected_left = corrected-kept J c.args.corrected.now far;
    }

pub slice_bounds-votes-end-2 : goal.slice_bounds-votes-end-2
slice_bounds-votes-end-2 c = votes-fit (voting (goal.at.slice_bounds-votes-end-2 c).After-vote_all)

pub slice_bounds-copy_from_slice-end-3 : goal.slice_bounds-copy_from_slice-end-3
slice_bounds-copy_from_slice-end-3 c = sym (votes-count (voting (goal.at.slice_bounds-copy_from_slice-end-3 c).After-vote_all))

pub copy_from_slice-requires : goal.copy_from_slice-requires
copy_from_slice-requires c =
    let V = voting (goal.at.copy_from_slice-requires c).After-vote_all in
    length-take-le c.code.inside.k c.args.message.now (omega (arith, V.k-is, c.requires.room.for-message)) ∙ sym (votes-count V)

pub slice_bounds-sent-end : goal.slice_bounds-sent-end
slice_bounds-sent-end c =
    let at = goal.at.slice_bounds-sent-end c in
    sent-fit (judged at.After-judge-count (voting at.After-vote_all))

pub slice_bounds-copy_from_slice-end-6 : goal.slice_bounds-copy_from_slice-end-6
slice_bounds-copy_from_slice-end-6 c =
    let at = goal.at.slice_bounds-copy_from_slice-end-6 c in
    sym (sent-count (judged at.After-judge-count (voting at.After-vote_all)))

pub copy_from_slice-requires-2 : goal.copy_from_slice-requires-2
copy_from_slice-requires-2 c =
    let at = goal.at.copy_from_slice-requires-2 c in
    let J = judged at.After-judge-count (voting at.After-vote_all) in
    length-take-le c.code.inside.n c.args.corrected.now (omega (arith, J.n-is, c.requires.room.for-corrected)) ∙ sym (sent-count J)

pub returns : goal.returns
returns c =
    let at = goal.at.returns c in
    let J = judged at.After-judge-count (voting at.After-vote_all) in
    let near = c.if-reach-count.false in
    let message = c.args.message.now in
    let corrected = c.args.corrected.now in
    let copied = ap (λ l. l ++ drop c.code.inside.k message) c.copy_from_slice.ensures.after in
    let copied-row = ap (λ l. l ++ drop c.code.inside.n corrected) c.copy_from_slice-2.ensures.after in
    record {
      value = sym (within J near);
      work_left = c.vote_all.ensures.work_left;
      message_left = message-written J _ message near copied;
      corrected_left = corrected-written J _ corrected near copied-row;
    }
