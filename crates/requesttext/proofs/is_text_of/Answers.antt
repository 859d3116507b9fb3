-- The two lines fit on the page, and the page's front is compared.
-- Assumes nothing.
use Rattle.std.proofs.Common.{◌∙◌, List, ℕ, ◌+◌, ◌≤◌, arith, length, take, sym, ap, length-take-le}
use lib.ListN.{length-replicate}
use Rattle.lines.proofs.Writing.{wrote-front}
use Rattle.lists.specs.Same.{same_list}
use Rattle.lists.proofs.Same.{tells-same}
use Rattle.requesttext.proofs.Written.{length-first, length-line, wrote-request}
use lib.Pointwise.{bytes_decides}
use Rattle.requesttext.proofs.is_text_of.Goals as goal
use Rattle.requesttext.proofs.is_text_of.Goals.{After-new-page}

-- the page is empty and long
long : (c : After-new-page) → c.new-page.result.end + 16392 ≤ length c.new-page.result.out.now
long c = omega (arith, ap length c.new-page.ensures.kept, c.new-page.ensures.empty, length-replicate {A = ℕ} 16392 0)

pub put_code-requires : goal.put_code-requires
put_code-requires c =
    omega (arith, long (goal.at.put_code-requires c).After-new-page, length-first c.args.q c.args.u c.requires.0 c.requires.1)

pub put_row-requires-clause-row_in_bounds : goal.put_row-requires-clause-row_in_bounds
put_row-requires-clause-row_in_bounds c =
    omega (
      arith,
      long (goal.at.put_row-requires-clause-row_in_bounds c).After-new-page,
      length-first c.args.q c.args.u c.requires.0 c.requires.1,
      length-line c.args.row.now c.requires.2 (λ i. omega (arith, c.type_inv.row i)),
    )

pub slice_bounds-eq-end : goal.slice_bounds-eq-end
slice_bounds-eq-end c =
    sym (length-take-le c.put_row.new.page.end c.put_row.new.page.out.now
    (omega (
      arith,
      long (goal.at.slice_bounds-eq-end c).After-new-page,
      length-first c.args.q c.args.u c.requires.0 c.requires.1,
      length-line c.args.row.now c.requires.2 (λ i. omega (arith, c.type_inv.row i)),
    )))

pub returns : goal.returns
returns c =
    let text = c.args.text.now in
    let front = take c.put_row.new.page.end c.put_row.new.page.out.now in
    let done =
    wrote-request c.args.q c.args.u c.args.row.now (omega (arith, long (goal.at.returns c).After-new-page)) c.requires.0 c.requires.1
    c.put_code.ensures c.put_row.ensures in
    c.eq.ensures ∙ tells-same text front _ (bytes_decides text front)
    ∙ ap (λ (l : List ℕ). same_list text l) (wrote-front (rw c.new-page.ensures.empty at done.wrote))
