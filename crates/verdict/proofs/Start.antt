-- What is known of a block and of what is lent where no check of verifying holds.
-- Assumes nothing.
use mathlib.Core.Path.{◌≡◌, ap}
use mathlib.Core.Bool.{true, not}
use mathlib.Core.List.{List}
use Prim.Native.Nat.{ℕ, ◌+◌, ◌*◌, ◌≤◌}
use lib.ListN.{length}
use borrow.Author.Tests.{eq-eqb, le-ltb, eqb-true, ltb-false, not-false}
use Rattle.refusals.proofs.Checks.{Passes, done, clear}
use Rattle.published.specs.Picture.{area_size}
use Rattle.layout.specs.Layout.{row_bytes, message_bytes, header_bytes, most_rows, tape_q, row_count, is_block}
use Rattle.layout.proofs.Headers.{sized}
use Rattle.verdict.specs.Checks.{checks_for}

-- no check holds where nothing is wrong
pub none-holds : (block payload : List ℕ) (records work : ℕ) → is_block block ≡ true → length payload ≡ message_bytes * row_count block
    → row_count block ≤ records → area_size tape_q ≤ work → Passes (checks_for block payload records work)
unfolding checks_for
none-holds block payload records work good long enough room =
    clear (ap not good) (clear (ap not (eq-eqb _ _ long)) (clear (le-ltb _ _ enough) (clear (le-ltb _ _ room) done)))

-- what is known of a block and of what is lent where no check holds
pub record Fit (block payload : List ℕ) (records work : ℕ) : Type 0 where
  pub rows : length block ≡ header_bytes + row_bytes * row_count block
  pub some : 1 ≤ row_count block
  pub most : row_count block ≤ most_rows
  pub messages : length payload ≡ message_bytes * row_count block
  pub enough : row_count block ≤ records
  pub room : area_size tape_q ≤ work

pub fit : (block payload : List ℕ) (records work : ℕ) → Passes (checks_for block payload records work)
    → Fit block payload records work
unfolding checks_for
fit block payload records work (clear header (clear messages (clear enough (clear room done)))) =
    let known = sized block (not-false _ header) in
    record {
      rows = known.rows;
      some = known.some;
      most = known.most;
      messages = eqb-true _ _ (not-false _ messages);
      enough = ltb-false _ _ enough;
      room = ltb-false _ _ room;
    }
