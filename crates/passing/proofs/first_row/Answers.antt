-- `passing::first_row` meets its contract. Assumes nothing.
use mathlib.Core.Bool.{not}
use mathlib.Core.Path.{ap, sym, ◌∙◌}
use borrow.Author.Tests.{not-false}
use Rattle.symbols.proofs.Bytes.{test_known}
use Rattle.passing.proofs.first_row.Goals as goal

pub point_count-n-requires : goal.point_count-n-requires
point_count-n-requires c = test_known _ (sym c.is_known.ensures ∙ not-false _ (ap not c.if-not-is_known.false))
