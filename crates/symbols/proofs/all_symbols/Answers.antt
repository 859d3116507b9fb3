-- `symbols::all_symbols` meets its contract: the goals that the check leaves open. Assumes nothing.
use mathlib.Core.Path.{◌∙◌}
use Prim.Native.Nat.{◌*◌}
use native.Mathlib.Omega.{arith}
use lib.Dec.{ltb}
use borrow.Author.Rules.{rules}
use borrow.Author.Tests.{tests}
use Rattle.std.proofs.lemmas.Iterator.{YieldsList-from_slice}
use Rattle.std.proofs.lemmas.Iterator.Search.{all_from_yields_List}
use Rattle.symbols.proofs.Bytes.{square-small}
use Rattle.symbols.proofs.SymbolLists.{below-test}
use Rattle.symbols.proofs.all_symbols.Goals as goal

pub overflow_mul-size : goal.overflow_mul-size
overflow_mul-size c = omega (arith, square-small _ c.requires)

pub overflow_cast-size : goal.overflow_cast-size
overflow_cast-size c = omega (arith, square-small _ c.requires)

pub returns : goal.returns
returns c =
    let q = c.args.q in
    let list = c.args.list.now in
    all_from_yields_List (λ a. ltb a (q * q)) _ _ _ c.all.ensures.ran (YieldsList-from_slice list cc) (λ x b f k. search (rules, tests))
    ∙ below-test q list
