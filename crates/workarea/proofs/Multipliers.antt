-- The rows of the product table multiply.
-- Assumes nothing.
use mathlib.Core.Path.{ap, ◌∙◌, subst}
use Prim.Native.Nat.{ℕ, ◌*◌, ◌<◌, ◌≤◌}
use native.Mathlib.Nat.{mod-eq_of_lt}
use native.Mathlib.Omega.{arith}
use Rattle.symbols.specs.Sizes.{most_symbols}
use Rattle.symbols.specs.Rule.{Known, symbols, Sym, number, symbol}
use Rattle.symbols.specs.Tables.{product_row}
use Rattle.symbols.proofs.TableRules.{row_at}
use Rattle.symbols.proofs.FieldLaws.{laws-of}
use Rattle.symbols.proofs.Bytes.{size-known}
use Rattle.workarea.specs.Area.{Multiplies}
use Rattle.workarea.proofs.Sizes.{sizes}

-- the table row of a byte multiplies by its symbol
pub multiplies : (q m : ℕ) → Known q → Multiplies q (product_row q m) (symbol q m)
multiplies q m known =
    record {
      at = λ a.
          let below : number q a < q * q = (laws-of q known).number-below a in
          let small : q * q ≤ most_symbols = (sizes q known).square-few in
          rw (mod-eq_of_lt {n = number q a} {m = most_symbols} (omega arith))
          (row_at q m (number q a) (rw (size-known q known) small) (rw (size-known q known) below)
          ∙ ap (λ (b : Sym q). number q ((symbols q).◌⊗◌ (symbol q m) b)) ((laws-of q known).symbol-number a));
    }

-- that of a symbol's number multiplies by the symbol
pub multiplies-symbol : (q : ℕ) → Known q → (ρ : Sym q) → Multiplies q (product_row q (number q ρ)) ρ
multiplies-symbol q known ρ = subst (Multiplies q (product_row q (number q ρ))) ((laws-of q known).symbol-number ρ) (multiplies q (number q ρ) known)
