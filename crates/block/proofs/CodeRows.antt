-- What is known of a payload that can be written, and the rows of its messages.
-- Assumes nothing.
use mathlib.Core.Path.{◌≡◌, ap, ◌∙◌}
use mathlib.Core.Bool.{true}
use mathlib.Core.List.{List, []}
use Prim.Native.Nat.{ℕ, ◌*◌, ◌≤◌, ◌<◌}
use native.Mathlib.Omega.{arith}
use lib.ListN.{length, get_or}
use Rattle.std.proofs.lemmas.Bool.Decides.{nat_tests}
use Rattle.lists.proofs.Tables.{length-tab, get_or-tab}
use Rattle.layout.proofs.Laying.{Symbolic}
use Rattle.layout.specs.Layout.{message_bytes, most_rows}
use Rattle.laying.specs.Laying.{code_row}
use Rattle.laying.proofs.CodeRow.{code-length, code-small}
use Rattle.block.specs.Writing.{rows_filled, is_payload, code_rows}

-- what is known of a payload that can be written
pub record Fills (payload : List ℕ) : Type 0 where
  pub whole : length payload ≡ message_bytes * rows_filled payload
  pub some : 1 ≤ rows_filled payload
  pub most : rows_filled payload ≤ most_rows

pub fills : (payload : List ℕ) → is_payload payload ≡ true → Fills payload
unfolding is_payload rows_filled
fills payload right =
    record { whole = grind (arith, nat_tests); some = grind (arith, nat_tests); most = grind (arith, nat_tests) }

module _ (payload : List ℕ) where
  -- as many rows as are filled
  pub rows-count : length (code_rows payload) ≡ rows_filled payload
  unfolding code_rows
  rows-count = length-tab (rows_filled payload) (code_row payload)

  -- row r is that of message r
  pub row_is : (r : ℕ) → r < rows_filled payload → get_or (code_rows payload) r [] ≡ code_row payload r
  unfolding code_rows
  row_is r hr = get_or-tab (rows_filled payload) (code_row payload) r [] hr

  -- so they can be laid
  pub rows-symbolic : Symbolic (code_rows payload)
  rows-symbolic =
      record {
        full = λ r hr. ap (λ (l : List ℕ). length l) (row_is r (rw rows-count at hr)) ∙ code-length payload r;
        small = λ r j hr hj. rw (row_is r (rw rows-count at hr)) (code-small payload r j hj);
      }
