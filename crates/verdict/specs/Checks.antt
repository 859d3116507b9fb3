-- What verifying checks before it reads a row. Document 01, "Block and verification" and "Refusal numbers".
-- Assumes nothing.
use Rattle.std.specs.Prelude.{not, List, [], ◌∷◌, ℕ, ◌*◌, eqb, ltb, length}
use Rattle.refusals.specs.declared.Refusal.TheVariants.{ShortWork, BadBlock, WrongPayload, FewRecords}
use Rattle.refusals.specs.Numbers.{Check, ◌if◌}
use Rattle.published.specs.Picture.{area_size}
use Rattle.layout.specs.Layout.{tape_q, message_bytes, row_count, is_block}

-- 9, 10, 11, 6, where so many records and so many places of work are lent
unfoldable pub checks_for : List ℕ → List ℕ → ℕ → ℕ → List Check
checks_for block payload records work =
    (BadBlock if not (is_block block))
    ∷ (WrongPayload if not (eqb (length payload) (message_bytes * row_count block)))
    ∷ (FewRecords if ltb records (row_count block))
    ∷ (ShortWork if ltb work (area_size tape_q))
    ∷ []
