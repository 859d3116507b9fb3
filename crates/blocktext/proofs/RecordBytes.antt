-- The bytes of record r are the bytes 2r and 2r + 1.
-- Assumes nothing.
use mathlib.Core.Path.{◌≡◌, refl, ap, ◌∙◌}
use mathlib.Core.List.{List, [], ◌∷◌, ◌++◌}
use Prim.Native.Nat.{ℕ, zero, suc, ◌+◌, ◌*◌, ◌<◌}
use native.Mathlib.Omega.{arith}
use lib.ListN.{length, get_or}
use Rattle.lists.specs.Tables.{tab}
use Rattle.lists.proofs.Tables.{length-tab, get_or-tab}
use Rattle.verifying.specs.AsBytes.{record_bytes}
use Rattle.answers.specs.declared.Record.{Record}

-- the state of record r of a list
state-at : (xs : List Record) (rest : List ℕ) (r : ℕ) (d : Record) → r < length xs
    → get_or (record_bytes xs ++ rest) (2 * r) 0 ≡ (get_or xs r d).state
unfolding record_bytes
state-at [] rest r d less = absurd (omega arith)
state-at (x ∷ xs) rest zero d less = refl
state-at (x ∷ xs) rest (suc r) d less =
    let two : 2 * suc r ≡ suc (suc (2 * r)) = omega arith in
    rw two (state-at xs rest r d (omega arith))

-- and its count
count_at : (xs : List Record) (rest : List ℕ) (r : ℕ) (d : Record) → r < length xs
    → get_or (record_bytes xs ++ rest) (2 * r + 1) 0 ≡ (get_or xs r d).count
unfolding record_bytes
count_at [] rest r d less = absurd (omega arith)
count_at (x ∷ xs) rest zero d less = refl
count_at (x ∷ xs) rest (suc r) d less =
    let two : 2 * suc r + 1 ≡ suc (suc (2 * r + 1)) = omega arith in
    rw two (count_at xs rest r d (omega arith))

-- of a table of records
pub state-of : (n : ℕ) (f : ℕ → Record) (rest : List ℕ) (r : ℕ) → r < n
    → get_or (record_bytes (tab n f) ++ rest) (2 * r) 0 ≡ (f r).state
state-of n f rest r less =
    state-at (tab n f) rest r (f r) (rw (length-tab n f) less) ∙ ap (λ (x : Record). x.state) (get_or-tab n f r (f r) less)

-- and its count
pub count_of : (n : ℕ) (f : ℕ → Record) (rest : List ℕ) (r : ℕ) → r < n
    → get_or (record_bytes (tab n f) ++ rest) (2 * r + 1) 0 ≡ (f r).count
count_of n f rest r less =
    count_at (tab n f) rest r (f r) (rw (length-tab n f) less) ∙ ap (λ (x : Record). x.count) (get_or-tab n f r (f r) less)
