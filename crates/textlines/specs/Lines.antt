-- The lines of a text, and what calls with each may answer. Bytes are in ASCII.
-- Assumes nothing.
use Rattle.std.specs.Prelude.{true, false, List, [], ◌∷◌, ℕ, eqb, ◌<◌, length, drop, Result, Ok, Err}

-- the first line of a text: up to its newline and with it, or the whole text where there is none
unfoldable pub first_line : List ℕ → List ℕ
first_line [] = []
first_line (byte ∷ text) = byte ∷ elim (eqb byte 10) [ true ↦ [] | false ↦ first_line text ]

-- what calls with the lines of a text, in turn, may answer from f on, where `step f line r f'` says that a call of f with a line may
-- answer r and leave f': the first that fails is the last
module _ {F E : Type 0} (step : F → List ℕ → Result (Unit {0}) E → F → Type 0) where
  pub data CallsEachLine : F → List ℕ → Result (Unit {0}) E → Type 0 where
    at_the_end : {f : F} → CallsEachLine f [] (Ok tt)
    failed : {f f' : F} {text : List ℕ} {why : E} → 0 < length text → step f (first_line text) (Err why) f' → CallsEachLine f text (Err why)
    went_on : {f f' : F} {text : List ℕ} {r : Result (Unit {0}) E} → 0 < length text → step f (first_line text) (Ok tt) f'
        → CallsEachLine f' (drop (length (first_line text)) text) r → CallsEachLine f text r
