-- What the stop service answers and leaves, for all inputs. Document 01, "Lent areas" and "Refusal numbers".
-- Assumes nothing.
use Rattle.std.specs.Prelude.{List, [], ◌∷◌, ◌++◌, map, ℕ, ltb, length, drop, Result, Ok, Err}
use Rattle.refusals.specs.declared.Refusal.{Refusal}
use Rattle.refusals.specs.declared.Refusal.TheVariants.{TooManySteps, ShortWork, ShortOutput}
use Rattle.refusals.specs.Numbers.{Check, ◌if◌, first_of}
use Rattle.symbols.specs.Rule.{symbols, number, symbol}
use Rattle.curve.specs.Codes.{point_count, dimension}
use Rattle.curve.specs.Answers.{code_checks, symbol_checks}
use Rattle.published.specs.Start.{step_count}
use Rattle.published.specs.Steps.{State, after, message_of}
use Rattle.published.specs.Picture.{area_size, picture}

-- the state after t steps on a received row
unfoldable pub state_after : (q : ℕ) → ℕ → List ℕ → ℕ → State (symbols q) q
state_after q u row t = after (symbols q) q u (map (symbol q) row) t

-- its picture
unfoldable pub picture_after : ℕ → ℕ → List ℕ → ℕ → List ℕ
picture_after q u row t = picture (symbols q) q (state_after q u row t).polys

-- its votes as a message's numbers; those to come are 0
unfoldable pub votes_after : ℕ → ℕ → List ℕ → ℕ → List ℕ
votes_after q u row t = map (number q) (message_of (symbols q) q u (state_after q u row t).votes)

-- 1, 2, 3, 4, 5, 6, 7
unfoldable pub stop_checks : ℕ → ℕ → ℕ → List ℕ → List ℕ → List ℕ → List Check
stop_checks q u steps row work output =
    code_checks q u
    ++ ((TooManySteps if ltb (step_count q) steps)
    ∷ (symbol_checks q (point_count q) row
    ++ ((ShortWork if ltb (length work) (area_size q)) ∷ (ShortOutput if ltb (length output) (dimension q u)) ∷ [])))

unfoldable pub stop_answer : ℕ → ℕ → ℕ → List ℕ → List ℕ → List ℕ → Result (Unit {0}) Refusal
stop_answer q u steps row work output = first_of (stop_checks q u steps row work output) Err (Ok tt)

-- the picture, and the places behind it as they were; a refusal writes nothing
unfoldable pub stop_work : ℕ → ℕ → ℕ → List ℕ → List ℕ → List ℕ → List ℕ
stop_work q u steps row work output =
    first_of (stop_checks q u steps row work output) (λ why. work) (picture_after q u row steps ++ drop (area_size q) work)

-- the k votes, and the places behind them as they were; a refusal writes nothing
unfoldable pub stop_output : ℕ → ℕ → ℕ → List ℕ → List ℕ → List ℕ → List ℕ
stop_output q u steps row work output =
    first_of (stop_checks q u steps row work output) (λ why. output) (votes_after q u row steps ++ drop (dimension q u) output)
