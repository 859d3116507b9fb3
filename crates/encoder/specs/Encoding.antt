-- What encoding answers and writes, for all inputs. Document 01, "Lent areas" and "Refusal numbers".
-- Assumes nothing.
use Rattle.std.specs.Prelude.{List, [], ◌∷◌, ◌++◌, map, ℕ, Result, Ok, Err, ltb, length, drop}
use Rattle.refusals.specs.declared.Refusal.{Refusal}
use Rattle.refusals.specs.declared.Refusal.TheVariants.{ShortOutput}
use Rattle.refusals.specs.Numbers.{Check, ◌if◌, first_of}
use Rattle.symbols.specs.Rule.{symbols, number, symbol}
use Rattle.curve.specs.Codes.{point_count, dimension}
use Rattle.curve.specs.Answers.{code_checks, symbol_checks}
use Rattle.curve.specs.Rows.{row_of}

-- the numbers of a message's row
unfoldable pub row_numbers : ℕ → ℕ → List ℕ → List ℕ
row_numbers q u message = map (number q) (row_of (symbols q) q u (map (symbol q) message))

-- 1, 2, 4, 5, 7
unfoldable pub encode_checks : ℕ → ℕ → List ℕ → List ℕ → List Check
encode_checks q u message output =
    code_checks q u ++ (symbol_checks q (dimension q u) message ++ ((ShortOutput if ltb (length output) (point_count q)) ∷ []))

-- a refusal, or done
unfoldable pub encode_answer : ℕ → ℕ → List ℕ → List ℕ → Result (Unit {0}) Refusal
encode_answer q u message output = first_of (encode_checks q u message output) Err (Ok tt)

-- the row in the first n places, the other places as they were; a refusal writes nothing
unfoldable pub encode_output : ℕ → ℕ → List ℕ → List ℕ → List ℕ
encode_output q u message output =
    first_of (encode_checks q u message output) (λ why. output) (row_numbers q u message ++ drop (point_count q) output)
