-- What the functions that read a text answer.
-- Assumes nothing.
use Rattle.std.specs.Prelude.{◌≡◌, Option, Some, None, List, [], ◌∷◌, ℕ, ◌≤◌, ◌<◌, length, take, drop}
use Rattle.request.specs.declared.Found.{Found}
use Rattle.request.specs.declared.Asked.{Asked}
use Rattle.asking.specs.Request.{Said, asks, nothing, numbers_from}

-- the first number that ends in a text from a place on: what was read, and the text after it has the numbers that are left
pub record FoundAt (text : List ℕ) (from value next : ℕ) : Type 0 where
  pub later : from < next
  pub within : next ≤ length text
  pub small : value < 1000
  pub numbers : numbers_from 0 (drop from text) ≡ value ∷ numbers_from 0 (drop next text)

unfoldable pub FoundIn : List ℕ → ℕ → Option Found → Type 0
FoundIn text from (Some found) = FoundAt text from found.value found.next
FoundIn text from None = numbers_from 0 (drop from text) ≡ []

-- what the reader answers, its row in the first places of a list
unfoldable pub saying : Option Asked → List ℕ → Said
saying (Some asked) row = asks asked.q asked.u (take asked.count row)
saying None row = nothing

-- how many numbers the row has
abbrev pub count_in : Option Asked → ℕ
count_in (Some asked) = asked.count
count_in None = 0
