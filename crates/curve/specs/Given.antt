-- Symbols that are given under a code, a message or a row: what is left when the refusals 1, 2, 4 and 5 are not due.
-- Assumes nothing.
use Rattle.std.specs.Prelude.{◌≡◌, true, false, List, ℕ, length}
use Rattle.symbols.specs.Rule.{Known, any_beyond}
use Rattle.curve.specs.Codes.{Code, point_count, is_code, dimension, reach}

-- a code with the numbers that are its own
pub record Valid (code : Code) : Type 0 where
  pub known : Known code.q
  pub accepted : is_code code.q code.u ≡ true
  pub n-is : code.n ≡ point_count code.q
  pub k-is : code.k ≡ dimension code.q code.u
  pub reach-is : code.reach ≡ reach code.q code.u

-- q and u are a code, and these are n symbols
pub record Given (q u n : ℕ) (given : List ℕ) : Type 0 where
  pub known : Known q
  pub code : is_code q u ≡ true
  pub whole : length given ≡ n
  pub all-symbols : any_beyond q given ≡ false

-- a message of the code has k symbols
abbrev pub Message : ℕ → ℕ → List ℕ → Type 0
Message q u message = Given q u (dimension q u) message

-- a row that is received has n
abbrev pub Received : ℕ → ℕ → List ℕ → Type 0
Received q u row = Given q u (point_count q) row
