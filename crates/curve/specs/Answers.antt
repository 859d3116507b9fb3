-- What a weight belongs to, and what q and u name, as answers. Document 01, "Fields and curve" and "Refusal numbers".
-- Assumes nothing.
use Rattle.std.specs.Prelude.{true, false, not, List, [], ◌∷◌, ℕ, Option, None, Some, Result, Ok, Err, eqb, length}
use Rattle.algebra.specs.Weights.{gap, x_power, y_power}
use Rattle.refusals.specs.declared.Refusal.{Refusal}
use Rattle.refusals.specs.declared.Refusal.TheVariants.{UnknownQ, NoCode, WrongLength, NoSymbol}
use Rattle.refusals.specs.Numbers.{Told, told_as, Check, ◌if◌, first_of}
use Rattle.symbols.specs.Rule.{is_known, any_beyond}
use Rattle.curve.specs.declared.Powers.{Powers}
use Rattle.curve.specs.Codes.{Code, point_count, is_code, dimension, reach}

-- the powers of x and y of the monomial of s, if s is no gap
unfoldable pub monomial_of : ℕ → ℕ → Option Powers
monomial_of q s = elim (gap q s) [ true ↦ None | false ↦ Some (record { x = x_power q s; y = y_power q s }) ]

-- the code of q and u
abbrev pub code_of : ℕ → ℕ → Code
code_of q u = record { q = q; u = u; n = point_count q; k = dimension q u; reach = reach q u }

-- 1, 2: q and u name no code
unfoldable pub code_checks : ℕ → ℕ → List Check
code_checks q u = (UnknownQ if not (is_known q)) ∷ (NoCode if not (is_code q u)) ∷ []

-- 4, 5: these are not n symbols
unfoldable pub symbol_checks : ℕ → ℕ → List ℕ → List Check
symbol_checks q n given = (WrongLength if not (eqb (length given) n)) ∷ (NoSymbol if any_beyond q given) ∷ []

-- what q and u name
unfoldable pub named : ℕ → ℕ → Result Code Refusal
named q u = first_of (code_checks q u) Err (Ok (code_of q u))

-- the answer in numbers: a code has q, u, n, k and its reach
abbrev pub named_as : Result Code Refusal → Told
named_as = told_as (λ code. code.q ∷ code.u ∷ code.n ∷ code.k ∷ code.reach ∷ [])
