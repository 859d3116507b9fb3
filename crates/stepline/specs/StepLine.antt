-- The line of a step, from the state that the step leaves. Document 01, the end of "Hand-worked table".
-- Assumes nothing.
use Rattle.std.specs.Prelude.{List, ◌++◌, ℕ, suc, ◌+◌, ◌*◌, ◌-◌, length, get_or}
use Rattle.std.specs.Bool.{then_some}
use Rattle.lists.specs.Tables.{tab}
use Rattle.lines.specs.Text.{digits}
use Rattle.report.specs.Report.{step_text}
use Rattle.symbols.specs.Rule.{symbols, number, symbol}
use Rattle.published.specs.Start.{Polynomials, width, start_weight}
use Rattle.published.specs.Pairing.{is_voted, degree_f, degree_g}
use Rattle.published.specs.Steps.{State}

-- the vote of step s
unfoldable pub vote_at : (q : ℕ) → ℕ → State (symbols q) q → ℕ
vote_at q s state = number q (get_or state.votes s (symbol q 0))

-- those of f_0, f_1, .. and then those of g_0, g_1, ..
unfoldable pub degrees : (q : ℕ) → Polynomials (symbols q) q → List ℕ
degrees q S = tab q (degree_f (symbols q) q S) ++ tab q (degree_g (symbols q) q S)

-- the line of step s, given the state after it
unfoldable pub step_line : (q : ℕ) → ℕ → ℕ → State (symbols q) q → List ℕ
step_line q u s state = step_text s (then_some (is_voted q u s) (vote_at q s state)) (degrees q state.polys)

-- the bytes that a step's line may take: those of the start weight, of the largest symbol, and of 2q degrees, none of which is
-- larger than the width of a polynomial's row; a space before each but the first, and a newline
unfoldable pub step_size : ℕ → ℕ
step_size q =
    length (digits (start_weight q)) + suc (length (digits (q * q - 1))) + 2 * q * suc (length (digits (width q))) + 1
