-- How large the numbers of a step's line are, and so how long the line is at most.
-- Assumes nothing.
use mathlib.Core.Path.{◌≡◌, ap, sym, ◌∙◌}
use mathlib.Core.Bool.{Bool, true, false}
use mathlib.Core.List.{List, [], ◌∷◌, map}
use Rattle.std.specs.Prelude.{IfSome}
use Rattle.std.specs.Bool.{then_some}
use Prim.Native.Nat.{ℕ, zero, suc, ◌*◌, ◌-◌, ◌≤◌}
use native.Mathlib.Omega.{arith}
use lib.Dec.{eqb}
use lib.ListN.{length, get_or}
use Rattle.lists.specs.Tables.{from, tab}
use Rattle.lists.proofs.Tables.{length-tab}
use Rattle.symbols.specs.Rule.{size, Below, Sym, symbols, number, symbol}
use Rattle.published.specs.Start.{Polynomials, width, start_weight}
use Rattle.published.specs.Pairing.{is_voted, degree}
use Rattle.published.specs.Steps.{State}
use Rattle.report.proofs.Lengths.{length-step-text}
use Rattle.stepline.specs.StepLine.{step_size, step_line, degrees, vote_at}
use Rattle.stepline.proofs.LeadingRows.{row_degree, rows-degrees}

-- a symbol's number is at most the largest one's
number-most : (q : ℕ) (a : Sym q) → number q a ≤ q * q - 1
unfolding symbols Below size
number-most q a = omega (arith, a.1)

pub numbers-most : (q : ℕ) (l : List (Sym q)) (i : ℕ) → get_or (map (number q) l) i 0 ≤ q * q - 1
numbers-most q [] i = omega arith
numbers-most q (a ∷ l) zero = number-most q a
numbers-most q (a ∷ l) (suc i) = numbers-most q l i

-- a degree is at most the number of coefficients
degree-le : (a : ℕ → ℕ) (n : ℕ) → degree a n ≤ n
unfolding degree
degree-le a zero = omega arith
degree-le a (suc n) = by-test (eqb (a n) 0) (degree-le a n)
  where
    by-test : (t : Bool) → degree a n ≤ n → elim t as (λ _. ℕ) [ true ↦ degree a n | false ↦ n ] ≤ suc n
    by-test true h = omega arith
    by-test false h = omega arith

-- the elements of a table are at most what its function's values are
tab-most : (most i n : ℕ) (f : ℕ → ℕ) → ((k : ℕ) → f k ≤ most) → (k : ℕ) → get_or (from i n f) k 0 ≤ most
unfolding from
tab-most most i zero f h k = omega arith
tab-most most i (suc n) f h zero = h i
tab-most most i (suc n) f h (suc k) = tab-most most (suc i) n f h k

-- there are 2q degrees, each at most the width
length-degrees : (q : ℕ) (S : Polynomials (symbols q) q) → length (degrees q S) ≡ 2 * q
length-degrees q S = ap length (sym (rows-degrees q S)) ∙ length-tab (2 * q) (row_degree q S)

degrees-most : (q : ℕ) (S : Polynomials (symbols q) q) (k : ℕ) → get_or (degrees q S) k 0 ≤ width q
unfolding tab row_degree
degrees-most q S k = rw (← rows-degrees q S) (tab-most (width q) 0 (2 * q) (row_degree q S) (λ r. degree-le _ (width q)) k)

-- a vote is a symbol's number
vote-most : (q s : ℕ) (state : State (symbols q) q) → vote_at q s state ≤ q * q - 1
unfolding vote_at
vote-most q s state = number-most q (get_or state.votes s (symbol q 0))

-- if there is one
few_voted : (voted : Bool) (vote most : ℕ) → vote ≤ most → IfSome (then_some voted vote) (λ number. number ≤ most)
few_voted true vote most few = few
few_voted false vote most few = tt

-- so no step's line is longer than is said
pub length-step : (q u s : ℕ) → s ≤ start_weight q → (state : State (symbols q) q) → length (step_line q u s state) ≤ step_size q
unfolding step_line step_size
length-step q u s light state =
    let d = degrees q state.polys in
    let vote = vote_at q s state in
    rw (length-degrees q state.polys) at
    (length-step-text (start_weight q) (q * q - 1) (width q) s (then_some (is_voted q u s) vote) d light
    (few_voted (is_voted q u s) vote (q * q - 1) (vote-most q s state)) (degrees-most q state.polys))
