-- Laws of the lines of a request: how they are written piece by piece, and how long they are.
-- Assumes nothing.
use mathlib.Core.Path.{◌≡◌, ap, sym, ◌∙◌}
use mathlib.Core.List.{List, [], ◌∷◌, ◌++◌, append_assoc, append-nil}
use Prim.Native.Nat.{ℕ, suc, ◌+◌, ◌*◌, ◌-◌, ◌≤◌, ◌<◌}
use native.Mathlib.Omega.{arith}
use lib.ListN.{length, get_or, take, drop, length-append}
use lib.Seq.{take_all}
use Rattle.lines.specs.declared.Page.{Page}
use Rattle.lines.specs.Text.{last_digits, digits, spaced}
use Rattle.lines.specs.Page.{Put, Room}
use Rattle.lines.proofs.Digits.{length_digits, length-spaced}
use Rattle.lines.proofs.Pages.{put_more}
use Rattle.asking.specs.Request.{line, request}

-- the line "q u" in its four pieces
code-pieces : (q u : ℕ) → digits q ++ (32 ∷ []) ++ digits u ++ (10 ∷ []) ≡ line (q ∷ u ∷ [])
unfolding line spaced
code-pieces q u = simp (append_assoc, append-nil)

-- all of a row but its first number, as the part of a slice
abbrev pub others : List ℕ → List ℕ
others row = take (length row - 1) (drop 1 row)

-- the line of a row in its three pieces
row-pieces : (row : List ℕ) → 0 < length row → digits (get_or row 0 0) ++ spaced (others row) ++ (10 ∷ []) ≡ line row
unfolding line
row-pieces [] h = absurd (omega arith)
row-pieces (n ∷ row) h =
    ap (λ (l : List ℕ). digits n ++ spaced l ++ (10 ∷ [])) (take_all (suc (length row) - 1) row (omega arith))
    ∙ append_assoc (digits n) (spaced row) (10 ∷ [])

-- how long they are
pub length-code : (q u : ℕ) → length (line (q ∷ u ∷ [])) ≡ length (digits q) + 1 + length (digits u) + 1
length-code q u = ap length (sym (code-pieces q u)) ∙ simp length-append

pub length-row : (row : List ℕ) → 0 < length row → length (line row) ≡ length (digits (get_or row 0 0)) + length (spaced (others row)) + 1
length-row row h = ap length (sym (row-pieces row h)) ∙ simp length-append

-- the pieces of the line "q u", written one after the other
pub wrote-code : {page one two three last : Page} (q u : ℕ) → Room page (line (q ∷ u ∷ []))
    → Put page (digits q) one → Put one (32 ∷ []) two → Put two (digits u) three → Put three (10 ∷ []) last
    → Put page (line (q ∷ u ∷ [])) last
wrote-code q u fits a b c d =
    let whole = length-code q u in
    rw (← code-pieces q u)
    (put_more (simp length-append (omega arith)) (put_more (simp length-append (omega arith)) (put_more (omega arith) a b) c) d)

-- the pieces of a row's line
pub wrote-row : {page one two last : Page} (row : List ℕ) → 0 < length row → Room page (line row)
    → Put page (digits (get_or row 0 0)) one → Put one (spaced (others row)) two → Put two (10 ∷ []) last
    → Put page (line row) last
wrote-row row h fits a b c =
    let whole = length-row row h in
    rw (← row-pieces row h) (put_more (simp length-append (omega arith)) (put_more (omega arith) a b) c)

-- numbers below a thousand take four bytes each at most in a line
pub length-line : (numbers : List ℕ) → 0 < length numbers → ((i : ℕ) → get_or numbers i 0 < 1000) → length (line numbers) ≤ 4 * length numbers
unfolding line
length-line [] some h = absurd (omega arith)
length-line (n ∷ numbers) some h =
    let rest : length (spaced numbers) ≤ length numbers * 4 =
    unfold digits last_digits in length-spaced 999 numbers (λ i. omega (arith, h (suc i))) in
    omega (
      arith,
      length_digits 2 n (h 0),
      rest,
      length-append (spaced numbers) (10 ∷ []),
      length-append (digits n) (spaced numbers ++ (10 ∷ [])),
    )

-- the first line of a request takes eight bytes at most
pub length-first : (q u : ℕ) → q < 1000 → u < 1000 → length (line (q ∷ u ∷ [])) ≤ 8
length-first q u hq hu = omega (arith, length-code q u, length_digits 2 q hq, length_digits 2 u hu)

-- both lines, written one after the other, are the request
pub wrote-request : {page second end : Page} (q u : ℕ) (row : List ℕ) → page.end + (8 + 4 * length row) ≤ length page.out.now
    → q < 1000 → u < 1000 → Put page (line (q ∷ u ∷ [])) second → Put second (line row) end → Put page (request q u row) end
unfolding request
wrote-request q u row fits hq hu first second = put_more (omega (arith, length-first q u hq hu)) first second
