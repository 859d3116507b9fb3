-- The leading degrees as those of the area's rows, one in each: what a loop over the rows reads.
-- Assumes nothing.
use mathlib.Core.Path.{◌≡◌, ap, ap₂, sym, ◌∙◌}
use mathlib.Core.Bool.{Bool}
use Rattle.std.specs.Prelude.{Option}
use Rattle.std.specs.Bool.{then_some}
use mathlib.Core.List.{List, [], ◌∷◌, ◌++◌, append_assoc, append-nil}
use Prim.Native.Nat.{ℕ, zero, suc, ◌+◌, ◌*◌, ◌-◌, ◌/◌, ◌%◌, ◌≤◌, ◌<◌}
use native.Mathlib.Nat.{add-zero, div-eq_of_lt, mod-eq_of_lt, add-div_left, add-mod_left}
use native.Mathlib.Numerals.{add-one}
use native.Mathlib.Omega.{arith}
use borrow.Author.Tests.{lt-ltb, le-ltb}
use lib.ListN.{length, take, drop, set}
use lib.Seq.{take_at}
use Rattle.lists.specs.Tables.{from, tab, put}
use Rattle.lists.proofs.Tables.{length-tab, tab-more, tab-same}
use Rattle.lists.proofs.Put.{put-more, put_front}
use Rattle.symbols.specs.Rule.{symbols, number}
use Rattle.published.specs.Start.{Polynomials, width}
use Rattle.published.specs.Pairing.{is_voted, degree, degree_of, degree_f, degree_g}
use Rattle.published.specs.Steps.{State}
use Rattle.workarea.specs.Area.{cells_of}
use Rattle.report.specs.Report.{step_text}
use Rattle.stepline.specs.StepLine.{step_line, degrees, vote_at}
use Rattle.stepline.specs.Shown.{leader}

-- the degree of the leading polynomial's row r
unfoldable pub row_degree : (q : ℕ) → Polynomials (symbols q) q → ℕ → ℕ
row_degree q S r = degree (λ i. number q (cells_of q S (leader q r) r i)) (width q)

pub leader-upper : (q r : ℕ) → r < q → leader q r ≡ q + r
unfolding leader
leader-upper q r h = rw (lt-ltb r q h)

pub leader-lower : (q r : ℕ) → q ≤ r → leader q r ≡ r - q
unfolding leader
leader-lower q r h = rw (le-ltb r q h)

-- an upper row is the one of y^r
upper-row : (q : ℕ) (S : Polynomials (symbols q) q) (r : ℕ) → r < q → row_degree q S r ≡ degree_f (symbols q) q S r
unfolding row_degree cells_of degree_f degree_of
upper-row q S r h = rw (leader-upper q r h, div-eq_of_lt h, mod-eq_of_lt h)

-- a lower one that of y^(r-q)
lower-row : (q : ℕ) (S : Polynomials (symbols q) q) (i : ℕ) → i < q → row_degree q S (q + i) ≡ degree_g (symbols q) q S i
unfolding row_degree cells_of degree_g degree_of
lower-row q S i h =
    let some : 0 < q = omega arith in
    let part : (q + i) / q ≡ 1 = add-div_left i some ∙ ap (λ (k : ℕ). k + 1) (div-eq_of_lt h) in
    let power : (q + i) % q ≡ i = add-mod_left q i ∙ mod-eq_of_lt h in
    let back : q + i - q ≡ i = omega arith in
    rw (leader-lower q (q + i) (omega arith), back, part, power)

-- a table in two halves
tab-halves {ℓ} : {A : Type ℓ} (n m : ℕ) (f : ℕ → A) → tab (n + m) f ≡ tab n f ++ tab m (λ i. f (n + i))
unfolding tab from
tab-halves n zero f = ap (λ (k : ℕ). tab k f) (add-zero n) ∙ sym (append-nil (tab n f))
tab-halves n (suc m) f =
    let more : n + suc m ≡ n + m + 1 = omega arith in
    ap (λ (k : ℕ). tab k f) more ∙ tab-more (n + m) f
    ∙ ap (λ l. l ++ (f (n + m) ∷ [])) (tab-halves n m f)
    ∙ append_assoc (tab n f) (tab m (λ i. f (n + i))) (f (n + m) ∷ [])
    ∙ ap (λ l. tab n f ++ l) (sym (tab-more m (λ i. f (n + i))) ∙ ap (λ (k : ℕ). tab k (λ i. f (n + i))) (add-one m))

-- all rows have the leading degrees of f by i, then those of g
pub rows-degrees : (q : ℕ) (S : Polynomials (symbols q) q) → tab (2 * q) (row_degree q S) ≡ degrees q S
unfolding degrees
rows-degrees q S =
    let both : 2 * q ≡ q + q = omega arith in
    ap (λ (k : ℕ). tab k (row_degree q S)) both ∙ tab-halves q q (row_degree q S)
    ∙ ap₂ ◌++◌ (tab-same q (row_degree q S) (degree_f (symbols q) q S) (upper-row q S))
    (tab-same q (λ i. row_degree q S (q + i)) (degree_g (symbols q) q S) (lower-row q S))

-- what the loop over all rows leaves
pub rows-read : (q : ℕ) (S : Polynomials (symbols q) q) (before after : List ℕ) → 2 * q ≤ length before
    → after ≡ put before 0 (2 * q) (row_degree q S) → take (2 * q) after ≡ degrees q S
rows-read q S before after room done =
    ap (take (2 * q)) (done ∙ put_front 0 before (2 * q) (row_degree q S) room)
    ∙ take_at (tab (2 * q) (row_degree q S)) (drop (2 * q) before) (2 * q) (length-tab (2 * q) (row_degree q S)) ∙ rows-degrees q S

-- one turn of it
pub row_read : (q : ℕ) (S : Polynomials (symbols q) q) (before now : List ℕ) (r d : ℕ) → now ≡ put before 0 r (row_degree q S)
    → d ≡ row_degree q S r → set now r d ≡ put before 0 (r + 1) (row_degree q S)
row_read q S before now r d so_far one =
    let place : 0 + r ≡ r = omega arith in
    ap (λ (l : List ℕ). set l r d) so_far ∙ ap (set (put before 0 r (row_degree q S)) r) one
    ∙ ap (λ (k : ℕ). set (put before 0 r (row_degree q S)) k (row_degree q S r)) (sym place) ∙ put-more before 0 r (row_degree q S)

-- a step's line from its pieces
pub line-is : (q u s : ℕ) (state : State (symbols q) q) {voted : Bool} {vote : ℕ} {told : Option ℕ} {read : List ℕ}
    → told ≡ then_some voted vote → voted ≡ is_voted q u s → vote ≡ vote_at q s state → read ≡ degrees q state.polys
    → step_text s told read ≡ step_line q u s state
unfolding step_line
line-is q u s state is a b c = rw (is, a, b, c)
