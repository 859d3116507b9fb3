-- The laws of the two lists that records are put in: records as they are, and two bytes for each.
-- Assumes nothing.
use mathlib.Core.Path.{◌≡◌, refl, sym, ap, ◌∙◌}
use mathlib.Core.List.{List, [], ◌∷◌, ◌++◌, append_assoc}
use Prim.Native.Nat.{ℕ, suc, ◌+◌, ◌*◌, ◌/◌, ◌<◌}
use native.Mathlib.Omega.{arith}
use lib.ListN.{length, drop, set, length-append, length-set}
use lib.Seq.{drop-cons, set_at, append_snoc}
use Rattle.lists.specs.Tables.{from, tab}
use Rattle.lists.proofs.Tables.{length-tab, tab-more}
use Rattle.answers.specs.declared.Record.{Record}
use Rattle.verifying.specs.AsBytes.{record_bytes}

-- the bytes after record r is put in its place
abbrev pub put_bytes : List ℕ → ℕ → Record → List ℕ
put_bytes l r x = set (set l (2 * r) x.state) (2 * r + 1) x.count

-- a record that is put leaves as many records
pub records-kept : (l : List Record) (r : ℕ) (x : Record) → length (set l r x) ≡ length l
records-kept l r x = length-set l r x

-- and as many bytes
pub bytes-kept : (l : List ℕ) (r : ℕ) (x : Record) → length (put_bytes l r x) / 2 ≡ length l / 2
bytes-kept l r x = simp length-set

-- no record has no bytes
pub bytes_none : (f : ℕ → Record) (l : List ℕ) → record_bytes (tab 0 f) ++ drop (2 * 0) l ≡ l
unfolding record_bytes tab from
bytes_none f l = refl

length-bytes : (xs : List Record) → length (record_bytes xs) ≡ 2 * length xs
unfolding record_bytes
length-bytes [] = refl
length-bytes (x ∷ xs) = omega (arith, length-bytes xs)

-- the bytes of lists of records, one behind the other
bytes-append : (xs ys : List Record) → record_bytes (xs ++ ys) ≡ record_bytes xs ++ record_bytes ys
unfolding record_bytes
bytes-append [] ys = refl
bytes-append (x ∷ xs) ys = ap (λ (l : List ℕ). x.state ∷ x.count ∷ l) (bytes-append xs ys)

-- two stores behind a list
set-two : (p : List ℕ) (a b : ℕ) (rest : List ℕ) (n v w : ℕ) → length p ≡ n
    → set (set (p ++ a ∷ b ∷ rest) n v) (n + 1) w ≡ p ++ v ∷ w ∷ rest
set-two p a b rest n v w long =
    let longer : length (p ++ (v ∷ [])) ≡ n + 1 = length-append p (v ∷ []) ∙ (rw long) in
    rw (set_at p a (b ∷ rest) v n long, ← append_snoc p v (b ∷ rest), set_at (p ++ (v ∷ [])) b rest w (n + 1) longer)
    (append_snoc p v (w ∷ rest))

-- one record more is two stores
pub bytes_next : (f : ℕ → Record) (n : ℕ) (l : List ℕ) → n < length l / 2
    → put_bytes (record_bytes (tab n f) ++ drop (2 * n) l) n (f n) ≡ record_bytes (tab (n + 1) f) ++ drop (2 * (n + 1)) l
unfolding record_bytes
bytes_next f n l within =
    let p = record_bytes (tab n f) in
    let long : length p ≡ 2 * n = length-bytes (tab n f) ∙ (rw (length-tab n f)) in
    let more : 2 * (n + 1) ≡ suc (suc (2 * n)) = omega arith in
    let first : 2 * n < length l = omega arith in
    let second : suc (2 * n) < length l = omega arith in
    rw (drop-cons l (2 * n) 0 first, drop-cons l (suc (2 * n)) 0 second, tab-more n f, bytes-append, more)
    (set-two p _ _ (drop (suc (suc (2 * n))) l) (2 * n) _ _ long
    ∙ sym (append_assoc p ((f n).state ∷ (f n).count ∷ []) (drop (suc (suc (2 * n))) l)))
