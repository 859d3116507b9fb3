-- Both ways out give the numbers of the pairing.
-- Assumes nothing.
use mathlib.Core.Path.{◌≡◌, refl, ap, ◌∙◌}
use Prim.Native.Nat.{ℕ, ◌+◌, ◌*◌, ◌<◌, ◌≤◌}
use native.Mathlib.Nat.{mul-le-mul}
use native.Mathlib.Omega.{arith}
use lib.IntN.{ℤ, pos, ◌-ℤ◌, nat_abs}
use mir.Syntax.{w64}
use mir.Val.{to_z, of_z}
use Rattle.published.specs.Pairing.{k_of}
use Rattle.symbols.specs.Sizes.{most_q, most_width, most_weight, most_degree, most_shift}
use Rattle.symbols.specs.Rule.{symbols}
use Rattle.published.specs.Start.{Polynomials, width}
use Rattle.workarea.specs.Area.{Area, cells_of, Starts}
use Rattle.steppairs.specs.Reading.{Short, LeadingOf}
use Rattle.workarea.specs.Heights.{WithinHeights}
use Rattle.pair.specs.Pairs.{Held}
use Rattle.pair.proofs.Signed.{Divided, divided, k-small, back, less-small, less-fits, less-value}
use Rattle.steppairs.proofs.PairNumbers.{lead-f, pair-voted, pair-unvoted}
use Rattle.steppairs.proofs.pairs.pair_of.Goals as goal
use Rattle.steppairs.proofs.pairs.pair_of.Goals.{After-leading_below-f, After-leading_of-g}

-- how large the parts of the sum are that is divided
record Small (q a i s : ℕ) : Type 0 where
  first : q * a ≤ most_q * most_width
  second : (q + 1) * i ≤ (most_q + 1) * most_q
  all : q * a + (q + 1) * i + s ≤ most_degree

small : {q n a i s : ℕ} → Area q n → i < q → s ≤ most_weight → a < width q → Small q a i s
small {q} {n} {a} {i} {s} area below light narrow =
    let few : q ≤ most_q = area.few in
    let wide : width q ≤ most_width = area.narrow in
    let first = mul-le-mul {n₁ = q} {m₁ = a} {n₂ = most_q} {m₂ = most_width} (omega arith) (omega arith) in
    let second = mul-le-mul {n₁ = q + 1} {m₁ = i} {n₂ = most_q + 1} {m₂ = most_q} (omega arith) (omega arith) in
    record { first = first; second = second; all = omega arith }

-- c, as the code works it out from the degree of g and k
abbrev difference : ℕ → ℤ → ℤ
difference degree k = to_z w64 (of_z w64 (to_z w64 degree -ℤ to_z w64 (of_z w64 k)))

-- what is known of the sum that is divided, of k, and of c
record Numbers (q total : ℕ) (k : ℤ) (degree : ℕ) : Type 0 where
  parts : Divided q total
  k-small : nat_abs (k_of q total) ≤ most_degree
  k-low : nat_abs k ≤ most_degree
  k-is : to_z w64 (of_z w64 k) ≡ k_of q total
  degree-low : degree ≤ most_degree
  c-is : difference degree k ≡ pos degree -ℤ k_of q total
  c-small : nat_abs (difference degree k) ≤ most_shift

numbers : {q n a i s : ℕ} {k : ℤ} {degree : ℕ} → Area q n → i < q → s ≤ most_weight → a < width q
    → k ≡ k_of q (q * a + (q + 1) * i + s) → degree < width q → Numbers q (q * a + (q + 1) * i + s) k degree
numbers {q} {n} {a} {i} {s} {k} {degree} area below light narrow e short =
    let parts = divided q (q * a + (q + 1) * i + s) area.known (small area below light narrow).all in
    let k-small : nat_abs (k_of q (q * a + (q + 1) * i + s)) ≤ most_degree = k-small _ _ parts in
    let low : nat_abs k ≤ most_degree = rw e k-small in
    let wide : width q ≤ most_width = area.narrow in
    let degree-low : degree ≤ most_degree = omega arith in
    record {
      parts = parts;
      k-small = k-small;
      k-low = low;
      k-is = back k (omega arith) ∙ e;
      degree-low = degree-low;
      c-is = less-value _ k degree-low low ∙ ap (λ (z : ℤ). pos degree -ℤ z) e;
      c-small = rw (less-value _ k degree-low low) (less-small _ k degree-low low);
    }

numbers_at : (c : After-leading_of-g)
    → Numbers c.args.products.q (c.args.products.q * c.leading_below-f.result.degree + (c.args.products.q + 1) * c.args.i + c.args.s) c.quotient_of-k.result c.leading_of-g.result.degree
numbers_at c =
    numbers c.requires.area c.requires.i_lt_q.0 c.requires.i_lt_q.1 c.leading_below-f.ensures.degree_bound c.quotient_of-k.ensures
    c.leading_of-g.ensures.degree_bound

-- the leading symbol of f_i: the height is that of the upper row that is read
leads : (c : After-leading_below-f) → (S : Polynomials (symbols c.args.products.q) c.args.products.q) → WithinHeights c.args.products.q c.args.heights.now.each (cells_of c.args.products.q S)
    → Starts c.args.products.q c.args.work.now (cells_of c.args.products.q S)
    → LeadingOf c.args.products.q c.leading_below-f.result (cells_of c.args.products.q S (c.args.products.q + c.args.i) c.args.i)
leads c S below z =
    let short : Short c.args.products.q c.of.result (cells_of c.args.products.q S (c.args.products.q + c.args.i) c.args.i) =
    record { zeros = λ n h l. below.above _ _ n (omega (arith, c.requires.i_lt_q.0)) c.requires.i_lt_q.0 l (rw c.of.ensures.value at h) } in
    c.leading_below-f.ensures.leading_of (cells_of _ S) z short

-- the bounds of the pair, where its partner is what the remainder gave
held : (c : After-leading_of-g) (w mu : ℕ)
    → Held c.args.products.q (record { partner = c.remainder-partner.result; c = difference c.leading_of-g.result.degree c.quotient_of-k.result; w = w; mu = mu; nu = c.leading_of-g.result.coefficient })
held c w mu =
    let all = numbers_at c in record { partner = rw c.remainder-partner.ensures all.parts.part; c = all.c-small }

pub overflow_sub-c : goal.overflow_sub-c
overflow_sub-c c =
    let all = numbers_at (goal.at.overflow_sub-c c).After-leading_of-g in
    less-fits _ c.quotient_of-k.result all.degree-low all.k-low

pub in_voted_step-named-requires-clause-i_lt_q : goal.in_voted_step-named-requires-clause-i_lt_q
in_voted_step-named-requires-clause-i_lt_q c =
    let all = numbers_at (goal.at.in_voted_step-named-requires-clause-i_lt_q c).After-leading_of-g in
    rw (c.remainder-partner.ensures, all.k-is) (c.requires.i_lt_q.0, all.parts.part, all.k-small)

pub in_unvoted_step-named-requires-clause-i_lt_q : goal.in_unvoted_step-named-requires-clause-i_lt_q
in_unvoted_step-named-requires-clause-i_lt_q c =
    let all = numbers_at (goal.at.in_unvoted_step-named-requires-clause-i_lt_q c).After-leading_of-g in
    rw (c.remainder-partner.ensures, all.k-is) (c.requires.i_lt_q.0, all.parts.part, all.k-small)

pub returns-then-voted-clause-held : goal.returns-then-voted-clause-held
returns-then-voted-clause-held c = held (goal.at.returns-then-voted-clause-held c).After-leading_of-g _ _

pub returns-then-voted-clause-numbers_of : goal.returns-then-voted-clause-numbers_of
returns-then-voted-clause-numbers_of c =
    let r = c.remainder-partner.ensures in
    let all = numbers_at (goal.at.returns-then-voted-clause-numbers_of c).After-leading_of-g in
    λ S u narrow below z v.
    let lead = leads (goal.at.returns-then-voted-clause-numbers_of c).After-leading_below-f S below z in
    pair-voted _ S u _ _ c.leading_below-f.result c.leading_of-g.result lead (rw r at (c.leading_of-g.ensures.leading_of (cells_of _ S) z))
    _ r all.c-is refl c.in_voted_step-named.result refl refl (v ∙ c.if-voted.true)
    (rw (r, all.k-is) at (c.in_voted_step-named.ensures S _ narrow z (lead-f _ S _ _ lead)))

pub returns-else-voted-clause-held : goal.returns-else-voted-clause-held
returns-else-voted-clause-held c = held (goal.at.returns-else-voted-clause-held c).After-leading_of-g _ _

pub returns-else-voted-clause-numbers_of : goal.returns-else-voted-clause-numbers_of
returns-else-voted-clause-numbers_of c =
    let r = c.remainder-partner.ensures in
    let all = numbers_at (goal.at.returns-else-voted-clause-numbers_of c).After-leading_of-g in
    λ S u narrow below z v.
    pair-unvoted _ S u _ _ c.leading_below-f.result c.leading_of-g.result
    (leads (goal.at.returns-else-voted-clause-numbers_of c).After-leading_below-f S below z) (rw r at (c.leading_of-g.ensures.leading_of (cells_of _ S) z))
    _ r all.c-is refl c.in_unvoted_step-named.result refl refl (v ∙ c.if-voted.false)
    (rw (r, all.k-is) at (c.in_unvoted_step-named.ensures S narrow z))
