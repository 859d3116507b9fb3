-- The meaning of the bytes after any number of steps, once for every q, and then for the two codes of the product.
use mathlib.Core.Path.{◌≡◌, sym, ap, ap₂, ◌∙◌}
use mathlib.Core.List.{List, map, ◌++◌}
use Prim.Native.Nat.{ℕ, ◌≤◌, ◌<◌}
use native.Mathlib.Omega.{arith}
use Rattle.algebra.specs.Symbols.{Symbols, Laws}
use Rattle.symbols.specs.Rule.{Known, symbols, number, symbol}
use Rattle.symbols.proofs.FieldLaws.{laws-of}
use Rattle.curve.specs.Points.{point_at}
use Rattle.curve.specs.Codes.{point_count}
use Rattle.curve.proofs.Arranged.{Arranged, points-arranged}
use Rattle.published.specs.Start.{Polynomials, step_count, f, g, coefficient}
use Rattle.published.specs.Pairing.{degree_f, degree_g}
use Rattle.published.specs.Steps.{after, message_of}
use Rattle.published.specs.Picture.{picture}
use Rattle.published.specs.Meaning.{weight_after, in_upper, in_lower, Leading, part_in, value_with, unexplained, Meaning}
use Rattle.published.proofs.After.{Reached, reached, left_after}
use Rattle.published.proofs.Greatest.{weight-in-force, upper-leading, lower-leading, leading-cong}
use Rattle.published.proofs.Bytes.{held_in, value-zero, read-symbol, votes-given}
use Rattle.published.proofs.NothingLost.{nothing-lost}

module _ {𝓢 : Symbols} {q : ℕ} (𝓛 : Laws 𝓢 q) (𝓐 : Arranged 𝓢 q) (u : ℕ) (row : List ℕ) (t : ℕ) (h : t ≤ step_count q) where
  infixl 65 ◌⊖◌
  open 𝓢 use {K, 𝟘, ◌⊖◌, number, symbol}

  -- the polynomials and the votes after t steps
  abbrev S : Polynomials 𝓢 q
  S = (after 𝓢 q u (map symbol row) t).polys

  abbrev votes : List K
  votes = (after 𝓢 q u (map symbol row) t).votes

  -- what holds then
  R : Reached 𝓢 q u (map symbol row) t
  R = reached 𝓛 𝓐 u (map symbol row) t h

  -- the leading term of g_i
  leads-g : (i : ℕ) → i < q → Leading 𝓢 q (weight_after q t) (coefficient 𝓢 q S (g q i)) (in_lower i (degree_g 𝓢 q S i))
  leads-g i hi = rw (weight-in-force q t h) (lower-leading 𝓢 q (coefficient 𝓢 q S (g q i)) hi (R.led.lead_g i hi))

  -- and of f_i
  leads-f : (i : ℕ) → i < q → Leading 𝓢 q (weight_after q t) (coefficient 𝓢 q S (f q i)) (in_upper i (degree_f 𝓢 q S i))
  leads-f i hi = rw (weight-in-force q t h) (upper-leading 𝓢 q (coefficient 𝓢 q S (f q i)) hi (R.led.lead_f i hi))

  module _ (rest rest' : List ℕ) where
    -- the bytes of the votes and of the work area, whatever stands behind them
    abbrev output : List ℕ
    output = map number (message_of 𝓢 q u votes) ++ rest

    abbrev work : List ℕ
    work = picture 𝓢 q S ++ rest'

    -- the received symbol less what the votes give is what is left
    unexplained-is : (m : ℕ) → unexplained 𝓢 q u row output m ≡ left_after 𝓢 q u (map symbol row) t m
    unfolding unexplained left_after
    unexplained-is m = ap₂ ◌⊖◌ (sym (read-symbol 𝓛 row m)) (votes-given 𝓛 u votes rest (point_at 𝓢 q m))

    -- the leading term of g_i in the bytes
    leading-g : (i : ℕ) → i < q → Leading 𝓢 q (weight_after q t) (part_in 𝓢 q work (g q i)) (in_lower i (degree_g 𝓢 q S i))
    leading-g i hi = leading-cong 𝓢 q (in_lower i (degree_g 𝓢 q S i)) (held_in 𝓛 R.led rest' (g q i) (omega arith)) (leads-g i hi)

    -- and that of f_i
    leading-f : (i : ℕ) → i < q → Leading 𝓢 q (weight_after q t) (part_in 𝓢 q work (f q i)) (in_upper i (degree_f 𝓢 q S i))
    leading-f i hi = leading-cong 𝓢 q (in_upper i (degree_f 𝓢 q S i)) (held_in 𝓛 R.led rest' (f q i) (omega arith)) (leads-f i hi)

    -- what the votes and the work area mean after t steps
    pub meaning-after : Meaning 𝓢 q u row t output work
    unfolding point_count
    meaning-after = record {
      zeros = λ p m hp hm.
          ap (value_with 𝓢 q work p (point_at 𝓢 q m)) (unexplained-is m)
          ∙ value-zero 𝓛 R.led rest' p (point_at 𝓢 q m) (left_after 𝓢 q u (map symbol row) t m) hp (R.zeros m p hm hp);
      degree_g = degree_g 𝓢 q S;
      degree_f = degree_f 𝓢 q S;
      leading_g = leading-g;
      leading_f = leading-f;
      degrees = omega (arith, R.led.sum);
      nothing_lost = nothing-lost 𝓛 𝓐 u (map symbol row) t h;
    }

-- the same for q = 2 and q = 4: the votes stand at the front of the output, the picture at the front of the work area
pub meaning-known : (q : ℕ) → Known q → (u : ℕ) (row : List ℕ) (t : ℕ) → t ≤ step_count q → (rest rest' : List ℕ)
    → Meaning (symbols q) q u row t
    (map (number q) (message_of (symbols q) q u (after (symbols q) q u (map (symbol q) row) t).votes) ++ rest)
    (picture (symbols q) q (after (symbols q) q u (map (symbol q) row) t).polys ++ rest')
meaning-known q known u = meaning-after (laws-of q known) (points-arranged q known) u

-- and the leading terms of f_i and g_i
pub leads-known : (q : ℕ) → Known q → (u : ℕ) (row : List ℕ) (t : ℕ) → t ≤ step_count q
    → let S = (after (symbols q) q u (map (symbol q) row) t).polys in
    (i : ℕ) → i < q
    → Leading (symbols q) q (weight_after q t) (coefficient (symbols q) q S (f q i)) (in_upper i (degree_f (symbols q) q S i))
    × Leading (symbols q) q (weight_after q t) (coefficient (symbols q) q S (g q i)) (in_lower i (degree_g (symbols q) q S i))
leads-known q known u row t h i hi =
    let law = laws-of q known in
    let points = points-arranged q known in
    (leads-f law points u row t h i hi, leads-g law points u row t h i hi)
