-- What the bytes of a work area and of the votes hold: the coefficients of the polynomials, so also their zeros, and what the
-- votes give.
use mathlib.Core.Path.{◌≡◌, refl, sym, ap, ap₂, ◌∙◌}
use mathlib.Core.List.{List, map, ◌++◌}
use Prim.Native.Nat.{ℕ, ◌+◌, ◌*◌, ◌≤◌, ◌<◌}
use native.Mathlib.Nat as Nat
use native.Mathlib.Omega.{arith}
use native.Mathlib.Decide.{dec_lt}
use lib.ListN.{length, get_or, length-map, get_or-map, get_or-append}
use borrow.Author.Tests.{lt-ltb, le-ltb}
use Rattle.algebra.specs.Symbols.{Symbols, Laws}
use Rattle.algebra.specs.Weights.{weight}
use Rattle.algebra.specs.Functions.{monomial_at}
use Rattle.algebra.proofs.Powers.{two-le-q}
use Rattle.algebra.proofs.Sums.{sum-cong}
use Rattle.algebra.proofs.Bounds.{Cut, cut-width}
use Rattle.algebra.proofs.OnCurve.{value_at-cong}
use Rattle.algebra.proofs.Vanishing.{vanishes-at}
use Rattle.lists.proofs.Grid.{grid, grid-read}
use Rattle.curve.specs.Points.{Point}
use Rattle.curve.specs.Codes.{nongaps}
use Rattle.curve.specs.Rows.{message_at}
use Rattle.published.specs.Start.{Polynomials, width, upper, lower, f, g, coefficient}
use Rattle.published.specs.Pairing.{degree_f, degree_g}
use Rattle.published.specs.Steps.{message_of}
use Rattle.published.specs.Picture.{place, layout, cell_number, picture}
use Rattle.published.specs.Meaning.{part_in, value_with}
use Rattle.published.proofs.Widths.{degree-fits}
use Rattle.published.proofs.Parts.{Parts, SameParts, ZeroAt, upper-cut, lower-cut}
use Rattle.published.proofs.Reading.{row_below, row-part, row-power, each-polynomial}
use Rattle.published.proofs.InPlace.{InPlace}
use Rattle.published.proofs.Given.{given}

module _ (𝓢 : Symbols) (q : ℕ) where
  open 𝓢 use {K, 𝟘, number, symbol}

  -- the number at a place of a picture
  picture-at : (S : Polynomials 𝓢 q) (rest : List ℕ) (p part j i : ℕ) → p < 2 * q → part ≤ lower → j < q → i < width q
      → get_or (picture 𝓢 q S ++ rest) (place q p part j i) 0 ≡ number (coefficient 𝓢 q S p part j i)
  unfolding picture layout cell_number place grid
  picture-at S rest p part j i hp ht hj hi =
      let e : (p * 2 + part) * q + j ≡ p * (2 * q) + (part * q + j) = rw (Nat.add-mul, Nat.mul_assoc) (omega arith) in
      let bytes = picture 𝓢 q S ++ rest in
      let row = row_below q ht hj in
      rw e (grid-read (2 * q) (2 * q) (width q) 0 (cell_number 𝓢 q S) bytes rest refl p (part * q + j) i hp row hi)
      ∙ ap₂ (λ a b. number (coefficient 𝓢 q S p a b i)) (row-part q part hj) (row-power q part hj)

  -- a coefficient that the bytes hold
  part_in-within : (work : List ℕ) (p part j i : ℕ) → i < width q
      → part_in 𝓢 q work p part j i ≡ symbol (get_or work (place q p part j i) 0)
  unfolding part_in
  part_in-within work p part j i h = rw (lt-ltb i (width q) h, part_in)

  -- and one that they do not
  part_in-past : (work : List ℕ) (p part j i : ℕ) → width q ≤ i → part_in 𝓢 q work p part j i ≡ 𝟘
  unfolding part_in
  part_in-past work p part j i h = rw (le-ltb i (width q) h, part_in)

  -- a bound of the weights of both parts, below what the width holds
  record Bounded (F : Parts 𝓢 q) : Type 0 where
    bound : ℕ
    fits : bound < q * width q
    cut : (part : ℕ) → part ≤ lower → Cut 𝓢 q bound 0 (F part)

module _ {𝓢 : Symbols} {q : ℕ} (𝓛 : Laws 𝓢 q) where
  infixl 65 ◌⊕◌
  infixl 70 ◌⊗◌
  open 𝓢 use {K, 𝟘, ◌⊕◌, ◌⊗◌, number, symbol}

  -- polynomials whose leads stand in their places, in the bytes of their picture
  module _ {s : ℕ} {S : Polynomials 𝓢 q} (led : InPlace 𝓢 q s S) (rest : List ℕ) where
    -- the lent bytes
    abbrev work : List ℕ
    work = picture 𝓢 q S ++ rest

    -- how heavy the monomials of each are
    bounded : (p : ℕ) → p < 2 * q → Bounded 𝓢 q (coefficient 𝓢 q S p)
    bounded = each-polynomial q (λ p. Bounded 𝓢 q (coefficient 𝓢 q S p))
        (λ j hj. record {
          bound = weight q j (degree_g 𝓢 q S j);
          fits = omega (arith, degree-fits q (two-le-q 𝓛) j (degree_g 𝓢 q S j) hj (led.fit_g j hj));
          cut = lower-cut 𝓢 q (coefficient 𝓢 q S (g q j)) (led.lead_g j hj);
        })
        (λ i hi. record {
          bound = weight q i (degree_f 𝓢 q S i) + s;
          fits = led.fit_f i hi;
          cut = upper-cut 𝓢 q (coefficient 𝓢 q S (f q i)) (led.lead_f i hi);
        })

    -- the bytes hold their coefficients
    coefficient-in : (p part j i : ℕ) → p < 2 * q → part ≤ lower → j < q
        → coefficient 𝓢 q S p part j i ≡ part_in 𝓢 q work p part j i
    coefficient-in p part j i hp ht hj = elim (dec_lt i (width q)) [
      | yes l ↦
          let byte = ap symbol (picture-at 𝓢 q S rest p part j i hp ht hj l) in
          sym (part_in-within 𝓢 q work p part j i l ∙ byte ∙ 𝓛.symbol-number (coefficient 𝓢 q S p part j i))
      | no l ↦
          let none = cut-width 𝓢 q (width q) ((bounded p hp).cut part ht) (bounded p hp).fits j i hj (omega arith) in
          none ∙ sym (part_in-past 𝓢 q work p part j i (omega arith))
    ]

    -- polynomial by polynomial
    pub held_in : (p : ℕ) → p < 2 * q → SameParts 𝓢 q (coefficient 𝓢 q S p) (part_in 𝓢 q work p)
    held_in p hp = record { at = λ part j i. coefficient-in p part j i hp }

    -- so the zeros of the polynomials are those of the bytes
    pub value-zero : (p : ℕ) (P : Point 𝓢 q) (z : K) → p < 2 * q → ZeroAt 𝓢 q P.x P.y z (coefficient 𝓢 q S p)
        → value_with 𝓢 q work p P z ≡ 𝟘
    unfolding value_with
    value-zero p P z hp v =
        let B = bounded p hp in
        ap₂ (λ a c. z ⊗ a ⊕ c)
        (value_at-cong 𝓢 q (width q) P.x P.y (λ j i hj hi. sym (coefficient-in p upper j i hp (omega arith) hj)))
        (value_at-cong 𝓢 q (width q) P.x P.y (λ j i hj hi. sym (coefficient-in p lower j i hp (omega arith) hj)))
        ∙ vanishes-at 𝓛 (width q) B.bound (B.cut upper (omega arith)) (B.cut lower (omega arith)) B.fits v

  -- the symbol of number 0
  symbol-zero : symbol 0 ≡ 𝟘
  symbol-zero = ap symbol (sym 𝓛.number-zero) ∙ 𝓛.symbol-number 𝟘

  -- symbol m of a list of numbers
  pub read-symbol : (l : List ℕ) (m : ℕ) → get_or (map symbol l) m 𝟘 ≡ symbol (get_or l m 0)
  read-symbol l m = ap (λ d. get_or (map symbol l) m d) (sym symbol-zero) ∙ get_or-map symbol l m 0

  -- symbol m of symbols whose numbers stand at the front of a list
  read_back : (message : List K) (rest : List ℕ) (m : ℕ) → m < length message
      → get_or (map symbol (map number message ++ rest)) m 𝟘 ≡ get_or message m 𝟘
  read_back message rest m h =
      let front = get_or-append (map number message) rest 0 m (rw length-map h) in
      let back = ap (λ d. get_or (map number message) m d) (sym 𝓛.number-zero) ∙ get_or-map number message m 𝟘 in
      read-symbol (map number message ++ rest) m ∙ ap symbol (front ∙ back) ∙ 𝓛.symbol-number (get_or message m 𝟘)

  -- what the votes give, from their bytes
  pub votes-given : (u : ℕ) (votes : List K) (rest : List ℕ) (P : Point 𝓢 q)
      → message_at 𝓢 q (nongaps q u) (map symbol (map number (message_of 𝓢 q u votes) ++ rest)) P ≡ given 𝓢 q u votes P
  unfolding message_at given message_of
  votes-given u votes rest P =
      sum-cong 𝓢 (length (nongaps q u)) (λ m hm.
      ap (λ a. a ⊗ monomial_at 𝓢 q (get_or (nongaps q u) m 0) P.x P.y)
      (read_back (message_of 𝓢 q u votes) rest m (rw length-map hm)))
