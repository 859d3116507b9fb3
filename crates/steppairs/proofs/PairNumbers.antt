-- The numbers that the code finds for a pair are those of the definition.
-- Assumes nothing.
use mathlib.Core.Path.{◌≡◌, sym, ap, ◌∙◌}
use mathlib.Core.Bool.{true, false}
use Prim.Native.Nat.{ℕ, ◌+◌, ◌*◌, ◌%◌}
use lib.IntN.{ℤ, pos, ◌-ℤ◌}
use Rattle.algebra.proofs.Ring.{sub_def, zero-add}
use Rattle.symbols.specs.Rule.{Known, difference_of, symbols, Sym, number, symbol}
use Rattle.symbols.proofs.Bytes.{number-of-negative}
use Rattle.symbols.proofs.FieldLaws.{laws-of}
use Rattle.published.specs.Start.{Polynomials, width}
use Rattle.published.specs.Pairing.{Pairing, degree_of, degree_f, degree_g, lead_f, lead_g, k_of, partner_of, is_negative, is_voted, positive_part, looked, in_voted_step, in_unvoted_step, pairing}
use Rattle.workarea.specs.Area.{cells_of}
use Rattle.steppairs.specs.Reading.{LeadingOf}
use Rattle.pair.specs.Pairs.{NumbersOf}
use Rattle.steppairs.specs.Named.{NamedAs}
use Rattle.steppairs.specs.declared.reading.RowLead.{RowLead}
use Rattle.pair.specs.declared.Pair.{Pair}
use Rattle.steppairs.specs.declared.pairs.NamedSymbol.{NamedSymbol}
use Rattle.steppairs.proofs.Degrees.{degree-cong}
use Rattle.workarea.proofs.Coefficients.{upper-cell, lower-cell}

module _ (q : ℕ) (S : Polynomials (symbols q) q) where
  -- the leading symbol of f_i, and of g_i
  pub degree-f : (i : ℕ) (f : RowLead) → LeadingOf q f (cells_of q S (q + i) i) → f.degree ≡ degree_f (symbols q) q S i
  unfolding degree_f degree_of
  degree-f i f e = e.degree-is ∙ degree-cong _ _ (λ n. ap (number q) (sym (upper-cell q S (q + i) i n))) (width q)

  pub lead-f : (i : ℕ) (f : RowLead) → LeadingOf q f (cells_of q S (q + i) i) → f.coefficient ≡ number q (lead_f (symbols q) q S i)
  unfolding lead_f
  lead-f i f e =
      e.coefficient-is
      ∙ ap (λ (n : ℕ). number q (cells_of q S (q + i) i n)) (degree-f i f e)
      ∙ ap (number q) (sym (upper-cell q S (q + i) i (degree_f (symbols q) q S i)))

  pub degree-g : (i : ℕ) (g : RowLead) → LeadingOf q g (cells_of q S i (q + i)) → g.degree ≡ degree_g (symbols q) q S i
  unfolding degree_g degree_of
  degree-g i g e = e.degree-is ∙ degree-cong _ _ (λ n. ap (number q) (sym (lower-cell q S i i n))) (width q)

  pub lead-g : (i : ℕ) (g : RowLead) → LeadingOf q g (cells_of q S i (q + i)) → g.coefficient ≡ number q (lead_g (symbols q) q S i)
  unfolding lead_g
  lead-g i g e =
      e.coefficient-is
      ∙ ap (λ (n : ℕ). number q (cells_of q S i (q + i) n)) (degree-g i g e)
      ∙ ap (number q) (sym (lower-cell q S i i (degree_g (symbols q) q S i)))

-- the code's quotient of two symbols
pub quotient_is : (q : ℕ) → Known q → (r a m n : ℕ) (α β : Sym q) → a ≡ number q α → m ≡ number q β → n ≡ number q ((symbols q).inverse (symbol q m))
    → r ≡ number q ((symbols q).◌⊗◌ (symbol q a) (symbol q n)) → r ≡ number q ((symbols q).◌⊗◌ α ((symbols q).inverse β))
quotient_is q known r a m n α β ea em en er =
    let back = (laws-of q known).symbol-number in
    er ∙ (rw (en, ea, em, back α, back β, back ((symbols q).inverse β)))

-- 0 less a symbol's number is the number of its negative
pub negative-is : (q : ℕ) → Known q → (a : Sym q) → difference_of q 0 (number q a) ≡ number q ((symbols q).minus a)
negative-is q known a =
    let 𝓛 = laws-of q known in
    number-of-negative q known a ∙ ap (number q) (sub_def 𝓛 (symbols q).𝟘 a ∙ zero-add 𝓛 ((symbols q).minus a))

-- the coefficient looked at is a cell
pub looked-cell : (q : ℕ) (S : Polynomials (symbols q) q) (i partner : ℕ) (k : ℤ)
    → looked (symbols q) q S i partner k ≡ cells_of q S (q + i) (q + partner) (positive_part k)
unfolding looked
looked-cell q S i partner k = lower-cell q S (q + i) partner (positive_part k)

-- what the code gives for w_i and μ_i, by the kind of the step and the sign of k
module _ (q : ℕ) (known : Known q) (k : ℤ) (named : NamedSymbol) (b : Sym q) where
  infixl 70 ◌⊗◌
  open symbols q use {minus, ◌⊗◌, inverse}

  pub voted-negative : (μ : Sym q) → is_negative k ≡ true → named.w ≡ 0 → named.mu ≡ 1 → NamedAs q named (in_voted_step (symbols q) q k b μ)
  unfolding in_voted_step
  voted-negative μ t ew em = record {
    w = ew ∙ (rw t (sym (laws-of q known).number-zero));
    μ = em ∙ (rw t (sym (laws-of q known).number-one));
  }

  pub voted-whole : (μ : Sym q) → is_negative k ≡ false → named.w ≡ number q (minus b ⊗ inverse μ) → named.mu ≡ number q μ
      → NamedAs q named (in_voted_step (symbols q) q k b μ)
  unfolding in_voted_step
  voted-whole μ t ew em = record { w = ew ∙ (rw t); μ = em ∙ (rw t) }

  pub unvoted-negative : is_negative k ≡ true → named.w ≡ 0 → named.mu ≡ 1 → NamedAs q named (in_unvoted_step (symbols q) q k b)
  unfolding in_unvoted_step
  unvoted-negative t ew em = record {
    w = ew ∙ (rw t (sym (laws-of q known).number-zero));
    μ = em ∙ sym (laws-of q known).number-one;
  }

  pub unvoted-whole : is_negative k ≡ false → named.w ≡ number q (minus b) → named.mu ≡ 1 → NamedAs q named (in_unvoted_step (symbols q) q k b)
  unfolding in_unvoted_step
  unvoted-whole t ew em = record { w = ew ∙ (rw t); μ = em ∙ sym (laws-of q known).number-one }

module _ (q : ℕ) (S : Polynomials (symbols q) q) (u s i : ℕ) (f g : RowLead) (ef : LeadingOf q f (cells_of q S (q + i) i))
    (eg : LeadingOf q g (cells_of q S ((q * f.degree + (q + 1) * i + s) % q) (q + (q * f.degree + (q + 1) * i + s) % q))) where
  abbrev total : ℕ
  total = q * f.degree + (q + 1) * i + s

  abbrev P : Pairing (symbols q) q
  P = pairing (symbols q) q u s S i

  -- the coefficient looked at
  abbrev b : Sym q
  b = looked (symbols q) q S i (total % q) (k_of q total)

  total-is : q * degree_f (symbols q) q S i + (q + 1) * i + s ≡ total
  total-is = ap (λ (n : ℕ). q * n + (q + 1) * i + s) (sym (degree-f q S i f ef))

  partner-is : total % q ≡ P.partner
  unfolding pairing partner_of
  partner-is = rw total-is

  c-is : pos g.degree -ℤ k_of q total ≡ P.c
  unfolding pairing partner_of
  c-is = rw (total-is, degree-g q S (total % q) g eg)

  ν-is : g.coefficient ≡ number q P.ν
  unfolding pairing partner_of
  ν-is = rw total-is (lead-g q S (total % q) g eg)

  module _ (pair : Pair) (ep : pair.partner ≡ total % q) (ec : pair.c ≡ pos g.degree -ℤ k_of q total) (en : pair.nu ≡ g.coefficient) where
    made : pair.w ≡ number q P.w → pair.mu ≡ number q P.μ → NumbersOf q pair P
    made ew em = record { partner = ep ∙ partner-is; c = ec ∙ c-is; w = ew; μ = em; ν = en ∙ ν-is }

    module _ (named : NamedSymbol) (ew : pair.w ≡ named.w) (em : pair.mu ≡ named.mu) where
      -- a voted step
      pub pair-voted : is_voted q u s ≡ true → NamedAs q named (in_voted_step (symbols q) q (k_of q total) b (lead_f (symbols q) q S i)) → NumbersOf q pair P
      unfolding pairing partner_of
      pair-voted v n = made (ew ∙ n.w ∙ (rw (total-is, v))) (em ∙ n.μ ∙ (rw (total-is, v)))

      -- a step with no vote
      pub pair-unvoted : is_voted q u s ≡ false → NamedAs q named (in_unvoted_step (symbols q) q (k_of q total) b) → NumbersOf q pair P
      unfolding pairing partner_of
      pair-unvoted v n = made (ew ∙ n.w ∙ (rw (total-is, v))) (em ∙ n.μ ∙ (rw (total-is, v)))
