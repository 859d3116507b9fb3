-- Document 01's rule for a pair, after the substitution, is a step of the theory.
use mathlib.Core.Path.{◌≡◌, sym, ap, ◌∙◌}
use mathlib.Core.Bool.{true, false}
use mathlib.Core.List.{[]}
use Prim.Native.Nat.{ℕ, suc, ◌+◌, ◌≤◌, ◌<◌}
use native.Mathlib.Omega.{arith}
use native.Mathlib.Decide.{dec_le}
use lib.Dec.{ltb}
use lib.ListN.{get_or}
use borrow.Author.Tests.{ltb-true, ltb-false}
use Rattle.algebra.specs.Symbols.{Symbols, Laws, same}
use Rattle.algebra.specs.Weights.{weight}
use Rattle.algebra.specs.Functions.{times_x}
use Rattle.algebra.proofs.Ring.{equal-same}
use Rattle.algebra.proofs.Partners.{Paired, pair_place, pair_row}
use Rattle.algebra.proofs.Bounds.{plus-minus, x-zero}
use Rattle.published.specs.Start.{Polynomials, lower, f, g, coefficient}
use Rattle.published.specs.Pairing.{Pairing, pairing, degree_f, degree_g, is_voted, is_negative, positive_part, negative_part}
use Rattle.published.specs.Steps.{substituted, raised_part, reduced_part, ratio, changed, pairings}
use Rattle.published.specs.Meaning.{vote_on}
use Rattle.published.proofs.Tests.{decided}
use Rattle.published.proofs.Parts.{Parts, SameParts}
use Rattle.published.proofs.Reading.{coefficient-cong, coefficient-made}
use Rattle.published.proofs.Reading.{replaced-here, replaced-other, exchanged-f, exchanged-g}
use Rattle.published.proofs.Simultaneous.{raised_f, reduced_f, changed-kept, changed-raised, changed-reduced}
use Rattle.published.proofs.PairNumbers.{one-part, pairing-paired, pairing-even, k-negative, negative-unvoted}
use Rattle.published.proofs.PairSymbols.{unvoted, w-negative}
use Rattle.published.proofs.PairStep.{combined, PairStep, kept, raised, reduced}
use Rattle.published.proofs.InPlace.{InPlace}
use Rattle.published.proofs.PairGap.{partner-below, raised-narrow, reduced-narrow}
use Rattle.published.proofs.PairGap.{k, heavy, ratio-cancels, some-there, none-there}

-- some step of the theory
pub record Outcome (𝓢 : Symbols) (q s i j A D : ℕ) (F G F' G' : Parts 𝓢 q) : Type 0 where
  pub A' : ℕ
  pub D' : ℕ
  pub made : PairStep 𝓢 q s i j A D F G A' D' F' G'

module _ {𝓢 : Symbols} {q : ℕ} (𝓛 : Laws 𝓢 q) where
  infixl 65 ◌⊖◌
  infixl 70 ◌⊗◌
  open 𝓢 use {K, 𝟘, ◌⊖◌, minus, ◌⊗◌}

  -- the update for c > 0 as a sum of multiples
  raised-sum : (S : Polynomials 𝓢 q) (i j c : ℕ) (r : K) (part b n : ℕ)
      → combined 𝓢 q c 0 (minus r) (coefficient 𝓢 q S (f q i)) (coefficient 𝓢 q S (g q j)) part b n
      ≡ raised_part 𝓢 q S i j c r part b n
  unfolding combined raised_part
  raised-sum S i j c r part b n =
      let F = coefficient 𝓢 q S (f q i) part in
      let G = coefficient 𝓢 q S (g q j) part in
      plus-minus 𝓛 r (times_x 𝓢 q c F) (times_x 𝓢 q 0 G) b n ∙ ap (λ z. times_x 𝓢 q c F b n ⊖ r ⊗ z) (x-zero 𝓢 q G b n)

  -- and the one for c ≤ 0
  reduced-sum : (S : Polynomials 𝓢 q) (i j c : ℕ) (r : K) (part b n : ℕ)
      → combined 𝓢 q 0 c (minus r) (coefficient 𝓢 q S (f q i)) (coefficient 𝓢 q S (g q j)) part b n
      ≡ reduced_part 𝓢 q S i j c r part b n
  unfolding combined reduced_part
  reduced-sum S i j c r part b n =
      let F = coefficient 𝓢 q S (f q i) part in
      let G = coefficient 𝓢 q S (g q j) part in
      plus-minus 𝓛 r (times_x 𝓢 q 0 F) (times_x 𝓢 q c G) b n ∙ ap (λ z. z ⊖ r ⊗ times_x 𝓢 q c G b n) (x-zero 𝓢 q F b n)

  module _ (u s : ℕ) (S : Polynomials 𝓢 q) (led : InPlace 𝓢 q (suc s) S) (i : ℕ) (hi : i < q) where
    -- the vote, the polynomials after the substitution, the numbers of pair i
    abbrev w : K
    w = vote_on 𝓢 q u s S

    abbrev S' : Polynomials 𝓢 q
    S' = substituted 𝓢 q s w S

    abbrev P : Pairing 𝓢 q
    P = pairing 𝓢 q u s S i

    abbrev j : ℕ
    j = P.partner

    abbrev A : ℕ
    A = degree_f 𝓢 q S i

    abbrev D : ℕ
    D = degree_g 𝓢 q S j

    -- the pair before, and the polynomials after
    abbrev F : Parts 𝓢 q
    F = coefficient 𝓢 q S' (f q i)

    abbrev G : Parts 𝓢 q
    G = coefficient 𝓢 q S' (g q j)

    abbrev T : Polynomials 𝓢 q
    T = changed 𝓢 q w i P S'

    -- what is to be shown
    abbrev Made : Type 0
    Made = Outcome 𝓢 q s i j A D F G (coefficient 𝓢 q T (f q i)) (coefficient 𝓢 q T (g q j))

    -- i' is the partner of i
    abbrev pair : Paired q s i j
    pair = pairing-paired 𝓢 q u s S i hi

    -- polynomial p of T, read off the case of the rule
    read : {R : Polynomials 𝓢 q} (p : ℕ) → T ≡ R → get_or T p [] ≡ get_or R p []
    read p e = ap (λ (R : Polynomials 𝓢 q). get_or R p []) e

    -- a polynomial of T that is an old one
    old : (p p' : ℕ) → get_or T p [] ≡ get_or S' p' [] → SameParts 𝓢 q (coefficient 𝓢 q S' p') (coefficient 𝓢 q T p)
    old p p' e = record {
      at = λ part b n hp hb. ap (λ (H : Parts 𝓢 q). H part b n) (sym (coefficient-cong 𝓢 q T S' p p' e));
    }

    -- w_i = w: both stay
    rule-kept : same 𝓢 P.w w ≡ true → ((b n : ℕ) → b < q → weight q b n ≡ weight q i A + s → F lower b n ≡ 𝟘) → Made
    rule-kept t none =
        let same = changed-kept 𝓢 q w i P S' t in
        record {
          A' = A;
          D' = D;
          made = kept none (old (f q i) (f q i) (read (f q i) same)) (old (g q j) (g q j) (read (g q j) same));
        }

    -- w_i ≠ w, c > 0: f_i goes to g_i', and x^c f_i - r·g_i' takes its place
    rule-raised : j ≤ A + i + pair.t → same 𝓢 P.w w ≡ false → ltb 0 (positive_part P.c) ≡ true → Made
    unfolding raised_f
    rule-raised h m l =
        let c = positive_part P.c in
        let r = ratio 𝓢 q w P in
        let exchanged = changed-raised 𝓢 q w i P S' m l in
        let new-f = read (f q i) exchanged ∙ exchanged-f 𝓢 q i j (raised_f 𝓢 q w i P S') S' hi in
        let new-g = read (g q j) exchanged ∙ exchanged-g 𝓢 q i j (raised_f 𝓢 q w i P S') S' (partner-below 𝓛 u s S led i hi) in
        let made-f = coefficient-made 𝓢 q T (f q i) (raised_part 𝓢 q S' i j c r) new-f (raised-narrow 𝓛 u s S led i hi r) in
        record {
          A' = c + A;
          D' = k 𝓛 u s S led i hi h;
          made = raised c (k 𝓛 u s S led i hi h) (minus r) (heavy 𝓛 u s S led i hi h)
              (omega (arith, pairing-even 𝓢 q u s S i hi, one-part P.c (ltb-true 0 c l)))
              (some-there 𝓛 u s S led i hi h m) (ratio-cancels 𝓛 u s S led i hi h)
              (record { at = λ part b n hp hb. raised-sum S' i j c r part b n ∙ sym (made-f part b n hp hb) })
              (old (g q j) (f q i) new-g);
        }

    -- w_i ≠ w, c ≤ 0: f_i - r·x^(-c)·g_i' takes the place of f_i
    rule-reduced : j ≤ A + i + pair.t → same 𝓢 P.w w ≡ false → ltb 0 (positive_part P.c) ≡ false → Made
    unfolding reduced_f
    rule-reduced h m l =
        let c = negative_part P.c in
        let r = ratio 𝓢 q w P in
        let row = partner-below 𝓛 u s S led i hi in
        let replaced = changed-reduced 𝓢 q w i P S' m l in
        let new-f = read (f q i) replaced ∙ replaced-here 𝓢 q i (reduced_f 𝓢 q w i P S') S' hi in
        let old-g = replaced-other 𝓢 q i (reduced_f 𝓢 q w i P S') S' (g q j) (omega arith) (λ e. absurd (omega arith)) in
        let made-f = coefficient-made 𝓢 q T (f q i) (reduced_part 𝓢 q S' i j c r) new-f (reduced-narrow 𝓛 u s S led i hi r) in
        record {
          A' = A;
          D' = D;
          made = reduced c (k 𝓛 u s S led i hi h) (minus r) (heavy 𝓛 u s S led i hi h)
              (omega (arith, pairing-even 𝓢 q u s S i hi, ltb-false 0 (positive_part P.c) l))
              (ratio-cancels 𝓛 u s S led i hi h)
              (record { at = λ part b n hp hb. reduced-sum S' i j c r part b n ∙ sym (made-f part b n hp hb) })
              (old (g q j) (g q j) (read (g q j) replaced ∙ old-g));
        }

    -- k is negative: the step is unvoted and w_i = w = 0, and no monomial has that weight
    rule-negative : A + i + pair.t < j → Made
    unfolding vote_on
    rule-negative h = rule-kept (equal-same 𝓛 P.w w (w-negative 𝓢 q u s S i no-vote negative ∙ sym zero-vote)) none
      where
        negative : is_negative P.k ≡ true
        negative = k-negative 𝓢 q u s S i hi h

        no-vote : is_voted q u s ≡ false
        no-vote = negative-unvoted 𝓢 q u s S i hi h

        zero-vote : w ≡ 𝟘
        zero-vote = unvoted 𝓢 q u s (pairings 𝓢 q u s S) no-vote

        none : (b n : ℕ) → b < q → weight q b n ≡ weight q i A + s → F lower b n ≡ 𝟘
        none b n hb e =
            let row = pair_row q pair A b n hb e in
            absurd (omega (arith, pair_place q pair A n (sym (rw row at e))))

    -- what document 01's rule makes of the pair (f_i, g_i')
    pub pair-rule : Made
    pair-rule = elim (dec_le j (A + i + pair.t)) [
      | yes h ↦ decided (same 𝓢 P.w w) (λ t. rule-kept t (none-there 𝓛 u s S led i hi h t)) (λ m.
          decided (ltb 0 (positive_part P.c)) (rule-raised h m) (rule-reduced h m))
      | no h ↦ rule-negative (omega arith)
    ]
