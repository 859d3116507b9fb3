-- One pair of a step after the substitution: both updates fit the width, and where k is not negative, β, which f_i then has
-- at x^k y^i' in its lower part, is μ_i(w - w_i). So w_i = w says that β is zero, and r = β/ν cancels it.
use mathlib.Core.Path.{◌≡◌, sym, ap, ap₂, ◌∙◌}
use mathlib.Core.Logic.{◌≢◌, inl, inr, ⊎_elim}
use mathlib.Core.Bool.{true, false}
use Prim.Native.Nat.{ℕ, suc, ◌+◌, ◌*◌, ◌-◌, ◌≤◌, ◌<◌}
use native.Mathlib.Omega.{arith}
use native.Mathlib.Decide.{dec_lt}
use lib.IntN.{pos}
use Rattle.algebra.specs.Symbols.{Symbols, Laws, same}
use Rattle.algebra.specs.Weights.{weight, nongap}
use Rattle.algebra.proofs.Ring.{ring, linear, zero-factor, sub-ne, divide-back, same_true, same_false}
use Rattle.algebra.proofs.Powers.{two-le-q}
use Rattle.algebra.proofs.WeightLaws.{weight-inj}
use Rattle.algebra.proofs.Partners.{Paired, pair-weight}
use Rattle.algebra.proofs.Bounds.{cut-x, cut-width}
use Rattle.published.specs.Start.{Polynomials, width, lower, f, g, coefficient}
use Rattle.published.specs.Pairing.{Pairing, pairing, degree_f, degree_g, lead_f, is_voted, positive_part, negative_part}
use Rattle.published.specs.Steps.{substituted, raised_part, reduced_part, ratio, pairings}
use Rattle.published.specs.Meaning.{vote_on}
use Rattle.published.proofs.Tests.{decided}
use Rattle.published.proofs.Widths.{degree-fits}
use Rattle.published.proofs.Parts.{Parts, Narrow, LeadsUpper, LeadsLower}
use Rattle.published.proofs.Parts.{upper-cut, lower-cut, upper-narrow, lower-narrow}
use Rattle.published.proofs.PairNumbers.{one-part, pairing-paired, pairing-weights, k-whole}
use Rattle.published.proofs.PairSymbols.{vote-placed, unvoted, w-voted, μ-voted, w-unvoted, μ-unvoted}
use Rattle.published.proofs.InPlace.{InPlace}
use Rattle.published.proofs.Substitution.{Substitutable, substituted-f, substituted-g}
use Rattle.published.proofs.Substitution.{substituted-looked, substituted-top}

module _ {𝓢 : Symbols} {q : ℕ} (𝓛 : Laws 𝓢 q) where
  infixl 65 ◌⊕◌ ◌⊖◌
  infixl 70 ◌⊗◌
  open 𝓢 use {K, 𝟘, 𝟙, ◌⊕◌, ◌⊖◌, minus, ◌⊗◌, inverse}

  -- in a voted step: μ(w + b/μ) = b + w μ
  voted-gap : (b w μ : K) → μ ≢ 𝟘 → μ ⊗ (w ⊖ minus b ⊗ inverse μ) ≡ b ⊕ w ⊗ μ
  voted-gap b w μ h = linear 𝓛 (ap (λ x. b ⊗ x) (𝓛.mul-inverse μ h)) (simp (ring, 𝓛))

  -- in an unvoted one: w + b = b + w μ with w = 0
  unvoted-gap : (b w μ : K) → w ≡ 𝟘 → 𝟙 ⊗ (w ⊖ minus b) ≡ b ⊕ w ⊗ μ
  unvoted-gap b w μ e = rw e (simp (ring, 𝓛))

  -- b - (b/ν)ν = 0
  ratio-gap : (b ν : K) → ν ≢ 𝟘 → b ⊕ minus (b ⊗ inverse ν) ⊗ ν ≡ 𝟘
  ratio-gap b ν h = linear 𝓛 (sym (divide-back 𝓛 b ν h)) (simp (ring, 𝓛))

  module _ (u s : ℕ) (S : Polynomials 𝓢 q) where
    -- the vote can be substituted
    pub vote-substitutable : Substitutable 𝓢 q s (vote_on 𝓢 q u s S)
    unfolding vote_on
    vote-substitutable =
        ⊎_elim inl (λ (v : (s ≤ u) × (nongap q s ≡ true)). inr v.1) (vote-placed 𝓢 q u s (pairings 𝓢 q u s S))

    module _ (led : InPlace 𝓢 q (suc s) S) (i : ℕ) (hi : i < q) where
      -- the polynomials after the substitution, the vote, the numbers of pair i
      abbrev S' : Polynomials 𝓢 q
      S' = substituted 𝓢 q s (vote_on 𝓢 q u s S) S

      abbrev w : K
      w = vote_on 𝓢 q u s S

      abbrev P : Pairing 𝓢 q
      P = pairing 𝓢 q u s S i

      abbrev j : ℕ
      j = P.partner

      abbrev A : ℕ
      A = degree_f 𝓢 q S i

      abbrev D : ℕ
      D = degree_g 𝓢 q S j

      -- the pair after the substitution
      abbrev F : Parts 𝓢 q
      F = coefficient 𝓢 q S' (f q i)

      abbrev G : Parts 𝓢 q
      G = coefficient 𝓢 q S' (g q j)

      abbrev pair : Paired q s i j
      pair = pairing-paired 𝓢 q u s S i hi

      -- i' is a row
      pub partner-below : j < q
      partner-below = pair.small'

      -- the leads of the pair
      lead-of-f : LeadsUpper 𝓢 q (suc s) i A F
      lead-of-f = substituted-f 𝓛 s w S vote-substitutable led i hi

      -- that of g_i'
      lead-of-g : LeadsLower 𝓢 q (suc s) j D G
      lead-of-g = substituted-g 𝓛 s w S vote-substitutable led j partner-below

      -- which fits
      fit-of-g : weight q j D + 1 < q * width q
      fit-of-g = degree-fits q (two-le-q 𝓛) j D partner-below (led.fit_g j partner-below)

      -- x^max(c, 0) f_i fits the width
      raised-fits : weight q i A + suc s + q * positive_part P.c < q * width q
      raised-fits =
          let weights = pairing-weights 𝓢 q u s S i hi in
          elim (dec_lt 0 (positive_part P.c)) [
            | yes l ↦ omega (arith, fit-of-g, ap (λ n. q * n) (one-part P.c l))
            | no l ↦ let none : positive_part P.c ≡ 0 = omega arith in omega (arith, led.fit_f i hi, ap (λ n. q * n) none)
          ]

      -- and so does x^max(-c, 0) g_j
      reduced-fits : weight q j D + q * negative_part P.c < q * width q
      reduced-fits = omega (arith, pairing-weights 𝓢 q u s S i hi, raised-fits)

      -- so the update for c > 0 gives nothing past the width
      pub raised-narrow : (r : K) → Narrow 𝓢 q (raised_part 𝓢 q S' i j (positive_part P.c) r)
      unfolding raised_part
      raised-narrow r part b n hp hb hn =
          let cut = cut-x 𝓢 q (positive_part P.c) (upper-cut 𝓢 q F lead-of-f part hp) in
          ap₂ (λ x y. x ⊖ r ⊗ y) (cut-width 𝓢 q (width q) cut raised-fits b n hb hn)
          (lower-narrow 𝓢 q G lead-of-g fit-of-g part b n hp hb hn)
          ∙ simp (ring, 𝓛)

      -- nor does the one for c ≤ 0
      pub reduced-narrow : (r : K) → Narrow 𝓢 q (reduced_part 𝓢 q S' i j (negative_part P.c) r)
      unfolding reduced_part
      reduced-narrow r part b n hp hb hn =
          let cut = cut-x 𝓢 q (negative_part P.c) (lower-cut 𝓢 q G lead-of-g part hp) in
          ap₂ (λ x y. x ⊖ r ⊗ y) (upper-narrow 𝓢 q F lead-of-f (led.fit_f i hi) part b n hp hb hn)
          (cut-width 𝓢 q (width q) cut reduced-fits b n hb hn)
          ∙ simp (ring, 𝓛)

      -- k is not negative
      module _ (h : j ≤ A + i + pair.t) where
        -- its value
        abbrev pub k : ℕ
        k = A + i + pair.t - j

        -- it is the k of the rule
        is_whole : P.k ≡ pos k
        is_whole = k-whole 𝓢 q u s S i hi h

        -- x^k y^j has the weight of the lead of f_i
        pub heavy : weight q i A + s ≡ weight q j k
        heavy = pair-weight q pair A k (omega arith)

        -- the coefficient b of the rule
        b : K
        b = coefficient 𝓢 q S (f q i) lower j k

        -- the leading coefficient of f_i is not zero
        top-ne : lead_f 𝓢 q S i ≢ 𝟘
        unfolding lead_f
        top-ne = (led.lead_f i hi).top

        -- nor is μ_i
        μ-ne : P.μ ≢ 𝟘
        μ-ne z =
            decided (is_voted q u s)
            (λ v. top-ne (sym (μ-voted 𝓢 q u s S i v k is_whole) ∙ z))
            (λ v. 𝓛.one-ne-zero (sym (μ-unvoted 𝓢 q u s S i v) ∙ z))

        -- μ_i(w - w_i) is β
        gap_is : P.μ ⊗ (w ⊖ P.w) ≡ F lower j k
        unfolding b vote_on
        gap_is =
            decided (is_voted q u s)
            (λ v.
            ap₂ (λ m x. m ⊗ (w ⊖ x)) (μ-voted 𝓢 q u s S i v k is_whole) (w-voted 𝓢 q u s S i v k is_whole)
            ∙ voted-gap b w (lead_f 𝓢 q S i) top-ne)
            (λ v.
            ap₂ (λ m x. m ⊗ (w ⊖ x)) (μ-unvoted 𝓢 q u s S i v) (w-unvoted 𝓢 q u s S i v k is_whole)
            ∙ unvoted-gap b w (lead_f 𝓢 q S i) (unvoted 𝓢 q u s (pairings 𝓢 q u s S) v))
            ∙ sym (substituted-looked 𝓛 s w S vote-substitutable led i j k hi partner-below heavy)

        -- r cancels β against the leading coefficient of g_j
        pub ratio-cancels : F lower j k ⊕ minus (ratio 𝓢 q w P) ⊗ G lower j D ≡ 𝟘
        unfolding ratio pairing
        ratio-cancels =
            let ν = substituted-top 𝓛 s w S vote-substitutable led j partner-below in
            ap₂ (λ x y. F lower j k ⊕ minus (x ⊗ inverse y) ⊗ G lower j D) gap_is (sym ν)
            ∙ ratio-gap (F lower j k) (G lower j D) lead-of-g.top

        -- w_i ≠ w: β is not zero
        pub some-there : same 𝓢 P.w w ≡ false → F lower j k ≢ 𝟘
        some-there t z =
            sub-ne 𝓛 (λ e. same_false 𝓛 P.w w t (sym e)) (zero-factor 𝓛 P.μ (w ⊖ P.w) (gap_is ∙ z) μ-ne)

        -- w_i = w: β is zero, and with it every coefficient of that weight
        pub none-there : same 𝓢 P.w w ≡ true → (b n : ℕ) → b < q → weight q b n ≡ weight q i A + s → F lower b n ≡ 𝟘
        none-there t b n hb e =
            let place = weight-inj q b n j k hb partner-below (e ∙ heavy) in
            let w= = same_true 𝓛 P.w w t in
            ap₂ (F lower) place.0 place.1 ∙ sym gap_is ∙ ap (λ v. P.μ ⊗ (w ⊖ v)) w= ∙ simp (ring, 𝓛)
