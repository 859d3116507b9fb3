-- The leads of the theory are leading terms in the words of the definitions: the greatest monomials that occur. There is at
-- most one such monomial.
use mathlib.Core.Path.{◌≡◌, refl, sym, ap, ap₂, ◌∙◌, subst}
use mathlib.Core.Logic.{◌≢◌, ◌⊎◌, inl, inr, ⊎_elim}
use Prim.Native.Nat.{ℕ, zero, suc, ◌+◌, ◌-◌, ◌≤◌, ◌<◌}
use native.Mathlib.Nat as Nat
use native.Mathlib.Omega.{arith}
use native.Mathlib.Decide.{dec_le, ℕ_discrete}
use lib.Dec.{T, lt→ltb, ltb→lt}
use lib.IntN.{ℤ, pos, negsuc, sub_ℕ}
use lib.Signed.{◌<ℤ◌, lt_z, lt_z_yes, <ℤ_irrefl}
use Rattle.algebra.specs.Symbols.{Symbols}
use Rattle.algebra.specs.Weights.{weight}
use Rattle.algebra.proofs.WeightLaws.{weight-inj}
use Rattle.published.specs.Start.{start_weight, step_count, lower}
use Rattle.published.specs.Meaning.{weight_after, PartMonomial, in_upper, in_lower, weighs, Smaller, Occurs, Leading}
use Rattle.published.proofs.Parts.{Parts, SameParts, LeadsUpper, LeadsLower}
use Rattle.published.proofs.PairNumbers.{sub-pos, sub-neg}

-- of two integers not each is less than the other
asymmetric : (a b : ℤ) → T (lt_z a b) → T (lt_z b a) → ⊥
asymmetric (pos a) (pos b) h k = omega (arith, ltb→lt a b h, ltb→lt b a k)
asymmetric (pos a) (negsuc b) h k = h
asymmetric (negsuc a) (pos b) h k = k
asymmetric (negsuc a) (negsuc b) h k = omega (arith, ltb→lt b a h, ltb→lt a b k)

-- nor are two monomials each smaller than the other
smaller-once : (q : ℕ) (s : ℤ) (m n : PartMonomial) → Smaller q s m n → Smaller q s n m → ⊥
unfolding Smaller
smaller-once q s m n (inl h) (inl k) = asymmetric (weighs q s m) (weighs q s n) h.lt k.lt
smaller-once q s m n (inl h) (inr k) = <ℤ_irrefl (subst (λ a. weighs q s m <ℤ a) k.0 h)
smaller-once q s m n (inr h) (inl k) = <ℤ_irrefl (subst (λ a. weighs q s n <ℤ a) h.0 k)
smaller-once q s m n (inr h) (inr k) = omega (arith, h.1, k.2)

-- the integer n - 1
unfoldable pub one_less : ℕ → ℤ
one_less zero = negsuc 0
one_less (suc n) = pos n

-- it rises with n
one_less-order : (a b : ℕ) → a < b → one_less a <ℤ one_less b
unfolding one_less
one_less-order a zero h = absurd (omega arith)
one_less-order zero (suc b) h = lt_z_yes tt
one_less-order (suc a) (suc b) h = lt_z_yes (lt→ltb a b (omega arith))

-- it is what is left of n
one_less-sub : (n : ℕ) → sub_ℕ n 1 ≡ one_less n
unfolding one_less
one_less-sub zero = refl
one_less-sub (suc n) = sub-pos (suc n) 1 (omega arith) ∙ ap pos (omega arith)

-- the weight in force after t steps
pub weight-in-force : (q t : ℕ) → t ≤ step_count q → weight_after q t ≡ one_less (step_count q - t)
unfolding weight_after step_count one_less
weight-in-force q t h = elim (dec_le t (start_weight q)) [
  | yes l ↦ let e : start_weight q + 1 - t ≡ suc (start_weight q - t) = omega arith in rw e (sub-pos (start_weight q) t l)
  | no l ↦
      let e : start_weight q + 1 - t ≡ 0 = omega arith in
      let d : t - suc (start_weight q) ≡ 0 = omega arith in
      rw e (sub-neg (start_weight q) t (omega arith) ∙ ap negsuc d)
]

-- the weight of an upper monomial where z weighs s - 1
upper-weighs : (q s j k : ℕ) → weighs q (one_less s) (in_upper j k) ≡ one_less (weight q j k + s)
unfolding weighs one_less
upper-weighs q zero j k = one_less-sub (weight q j k) ∙ ap one_less (sym (Nat.add-zero (weight q j k)))
upper-weighs q (suc s) j k = ap one_less (sym (Nat.add-suc (weight q j k) s))

-- and of a lower one
lower-weighs : (q : ℕ) (s : ℤ) (j k : ℕ) → weighs q s (in_lower j k) ≡ one_less (suc (weight q j k))
unfolding weighs one_less
lower-weighs q s j k = refl

-- what weighs less is smaller
lighter : (q : ℕ) (s : ℤ) (m n : PartMonomial) {a b : ℕ} → weighs q s m ≡ one_less a → weighs q s n ≡ one_less b → a < b
    → Smaller q s m n
unfolding Smaller
lighter q s m n {a} {b} e e' l = inl (rw (e, e') (one_less-order a b l))

-- a lower monomial is smaller than an upper one of the same weight
tied : (q : ℕ) (s : ℤ) (j k i A : ℕ) → weighs q s (in_lower j k) ≡ weighs q s (in_upper i A)
    → Smaller q s (in_lower j k) (in_upper i A)
unfolding Smaller
tied q s j k i A e = inr (e, refl, refl)

module _ (𝓢 : Symbols) (q : ℕ) where
  open 𝓢 use {𝟘}

  -- a polynomial has one leading term at most
  pub leading_unique : {s : ℤ} {F : Parts 𝓢 q} (m n : PartMonomial) → Leading 𝓢 q s F m → Leading 𝓢 q s F n → m ≡ n
  leading_unique {s} m n a b =
      ⊎_elim (λ (e : m ≡ n). e) (λ (h : Smaller q s m n).
      ⊎_elim (λ (e : n ≡ m). sym e) (λ (k : Smaller q s n m). absurd (smaller-once q s m n h k)) (a.greatest n b.occurs))
      (b.greatest m a.occurs)

  -- a lead in the upper part is the leading term
  pub upper-leading : {s i A : ℕ} (F : Parts 𝓢 q) → i < q → LeadsUpper 𝓢 q s i A F → Leading 𝓢 q (one_less s) F (in_upper i A)
  upper-leading {s} {i} {A} F hi l = record {
    occurs = record { in_part = omega arith; in_row = hi; nonzero = l.top };
    greatest = λ n o. among n.part n.y n.x o.in_part o.in_row o.nonzero;
  }
    where
      z : ℤ
      z = one_less s

      among : (part j k : ℕ) → part ≤ lower → j < q → F part j k ≢ 𝟘
          → (record { part = part; y = j; x = k } ≡ in_upper i A)
          ⊎ Smaller q (one_less s) (record { part = part; y = j; x = k }) (in_upper i A)
      among zero j k hp hj nz = elim (dec_le (weight q j k) (weight q i A)) [
        | yes h ↦ elim (ℕ_discrete (weight q j k) (weight q i A)) [
          | yes e ↦ let same = weight-inj q j k i A hj hi e in inl (ap₂ in_upper same.0 same.1)
          | no ne ↦ inr (lighter q z (in_upper j k) (in_upper i A) (upper-weighs q s j k) (upper-weighs q s i A) (omega arith))
        ]
        | no h ↦ absurd (nz (l.up.off j k hj (omega arith)))
      ]
      among (suc zero) j k hp hj nz = elim (dec_le (suc (weight q j k)) (weight q i A + s)) [
        | yes h ↦ inr (elim (ℕ_discrete (suc (weight q j k)) (weight q i A + s)) [
          | yes e ↦ tied q z j k i A (lower-weighs q z j k ∙ ap one_less e ∙ sym (upper-weighs q s i A))
          | no ne ↦ lighter q z (in_lower j k) (in_upper i A) (lower-weighs q z j k) (upper-weighs q s i A) (omega arith)
        ])
        | no h ↦ absurd (nz (l.low.off j k hj (omega arith)))
      ]
      among (suc (suc part)) j k hp hj nz = absurd (omega arith)

  -- a lead in the lower part is the leading term
  pub lower-leading : {s j D : ℕ} (F : Parts 𝓢 q) → j < q → LeadsLower 𝓢 q s j D F → Leading 𝓢 q (one_less s) F (in_lower j D)
  lower-leading {s} {j} {D} F hj l = record {
    occurs = record { in_part = omega arith; in_row = hj; nonzero = l.top };
    greatest = λ n o. among n.part n.y n.x o.in_part o.in_row o.nonzero;
  }
    where
      z : ℤ
      z = one_less s

      among : (part b k : ℕ) → part ≤ lower → b < q → F part b k ≢ 𝟘
          → (record { part = part; y = b; x = k } ≡ in_lower j D)
          ⊎ Smaller q (one_less s) (record { part = part; y = b; x = k }) (in_lower j D)
      among zero b k hp hb nz = elim (dec_le (weight q b k + s) (weight q j D)) [
        | yes h ↦ inr (lighter q z (in_upper b k) (in_lower j D) (upper-weighs q s b k) (lower-weighs q z j D) (omega arith))
        | no h ↦ absurd (nz (l.up.off b k hb (omega arith)))
      ]
      among (suc zero) b k hp hb nz = elim (dec_le (weight q b k) (weight q j D)) [
        | yes h ↦ elim (ℕ_discrete (weight q b k) (weight q j D)) [
          | yes e ↦ let same = weight-inj q b k j D hb hj e in inl (ap₂ in_lower same.0 same.1)
          | no ne ↦ inr (lighter q z (in_lower b k) (in_lower j D) (lower-weighs q z b k) (lower-weighs q z j D) (omega arith))
        ]
        | no h ↦ absurd (nz (l.low.off b k hb (omega arith)))
      ]
      among (suc (suc part)) b k hp hb nz = absurd (omega arith)

  -- the same polynomial has the same monomials
  occurs-cong : {F G : Parts 𝓢 q} (m : PartMonomial) → SameParts 𝓢 q F G → Occurs 𝓢 q F m → Occurs 𝓢 q G m
  occurs-cong m e o = record {
    in_part = o.in_part;
    in_row = o.in_row;
    nonzero = λ z. o.nonzero (e.at m.part m.y m.x o.in_part o.in_row ∙ z);
  }

  -- and the same leading term
  pub leading-cong : {s : ℤ} {F G : Parts 𝓢 q} (m : PartMonomial) → SameParts 𝓢 q F G → Leading 𝓢 q s F m → Leading 𝓢 q s G m
  leading-cong m e l = record {
    occurs = occurs-cong m e l.occurs;
    greatest = λ n o. l.greatest n (occurs-cong n (record { at = λ part j i hp hj. sym (e.at part j i hp hj) }) o);
  }
