-- What the loops over the bytes of rows do to the cells that the bytes show.
-- Assumes nothing.
use mathlib.Core.Path.{◌≡◌, refl, sym, ap, ◌∙◌}
use mathlib.Core.List.{List, ◌++◌}
use mathlib.Core.Logic.{◌⊎◌, inl, inr, ⊎_elim}
use Prim.Native.Nat.{ℕ, ◌+◌, ◌-◌, ◌*◌, ◌%◌, ◌<◌, ◌≤◌}
use native.Mathlib.Nat.{add_assoc}
use native.Mathlib.Omega.{arith}
use lib.ListN.{get_or}
use Rattle.algebra.specs.Functions.{shift}
use Rattle.algebra.proofs.Ring.{ring, add-zero, mul-zero}
use Rattle.algebra.proofs.Polynomials.{shift-add, shift-below}
use Rattle.lists.specs.Tables.{put}
use Rattle.lists.proofs.Put.{put_same, put-out, put-put, put-kept, put-parts, put-parts-back}
use Rattle.symbols.specs.Sizes.{most_symbols}
use Rattle.symbols.specs.Rule.{Known, difference_of, symbols, number}
use Rattle.symbols.proofs.FieldLaws.{laws-of}
use Rattle.symbols.proofs.Bytes.{number-of-sum, number-of-difference, number-of-negative}
use Rattle.published.specs.Start.{width}
use Rattle.workarea.specs.declared.rows.Sign.{Sign}
use Rattle.workarea.specs.declared.rows.Sign.TheVariants.{Plus, Minus}
use Rattle.workarea.specs.Area.{numbers_made, made_byte, made, raised_byte, exchanged_above, negative_byte, exchanged_below, row_place, Counted, Cells, shown, Multiplies, with_rows, first_symbols, symbols_made, with_multiple, row_made, raised_minus}
use Rattle.workarea.proofs.Cells.{shown_read, shown-put}
use Rattle.workarea.proofs.Bytes.{made_none}
use Rattle.workarea.proofs.FirstSymbols.{first-in, first_out}

module _ (q : ℕ) (known : Known q) where
  infixl 65 ◌⊖◌
  infixl 70 ◌⊗◌
  open symbols q use {K, 𝟘, ◌⊖◌, ◌⊗◌}

  -- an operation on symbols and the same on their numbers, by which a row and zeros make the row again
  pub record Operation (operation : K → K → K) (on_numbers : ℕ → ℕ → ℕ) : Type 0 where
    pub numbers : (a b : K) → on_numbers (number q a) (number q b) ≡ number q (operation a b)
    pub none : (a : K) → operation a 𝟘 ≡ a

  -- a sum, or a difference
  pub signed : (sign : Sign) → Operation (symbols_made q sign) (numbers_made q sign)
  signed Plus = record { numbers = number-of-sum q known; none = add-zero (laws-of q known) }
  signed Minus = record { numbers = number-of-difference q known; none = λ a. simp (ring, laws-of q known) }

  module _ (operation : K → K → K) where
    -- a row and a multiple of a row
    pub multiple-is : (a : ℕ → K) (ρ : K) (c : ℕ) (b : ℕ → K) (i : ℕ) → with_multiple q operation a ρ c b i ≡ operation (a i) (ρ ⊗ shift (symbols q) q c b i)
    unfolding with_multiple
    multiple-is a ρ c b i = refl

    -- above and below the shift
    multiple-above : (a : ℕ → K) (ρ : K) (c : ℕ) (b : ℕ → K) (i : ℕ) → with_multiple q operation a ρ c b (c + i) ≡ operation (a (c + i)) (ρ ⊗ b i)
    multiple-above a ρ c b i = multiple-is a ρ c b (c + i) ∙ ap (λ (y : K). operation (a (c + i)) (ρ ⊗ y)) (shift-add (symbols q) q c b i)

    module _ (none : (a : K) → operation a 𝟘 ≡ a) where
      -- no multiple of zero changes a symbol
      nothing : (a ρ : K) → operation a (ρ ⊗ 𝟘) ≡ a
      nothing a ρ = ap (operation a) (mul-zero (laws-of q known) ρ) ∙ none a

      multiple-below : (a : ℕ → K) (ρ : K) (c : ℕ) (b : ℕ → K) (i : ℕ) → i < c → with_multiple q operation a ρ c b i ≡ a i
      multiple-below a ρ c b i h =
          multiple-is a ρ c b i ∙ ap (λ (y : K). operation (a i) (ρ ⊗ y)) (shift-below (symbols q) q c b i h) ∙ nothing (a i) ρ

      -- past the first symbols of the row that is multiplied
      multiple-past : (a : ℕ → K) (ρ : K) (h c : ℕ) (b : ℕ → K) (i : ℕ) → h ≤ i → with_multiple q operation a ρ c (first_symbols q h b) (c + i) ≡ a (c + i)
      multiple-past a ρ h c b i l =
          multiple-above a ρ c (first_symbols q h b) i ∙ ap (λ (y : K). operation (a (c + i)) (ρ ⊗ y)) (first_out q h b i l) ∙ nothing (a (c + i)) ρ

  -- x^c times a row minus a multiple of a row
  pub raised_is : (a : ℕ → K) (ρ : K) (c : ℕ) (b : ℕ → K) (i : ℕ) → raised_minus q a ρ c b i ≡ shift (symbols q) q c a i ⊖ ρ ⊗ b i
  unfolding raised_minus
  raised_is a ρ c b i = refl

  -- above and below the shift
  raised-above : (a : ℕ → K) (ρ : K) (c : ℕ) (b : ℕ → K) (i : ℕ) → raised_minus q a ρ c b (c + i) ≡ a i ⊖ ρ ⊗ b (c + i)
  raised-above a ρ c b i = raised_is a ρ c b (c + i) ∙ ap (λ (y : K). y ⊖ ρ ⊗ b (c + i)) (shift-add (symbols q) q c a i)

  raised_below : (a : ℕ → K) (ρ : K) (c : ℕ) (b : ℕ → K) (i : ℕ) → i < c → raised_minus q a ρ c b i ≡ 𝟘 ⊖ ρ ⊗ b i
  raised_below a ρ c b i h =
      raised_is a ρ c b i ∙ ap (λ (y : K). y ⊖ ρ ⊗ b i) (shift-below (symbols q) q c a i h)

  module _ (S : Cells q) (l rest : List ℕ) (e : l ≡ shown q S ++ rest) (p r p' r' : ℕ)
      (hp : p < 2 * q) (hr : r < 2 * q) (hp' : p' < 2 * q) (hr' : r' < 2 * q) (products : List ℕ) (ρ : K) (m : Multiplies q products ρ) where
    -- a byte read, and its product
    byte : (i : ℕ) → i < width q → get_or l (row_place q p r + i) 0 ≡ number q (S p r i)
    byte i h = shown_read q S l rest e p r i hp hr h

    product : (i : ℕ) → i < width q → get_or products (get_or l (row_place q p' r' + i) 0 % most_symbols) 0 ≡ number q (ρ ⊗ S p' r' i)
    product i h = rw (shown_read q S l rest e p' r' i hp' hr' h) (m.at (S p' r' i))

    negative : (i : ℕ) → i < width q → negative_byte q l (row_place q p' r') products i ≡ number q (𝟘 ⊖ ρ ⊗ S p' r' i)
    negative i h = ap (difference_of q 0) (product i h) ∙ number-of-negative q known (ρ ⊗ S p' r' i)

    module _ (operation : K → K → K) (on_numbers : ℕ → ℕ → ℕ) (laws : Operation operation on_numbers) (h c : ℕ) where
      abbrev to : ℕ
      to = row_place q p r

      abbrev F : ℕ → K
      F = with_multiple q operation (S p r) ρ c (first_symbols q h (S p' r'))

      v : ℕ → ℕ
      v i = number q (F i)

      -- n bytes from the shift on take their multiples: those of the first h symbols, as far as the row goes
      module _ (n : ℕ) (within : c + n ≤ width q) (few : n ≤ h) (all : (h ≤ n) ⊎ (width q ≤ c + n)) where
        kept-below : put l to c v ≡ l
        unfolding v
        kept-below = put-kept l to c v 0 (λ i hi. ap (number q) (multiple-below operation laws.none (S p r) ρ c (first_symbols q h (S p' r')) i hi) ∙ sym (byte i (omega arith)))

        kept_above : (i : ℕ) → i < width q - (c + n) → v (c + n + i) ≡ get_or l (to + (c + n) + i) 0
        unfolding v
        kept_above i hi =
            let low : h ≤ n + i = ⊎_elim (λ (a : h ≤ n). omega arith) (λ (a : width q ≤ c + n). absurd (omega arith)) all in
            ap (λ (k : ℕ). number q (F k)) (add_assoc c n i)
            ∙ ap (number q) (multiple-past operation laws.none (S p r) ρ h c (S p' r') (n + i) low)
            ∙ ap (λ (k : ℕ). number q (S p r k)) (sym (add_assoc c n i))
            ∙ sym (byte (c + n + i) (omega arith))
            ∙ ap (λ (k : ℕ). get_or l k 0) (sym (add_assoc to (c + n) i))

        stored : (i : ℕ) → i < n → made_byte on_numbers l (to + c) (row_place q p' r') products i ≡ v (c + i)
        unfolding v
        stored i hi =
            rw (add_assoc to c i, byte (c + i) (omega arith), product i (omega arith), multiple-above operation (S p r) ρ c (first_symbols q h (S p' r')) i, first-in q h (S p' r') i (omega arith))
            (laws.numbers (S p r (c + i)) (ρ ⊗ S p' r' i))

        reached : made on_numbers l (to + c) (row_place q p' r') n products ≡ shown q (row_made q operation p r p' r' h c ρ S) ++ rest
        unfolding made row_made v
        reached =
            put_same l (to + c) n (made_byte on_numbers l (to + c) (row_place q p' r') products) (λ i. v (c + i)) stored
            ∙ ap (λ (w : List ℕ). put w (to + c) n (λ i. v (c + i))) (sym kept-below)
            ∙ put-parts l to c n v
            ∙ ap (λ (w : List ℕ). put w to (c + n) v) (sym (put-kept l (to + (c + n)) (width q - (c + n)) (λ i. v (c + n + i)) 0 kept_above))
            ∙ put-parts-back l to (c + n) (width q - (c + n)) v
            ∙ ap (λ (k : ℕ). put l to k v) (omega arith)
            ∙ shown-put q S l rest e p r v F hp hr (λ i hi. refl)

      -- past the width nothing changes
      past : width q ≤ c → l ≡ shown q (row_made q operation p r p' r' h c ρ S) ++ rest
      unfolding row_made v
      past wide =
          sym (put-kept l to (width q) v 0
          (λ i hi. ap (number q) (multiple-below operation laws.none (S p r) ρ c (first_symbols q h (S p' r')) i (omega arith)) ∙ sym (byte i hi)))
          ∙ shown-put q S l rest e p r v F hp hr (λ i hi. refl)

      -- the bytes of the two rows that are reached, made one by the operation on their numbers
      pub row-law : (i k n : ℕ) → k ≡ row_place q p' r' → ((width q ≤ c) × (n ≡ 0)) ⊎ ((i ≡ to + c) × Counted (width q) c h n)
          → made on_numbers l i k n products ≡ shown q (row_made q operation p r p' r' h c ρ S) ++ rest
      row-law i k n other =
          ⊎_elim
          (λ (none : (width q ≤ c) × (n ≡ 0)). rw none.1 (made_none on_numbers l i k products ∙ past none.0))
          (λ (some : (i ≡ to + c) × Counted (width q) c h n). rw (some.0, other) (reached n some.1.within some.1.few some.1.all))

    module _ (apart : (row_place q p r + width q ≤ row_place q p' r') ⊎ (row_place q p' r' + width q ≤ row_place q p r)) where
      -- both rows' bytes replaced are the two rows exchanged
      both-rows : (c : ℕ)
          → put (put l (row_place q p r) (width q) (λ i. number q (raised_minus q (S p r) ρ c (S p' r') i))) (row_place q p' r') (width q) (λ i. number q (S p r i))
          ≡ shown q (with_rows q p' r' 1 (λ n. S p r) (with_rows q p r 1 (λ n. raised_minus q (S p r) ρ c (S p' r')) S)) ++ rest
      both-rows c =
          let F = raised_minus q (S p r) ρ c (S p' r') in
          shown-put q (with_rows q p r 1 (λ n. F) S) (put l (row_place q p r) (width q) (λ i. number q (F i))) rest
          (shown-put q S l rest e p r (λ i. number q (F i)) F hp hr (λ i hi. refl))
          p' r' (λ i. number q (S p r i)) (S p r) hp' hr' (λ i hi. refl)

      -- a shift past the width: all bytes are exchanged as where nothing stands below
      pub exchange-past : (c : ℕ) → width q ≤ c
          → exchanged_below q l (row_place q p r) (row_place q p' r') products (width q)
          ≡ shown q (with_rows q p' r' 1 (λ n. S p r) (with_rows q p r 1 (λ n. raised_minus q (S p r) ρ c (S p' r')) S)) ++ rest
      unfolding exchanged_below
      exchange-past c h =
          put_same (put l f W (negative_byte q l g products)) g W (λ i. get_or l (f + i) 0) (λ i. number q (S p r i)) byte
          ∙ ap (λ (w : List ℕ). put w g W (λ i. number q (S p r i)))
          (put_same l f W (negative_byte q l g products) v
          (λ i hi. negative i hi ∙ ap (number q) (sym (raised_below (S p r) ρ c (S p' r') i (omega arith)))))
          ∙ both-rows c
        where
          f : ℕ
          f = row_place q p r

          g : ℕ
          g = row_place q p' r'

          W : ℕ
          W = width q

          v : ℕ → ℕ
          v i = number q (raised_minus q (S p r) ρ c (S p' r') i)

      -- the bytes from the shift on, and then those below it
      pub exchange-law : (c : ℕ) → c ≤ width q
          → exchanged_below q (exchanged_above q l (row_place q p r) (row_place q p' r') c products c (width q - c)) (row_place q p r) (row_place q p' r') products c
          ≡ shown q (with_rows q p' r' 1 (λ n. S p r) (with_rows q p r 1 (λ n. raised_minus q (S p r) ρ c (S p' r')) S)) ++ rest
      unfolding exchanged_above exchanged_below
      exchange-law c h =
          put_same (put upper f c (negative_byte q upper g products)) g c (λ i. get_or upper (f + i) 0) w
          (λ i hi. at_f i hi ∙ byte i (omega arith))
          ∙ ap (λ (z : List ℕ). put z g c w)
          (put_same upper f c (negative_byte q upper g products) v below
          ∙ ap (λ (z : List ℕ). put z f c v)
          (ap (λ (z : List ℕ). put z (g + c) n (λ k. get_or l (f + (c + k)) 0)) (put_same l (f + c) n (λ k. raised_byte q l f g c products (c + k)) (λ k. v (c + k)) above)
          ∙ put_same (put l (f + c) n (λ k. v (c + k))) (g + c) n (λ k. get_or l (f + (c + k)) 0) (λ k. w (c + k)) (λ k hk. byte (c + k) (omega arith)))
          ∙ put-put (put l (f + c) n (λ k. v (c + k))) (g + c) n (λ k. w (c + k)) f c v (⊎_elim (λ a. inr (omega arith)) (λ a. inl (omega arith)) apart)
          ∙ ap (λ (z : List ℕ). put z (g + c) n (λ k. w (c + k))) (put-parts-back l f c n v))
          ∙ put-parts-back (put l f (c + n) v) g c n w
          ∙ (rw wide (both-rows c))
        where
          f : ℕ
          f = row_place q p r

          g : ℕ
          g = row_place q p' r'

          n : ℕ
          n = width q - c

          v : ℕ → ℕ
          v i = number q (raised_minus q (S p r) ρ c (S p' r') i)

          w : ℕ → ℕ
          w i = number q (S p r i)

          wide : c + n ≡ width q
          wide = omega arith

          lower : List ℕ
          lower = put l (f + c) n (λ k. raised_byte q l f g c products (c + k))

          upper : List ℕ
          upper = put lower (g + c) n (λ k. get_or l (f + (c + k)) 0)

          at_f : (i : ℕ) → i < c → get_or upper (f + i) 0 ≡ get_or l (f + i) 0
          at_f i hi =
              put-out lower (g + c) n (λ k. get_or l (f + (c + k)) 0) (f + i) 0 (⊎_elim (λ a. inl (omega arith)) (λ a. inr (omega arith)) apart)
              ∙ put-out l (f + c) n (λ k. raised_byte q l f g c products (c + k)) (f + i) 0 (inl (omega arith))

          at_g : (i : ℕ) → i < c → get_or upper (g + i) 0 ≡ get_or l (g + i) 0
          at_g i hi =
              put-out lower (g + c) n (λ k. get_or l (f + (c + k)) 0) (g + i) 0 (inl (omega arith))
              ∙ put-out l (f + c) n (λ k. raised_byte q l f g c products (c + k)) (g + i) 0 (⊎_elim (λ a. inr (omega arith)) (λ a. inl (omega arith)) apart)

          below : (i : ℕ) → i < c → negative_byte q upper g products i ≡ v i
          below i hi =
              ap (λ (a : ℕ). difference_of q 0 (get_or products (a % most_symbols) 0)) (at_g i hi)
              ∙ negative i (omega arith)
              ∙ ap (number q) (sym (raised_below (S p r) ρ c (S p' r') i hi))

          above : (k : ℕ) → k < n → raised_byte q l f g c products (c + k) ≡ v (c + k)
          above k hk =
              let z : c + k - c ≡ k = omega arith in
              rw (z, byte k (omega arith), product (c + k) (omega arith), raised-above (S p r) ρ c (S p' r') k)
              (number-of-difference q known (S p r k) (ρ ⊗ S p' r' (c + k)))
