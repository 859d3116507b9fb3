-- One turn of each loop over the bytes of rows: what it reads, no turn before has changed.
-- Assumes nothing.
use mathlib.Core.Path.{◌≡◌, refl, ap, ◌∙◌}
use mathlib.Core.List.{List}
use mathlib.Core.Logic.{◌⊎◌, inl, inr, ⊎_elim}
use Prim.Native.Nat.{ℕ, ◌+◌, ◌-◌, ◌<◌, ◌≤◌}
use native.Mathlib.Nat.{add-zero}
use native.Mathlib.Omega.{arith}
use lib.ListN.{get_or, set}
use Rattle.lists.specs.Tables.{put}
use Rattle.lists.proofs.Put.{put-none, put-more, put-out, put_same, put-parts-back, set-put}
use Rattle.workarea.specs.Area.{made_byte, made, raised_byte, exchanged_above, negative_byte, exchanged_below}

module _ (operation : ℕ → ℕ → ℕ) where
  -- no byte is stored yet
  pub made_none : (l : List ℕ) (to from : ℕ) (products : List ℕ) → made operation l to from 0 products ≡ l
  unfolding made
  made_none l to from products = put-none l to (made_byte operation l to from products)

  -- the next byte is stored
  pub made_more : (l w : List ℕ) (to from count : ℕ) (products : List ℕ) (i : ℕ) → (to + count ≤ from) ⊎ (from + count ≤ to) → i < count
      → w ≡ made operation l to from i products
      → set w (to + i) (made_byte operation w to from products i) ≡ made operation l to from (i + 1) products
  unfolding made
  made_more l w to from count products i apart more e =
      let f = made_byte operation l to from products in
      let here : get_or (put l to i f) (to + i) 0 ≡ get_or l (to + i) 0 = put-out l to i f (to + i) 0 (inr (omega arith)) in
      let there : get_or (put l to i f) (from + i) 0 ≡ get_or l (from + i) 0 =
      put-out l to i f (from + i) 0 (⊎_elim (λ h. inr (omega arith)) (λ h. inl (omega arith)) apart) in
      rw (e, here, there) (put-more l to i f)

-- a run with one place more in front
put_first : (l : List ℕ) (at i n : ℕ) (F : ℕ → ℕ)
    → set (put l (at + (i + 1)) n (λ k. F (i + 1 + k))) (at + i) (F i) ≡ put l (at + i) (n + 1) (λ k. F (i + k))
unfolding put
put_first l at i n F =
    let there : at + (i + 1) ≡ at + i + 1 = omega arith in
    let more : n + 1 ≡ 1 + n = omega arith in
    rw (there, more)
    (ap (λ (w : List ℕ). set w (at + i) (F i)) (put_same l (at + i + 1) n (λ k. F (i + 1 + k)) (λ k. F (i + (1 + k))) (λ k b. ap F (omega arith)))
    ∙ one (put l (at + i + 1) n (λ k. F (i + (1 + k))))
    ∙ put-parts-back l (at + i) 1 n (λ k. F (i + k)))
  where
    one : (w : List ℕ) → set w (at + i) (F i) ≡ put w (at + i) 1 (λ k. F (i + k))
    one w = rw (add-zero (at + i), add-zero i)

-- none of the bytes above is exchanged yet
pub above-none : (q : ℕ) (l : List ℕ) (f g shift : ℕ) (products : List ℕ) (i : ℕ) → exchanged_above q l f g shift products i 0 ≡ l
unfolding exchanged_above put
above-none q l f g shift products i = refl

-- the next bytes below are exchanged
pub above_more : (q : ℕ) (l w : List ℕ) (f g shift width : ℕ) (products : List ℕ) (i : ℕ) → (f + width ≤ g) ⊎ (g + width ≤ f) → i < width
    → w ≡ exchanged_above q l f g shift products (i + 1) (width - (i + 1))
    → set (set w (f + i) (raised_byte q w f g shift products i)) (g + i) (get_or w (f + i) 0) ≡ exchanged_above q l f g shift products i (width - i)
unfolding exchanged_above
above_more q l w f g shift width products i apart more e =
    let n = width - (i + 1) in
    let F = raised_byte q l f g shift products in
    let G : ℕ → ℕ = λ k. get_or l (f + k) 0 in
    let inner = put l (f + (i + 1)) n (λ k. F (i + 1 + k)) in
    let length-is : width - i ≡ n + 1 = omega arith in
    let at_f : (k : ℕ) → k ≤ i → get_or (put inner (g + (i + 1)) n (λ k. G (i + 1 + k))) (f + k) 0 ≡ get_or l (f + k) 0 = λ k h.
    put-out inner (g + (i + 1)) n (λ k. G (i + 1 + k)) (f + k) 0 (⊎_elim (λ p. inl (omega arith)) (λ p. inr (omega arith)) apart)
    ∙ put-out l (f + (i + 1)) n (λ k. F (i + 1 + k)) (f + k) 0 (inl (omega arith)) in
    let at_g : get_or (put inner (g + (i + 1)) n (λ k. G (i + 1 + k))) (g + i) 0 ≡ get_or l (g + i) 0 =
    put-out inner (g + (i + 1)) n (λ k. G (i + 1 + k)) (g + i) 0 (inl (omega arith))
    ∙ put-out l (f + (i + 1)) n (λ k. F (i + 1 + k)) (g + i) 0 (⊎_elim (λ p. inr (omega arith)) (λ p. inl (omega arith)) apart) in
    rw (e, at_f i (omega arith), at_f (i - shift) (omega arith), at_g, length-is)
    (ap (λ (w : List ℕ). set w (g + i) (G i))
    (set-put inner (g + (i + 1)) n (λ k. G (i + 1 + k)) (f + i) (F i) (⊎_elim (λ p. inl (omega arith)) (λ p. inr (omega arith)) apart))
    ∙ put_first (set inner (f + i) (F i)) g i n G
    ∙ ap (λ (w : List ℕ). put w (g + i) (n + 1) (λ k. G (i + k))) (put_first l f i n F))

-- none of the bytes below is exchanged yet
pub below_none : (q : ℕ) (l : List ℕ) (f g : ℕ) (products : List ℕ) → exchanged_below q l f g products 0 ≡ l
unfolding exchanged_below put
below_none q l f g products = refl

-- the next bytes are exchanged
pub below_more : (q : ℕ) (l w : List ℕ) (f g count : ℕ) (products : List ℕ) (i : ℕ) → (f + count ≤ g) ⊎ (g + count ≤ f) → i < count
    → w ≡ exchanged_below q l f g products i
    → set (set w (f + i) (negative_byte q w g products i)) (g + i) (get_or w (f + i) 0) ≡ exchanged_below q l f g products (i + 1)
unfolding exchanged_below
below_more q l w f g count products i apart more e =
    let F = negative_byte q l g products in
    let G : ℕ → ℕ = λ k. get_or l (f + k) 0 in
    let at_f : get_or (put (put l f i F) g i G) (f + i) 0 ≡ get_or l (f + i) 0 =
    put-out (put l f i F) g i G (f + i) 0 (⊎_elim (λ p. inl (omega arith)) (λ p. inr (omega arith)) apart)
    ∙ put-out l f i F (f + i) 0 (inr (omega arith)) in
    let at_g : get_or (put (put l f i F) g i G) (g + i) 0 ≡ get_or l (g + i) 0 =
    put-out (put l f i F) g i G (g + i) 0 (inr (omega arith))
    ∙ put-out l f i F (g + i) 0 (⊎_elim (λ p. inr (omega arith)) (λ p. inl (omega arith)) apart) in
    rw (e, at_f, at_g)
    (ap (λ (w : List ℕ). set w (g + i) (G i)) (set-put (put l f i F) g i G (f + i) (F i) (⊎_elim (λ p. inl (omega arith)) (λ p. inr (omega arith)) apart))
    ∙ put-more (set (put l f i F) (f + i) (F i)) g i G
    ∙ ap (λ (w : List ℕ). put w g (i + 1) G) (put-more l f i F))
