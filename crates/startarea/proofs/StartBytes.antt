-- The bytes of the start: an area of zeros, single symbols, and a row with a multiple of sixteen values subtracted.
-- Assumes nothing.
use mathlib.Core.Path.{◌≡◌, refl, sym, ap, ◌∙◌}
use mathlib.Core.List.{List, ◌++◌}
use mathlib.Core.Logic.{◌⊎◌, inl, inr, ⊎_elim}
use Prim.Native.Nat.{ℕ, ◌+◌, ◌-◌, ◌*◌, ◌<◌, ◌≤◌}
use native.Mathlib.Nat.{add_assoc, add-zero}
use native.Mathlib.Omega.{arith}
use lib.ListN.{get_or, set, length-set, drop, replicate, length-replicate, get_or-replicate}
use Rattle.lists.specs.Tables.{put}
use Rattle.lists.proofs.Put.{put-none, put-more, put_same, put-out, put-kept, put-parts}
use Rattle.lists.proofs.Grid.{grid, row_within, grid-is}
use Rattle.symbols.specs.Sizes.{most_area}
use Rattle.symbols.specs.Rule.{Known, Sym, number}
use Rattle.symbols.proofs.FieldLaws.{laws-of}
use Rattle.published.specs.Start.{width}
use Rattle.published.specs.Picture.{area_size, layout}
use Rattle.workarea.specs.Area.{row_place, Cells, numbers, shown, with_rows}
use Rattle.startarea.specs.StartArea.{minus_value, minus_values, blank}
use Rattle.workarea.proofs.Cells.{size_is, row_fits, shown_read, shown-put}
use Rattle.workarea.proofs.Sizes.{sizes, row_small, area_of}

-- zeros show the blank area
blank-shown : (q : ℕ) → Known q → replicate (area_size q) 0 ≡ shown q (blank q)
unfolding shown layout grid numbers blank
blank-shown q known =
    grid-is (2 * q) (2 * q) (width q) 0 (replicate (area_size q) 0) (numbers q (blank q)) (length-replicate (area_size q) 0 ∙ size_is q)
    (λ p r i hp hr hi.
    get_or-replicate (area_size q) ((p * (2 * q) + r) * width q + i) 0 0
    (omega (arith, size_is q, row_within (2 * q) (2 * q) (width q) p r hp hr))
    ∙ sym (laws-of q known).number-zero)

-- the area after its bytes were cleared
pub blank-cleared : (q : ℕ) → Known q → (l m : List ℕ) (n : ℕ) → n ≡ area_size q → m ≡ replicate n 0 ++ drop n l
    → m ≡ shown q (blank q) ++ drop (area_size q) l
blank-cleared q known l m n size cleared =
    cleared ∙ ap (λ (k : ℕ). replicate k 0 ++ drop k l) size ∙ ap (λ (w : List ℕ). w ++ drop (area_size q) l) (blank-shown q known)

-- no value is subtracted yet
pub values-none : (q : ℕ) (l : List ℕ) (to : ℕ) (values products : List ℕ) → minus_values q l to 0 values products ≡ l
unfolding minus_values
values-none q l to values products = put-none l to (minus_value q l to values products)

-- one value more is subtracted
pub values-more : (q : ℕ) (l w : List ℕ) (to : ℕ) (values products : List ℕ) (i : ℕ) → w ≡ minus_values q l to i values products
    → set w (to + i) (minus_value q w to values products i) ≡ minus_values q l to (i + 1) values products
unfolding minus_values
values-more q l w to values products i e =
    let f = minus_value q l to values products in
    let here : get_or (put l to i f) (to + i) 0 ≡ get_or l (to + i) 0 = put-out l to i f (to + i) 0 (inr (omega arith)) in
    rw (e, here) (put-more l to i f)

-- the places of the three symbols of the first polynomials
pub record FirstsFit (q n : ℕ) : Type 0 where
  pub one : row_place q q 0 < n
  pub low : row_place q 0 q + 1 < n
  pub high : row_place q 0 q + q * q < n
  pub small : row_place q 0 q + q * q ≤ most_area
  pub above : 1 ≤ q * q

pub firsts_fit : {q n : ℕ} → Known q → area_size q ≤ n → FirstsFit q n
firsts_fit {q} known room =
    let area = area_of known room in
    let some = area.some in
    let f = row_fits q 0 area (omega arith) (omega arith) in
    let g = row_fits 0 q area (omega arith) (omega arith) in
    let small = row_small q 0 q area.known (omega arith) (omega arith) in
    let wide = area.square in
    let square = (sizes q area.known).square-some in
    record { one = omega arith; low = omega arith; high = omega arith; small = omega arith; above = omega arith }

-- the same after some of them are stored
pub ruleset first_places = (firsts_fit, length-set)

module _ (q : ℕ) (S : Cells q) (l rest : List ℕ) (e : l ≡ shown q S ++ rest) (p r : ℕ) (hp : p < 2 * q) (hr : r < 2 * q) where
  -- new symbols in n places of a row, from place c on
  pub shown-places : (c n : ℕ) (v : ℕ → ℕ) (F : ℕ → Sym q) → c + n ≤ width q → ((i : ℕ) → i < n → v i ≡ number q (F (c + i)))
      → ((i : ℕ) → (i < c) ⊎ (c + n ≤ i) → F i ≡ S p r i)
      → put l (row_place q p r + c) n v ≡ shown q (with_rows q p r 1 (λ n. F) S) ++ rest
  shown-places c n v F fit new old =
      put_same l (to + c) n v (λ i. f (c + i)) new
      ∙ ap (λ (w : List ℕ). put w (to + c) n (λ i. f (c + i))) (sym before)
      ∙ put-parts l to c n f
      ∙ sym after
      ∙ put-parts l to (c + n) m f
      ∙ ap (λ (k : ℕ). put l to k f) (omega arith)
      ∙ shown-put q S l rest e p r f F hp hr (λ i hi. refl)
    where
      to : ℕ
      to = row_place q p r

      m : ℕ
      m = width q - (c + n)

      f : ℕ → ℕ
      f i = number q (F i)

      byte : (i : ℕ) → i < width q → get_or l (to + i) 0 ≡ number q (S p r i)
      byte i h = shown_read q S l rest e p r i hp hr h

      before : put l to c f ≡ l
      before = put-kept l to c f 0 (λ i hi. ap (number q) (old i (inl hi)) ∙ sym (byte i (omega arith)))

      after : put (put l to (c + n) f) (to + (c + n)) m (λ i. f (c + n + i)) ≡ put l to (c + n) f
      after =
          put-kept (put l to (c + n) f) (to + (c + n)) m (λ i. f (c + n + i)) 0
          (λ i hi.
          ap (number q) (old (c + n + i) (inr (omega arith)))
          ∙ sym (byte (c + n + i) (omega arith))
          ∙ ap (λ (k : ℕ). get_or l k 0) (sym (add_assoc to (c + n) i))
          ∙ sym (put-out l to (c + n) f (to + (c + n) + i) 0 (inr (omega arith))))

  -- a new symbol in place c
  pub shown-store : (c v : ℕ) (F : ℕ → Sym q) → c < width q → v ≡ number q (F c) → ((i : ℕ) → (i ≡ c → ⊥) → F i ≡ S p r i)
      → set l (row_place q p r + c) v ≡ shown q (with_rows q p r 1 (λ n. F) S) ++ rest
  unfolding put
  shown-store c v F fit new old =
      ap (λ (k : ℕ). set l k v) (sym (add-zero (row_place q p r + c)))
      ∙ shown-places c 1 (λ i. v) F (omega arith)
      (λ i h. let z : c + i ≡ c = omega arith in rw z new)
      (λ i out. old i (λ z. ⊎_elim (λ (h : i < c). omega arith) (λ (h : c + 1 ≤ i). omega arith) out))
