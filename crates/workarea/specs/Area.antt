-- The work area as cells, one symbol for each polynomial, row and power of x, and what the code's loops do to the cells.
-- Row r of a polynomial is the one of y^(r mod q) in part r / q. Document 01, "Lent areas".
-- Assumes nothing.
use Rattle.std.specs.Prelude.{◌≡◌, true, false, ◌&&◌, List, ◌++◌, ◌⊎◌, ℕ, ◌+◌, ◌-◌, ◌*◌, ◌/◌, ◌%◌, ◌<◌, ◌≤◌, eqb, leb, ltb, get_or}
use Rattle.algebra.specs.Functions.{shift}
use Rattle.lists.specs.Tables.{put}
use Rattle.symbols.specs.Sizes.{most_q, most_symbols, most_width}
use Rattle.symbols.specs.Rule.{Known, sum_of, difference_of, symbols, number}
use Rattle.published.specs.Start.{Polynomials, coefficient, width}
use Rattle.published.specs.Picture.{area_size, layout, picture}
use Rattle.workarea.specs.declared.area.Row.{Row}
use Rattle.workarea.specs.declared.rows.Sign.{Sign}
use Rattle.workarea.specs.declared.rows.Sign.TheVariants.{Plus, Minus}

-- ---- the bytes of a row

-- the numbers of a sum, or of a difference
abbrev pub numbers_made : ℕ → Sign → ℕ → ℕ → ℕ
numbers_made q Plus = sum_of q
numbers_made q Minus = difference_of q

-- the byte at `to` and the one at `from` times what `products` is the table row of, made one by an operation: sum or difference
abbrev pub made_byte : (ℕ → ℕ → ℕ) → List ℕ → ℕ → ℕ → List ℕ → ℕ → ℕ
made_byte operation l to from products i = operation (get_or l (to + i) 0) (get_or products (get_or l (from + i) 0 % most_symbols) 0)

-- the n bytes from `to` on with a multiple of those from `from` on added to them, or subtracted
unfoldable pub made : (ℕ → ℕ → ℕ) → List ℕ → ℕ → ℕ → ℕ → List ℕ → List ℕ
made operation l to from n products = put l to n (made_byte operation l to from products)

-- the byte `shift` places below, minus the byte of the other row times what `products` is the table row of
abbrev pub raised_byte : ℕ → List ℕ → ℕ → ℕ → ℕ → List ℕ → ℕ → ℕ
raised_byte q l f g shift products i = difference_of q (get_or l (f + (i - shift)) 0) (get_or products (get_or l (g + i) 0 % most_symbols) 0)

-- n bytes of both rows from place i on: f's become the raised ones, and g's become f's
unfoldable pub exchanged_above : ℕ → List ℕ → ℕ → ℕ → ℕ → List ℕ → ℕ → ℕ → List ℕ
exchanged_above q l f g shift products i n =
    put (put l (f + i) n (λ k. raised_byte q l f g shift products (i + k))) (g + i) n (λ k. get_or l (f + (i + k)) 0)

-- zero, minus the byte of the other row times what `products` is the table row of
abbrev pub negative_byte : ℕ → List ℕ → ℕ → List ℕ → ℕ → ℕ
negative_byte q l g products i = difference_of q 0 (get_or products (get_or l (g + i) 0 % most_symbols) 0)

-- the first n bytes of both rows, where nothing stands `shift` places below
unfoldable pub exchanged_below : ℕ → List ℕ → ℕ → ℕ → List ℕ → ℕ → List ℕ
exchanged_below q l f g products n = put (put l f n (negative_byte q l g products)) g n (λ i. get_or l (f + i) 0)

-- ---- q is known, and n bytes have room for the area; with what follows for the code's numbers

pub record Area (q n : ℕ) : Type 0 where
  pub known : Known q
  pub some : 2 ≤ q
  pub few : q ≤ most_q
  pub square : q * q < width q
  pub narrow : width q ≤ most_width
  pub room : area_size q ≤ n

-- where row r of polynomial p starts
unfoldable pub row_place : ℕ → ℕ → ℕ → ℕ
row_place q p r = (p * (2 * q) + r) * width q

-- two different rows of the area
pub record TwoRows (q : ℕ) (to from : Row) : Type 0 where
  pub to-polynomial : to.polynomial < 2 * q
  pub to_row : to.row < 2 * q
  pub from-polynomial : from.polynomial < 2 * q
  pub from_row : from.row < 2 * q
  pub differ : to.polynomial ≡ from.polynomial → to.row ≡ from.row → ⊥

-- how many symbols of a row of `height` go into a row from place `shift` on: all of them, as far as that row goes
pub record Counted (wide shift height n : ℕ) : Type 0 where
  pub within : shift + n ≤ wide
  pub few : n ≤ height
  pub all : (height ≤ n) ⊎ (wide ≤ shift + n)

-- n bytes of one row, from place i on, that x^c times the first h symbols of another row reach, which stand from place k on
pub record Reach (q : ℕ) (to from : Row) (h c i k n : ℕ) : Type 0 where
  pub starts : row_place q to.polynomial to.row ≤ i
  pub fits : i + n ≤ row_place q to.polynomial to.row + width q
  pub short : n ≤ width q
  pub other : k ≡ row_place q from.polynomial from.row
  pub which : ((width q ≤ c) × (n ≡ 0)) ⊎ ((i ≡ row_place q to.polynomial to.row + c) × Counted (width q) c h n)

module _ (q : ℕ) where
  infixl 65 ◌⊖◌
  infixl 70 ◌⊗◌
  open symbols q use {K, 𝟘, ◌⊕◌, ◌⊖◌, ◌⊗◌}

  -- the symbol of polynomial p, row r, power i of x
  abbrev pub Cells : Type 0
  Cells = ℕ → ℕ → ℕ → K

  -- the cells of the decoder's polynomials
  unfoldable pub cells_of : Polynomials (symbols q) q → Cells
  cells_of S p r i = coefficient (symbols q) q S p (r / q) (r % q) i

  unfoldable pub numbers : Cells → ℕ → ℕ → ℕ → ℕ
  numbers S p r i = number q (S p r i)

  -- the bytes of the cells in the layout of the picture
  unfoldable pub shown : Cells → List ℕ
  shown S = layout q (numbers S)

  -- bytes that start with the cells S
  pub record Starts (l : List ℕ) (S : Cells) : Type 0 where
    pub rest : List ℕ
    pub is : l ≡ shown S ++ rest

  -- no symbol but zero past the width
  pub record Narrow (S : Cells) : Type 0 where
    pub past : (p r i : ℕ) → width q ≤ i → S p r i ≡ 𝟘

  -- bytes that start with the cells S start after the code with the cells `change S`, and what comes after them stays
  pub record Turns (before after : List ℕ) (change : Cells → Cells) : Type 0 where
    pub shows : (S : Cells) (rest : List ℕ) → before ≡ shown S ++ rest → after ≡ shown (change S) ++ rest

  -- bytes that start with the picture of S start after the code with the picture of T, and what comes after it stays
  pub record Becomes (before after : List ℕ) (S T : Polynomials (symbols q) q) : Type 0 where
    pub shows : (rest : List ℕ) → before ≡ picture (symbols q) q S ++ rest → after ≡ picture (symbols q) q T ++ rest

  -- `products` is the table row of ρ
  pub record Multiplies (products : List ℕ) (ρ : K) : Type 0 where
    pub at : (a : K) → get_or products (number q a % most_symbols) 0 ≡ number q (ρ ⊗ a)

  -- n rows of polynomial p, from row d on, replaced by those of F
  unfoldable pub with_rows : ℕ → ℕ → ℕ → (ℕ → ℕ → K) → Cells → Cells
  with_rows p d n F S p' r i =
      elim (eqb p' p && (leb d r && ltb r (d + n))) [ true ↦ F (r - d) i | false ↦ S p' r i ]

  -- the first h symbols of a row, and zeros
  unfoldable pub first_symbols : ℕ → (ℕ → K) → ℕ → K
  first_symbols h a i = elim (ltb i h) [ true ↦ a i | false ↦ 𝟘 ]

  -- a sum, or a difference
  abbrev pub symbols_made : Sign → K → K → K
  symbols_made Plus = ◌⊕◌
  symbols_made Minus = ◌⊖◌

  -- a row and ρ·x^c times a row, made one by an operation
  unfoldable pub with_multiple : (K → K → K) → (ℕ → K) → K → ℕ → (ℕ → K) → ℕ → K
  with_multiple operation a ρ c b i = operation (a i) (ρ ⊗ shift (symbols q) q c b i)

  -- their sum, and their difference
  abbrev pub plus_multiple : (ℕ → K) → K → ℕ → (ℕ → K) → ℕ → K
  plus_multiple = with_multiple ◌⊕◌

  abbrev pub minus_multiple : (ℕ → K) → K → ℕ → (ℕ → K) → ℕ → K
  minus_multiple = with_multiple ◌⊖◌

  -- row r of polynomial p made one by an operation with ρ·x^c times the first h symbols of row r' of polynomial p'
  unfoldable pub row_made : (K → K → K) → ℕ → ℕ → ℕ → ℕ → ℕ → ℕ → K → Cells → Cells
  row_made operation p r p' r' h c ρ S = with_rows p r 1 (λ n. with_multiple operation (S p r) ρ c (first_symbols h (S p' r'))) S

  -- it becomes itself plus that, or minus that
  abbrev pub row_added : ℕ → ℕ → ℕ → ℕ → ℕ → ℕ → K → Cells → Cells
  row_added = row_made ◌⊕◌

  abbrev pub row_subtracted : ℕ → ℕ → ℕ → ℕ → ℕ → ℕ → K → Cells → Cells
  row_subtracted = row_made ◌⊖◌

  -- x^c times a row minus ρ times a row
  unfoldable pub raised_minus : (ℕ → K) → K → ℕ → (ℕ → K) → ℕ → K
  raised_minus a ρ c b i = shift (symbols q) q c a i ⊖ ρ ⊗ b i

  -- row r of polynomial f becomes x^c times itself minus ρ times that of g, and row r of g becomes that of f
  unfoldable pub row_exchanged : ℕ → ℕ → ℕ → ℕ → K → Cells → Cells
  row_exchanged f g r c ρ S = with_rows g r 1 (λ n. S f r) (with_rows f r 1 (λ n. raised_minus (S f r) ρ c (S g r)) S)
