-- Numbers as text, and a text written into a buffer. Bytes are in ASCII.
-- Assumes nothing.
use Rattle.std.specs.Prelude.{◌≡◌, true, false, List, [], ◌∷◌, ◌++◌, ℕ, zero, suc, ◌+◌, ◌/◌, ◌%◌, ltb, length, take, drop}
use Prim.Native.Char.{code}
use Prim.Native.String.{String}

-- a text's characters
unfoldable pub ascii : String → List ℕ
ascii String.[] = []
ascii (String.◌∷◌ c text) = code c ∷ ascii text

-- the decimal digits of n, the last `most` of them where there are more
unfoldable pub last_digits : ℕ → ℕ → List ℕ
last_digits zero n = []
last_digits (suc most) n =
    elim (ltb n 10) [ true ↦ (48 + n) ∷ [] | false ↦ last_digits most (n / 10) ++ ((48 + n % 10) ∷ []) ]

-- n in decimal, with no zero before it: all digits of n, the first one first; n + 1 of them are enough
unfoldable pub digits : ℕ → List ℕ
digits n = last_digits (suc n) n

-- each number with a space before it
unfoldable pub spaced : List ℕ → List ℕ
spaced [] = []
spaced (n ∷ numbers) = 32 ∷ (digits n ++ spaced numbers)

-- a buffer with a text in its places from `at` on
unfoldable pub written : List ℕ → ℕ → List ℕ → List ℕ
written buffer at text = take at buffer ++ (text ++ drop (at + length text) buffer)

-- what a function that writes a text leaves: the buffer with the text, and the place after it
pub record Wrote (before : List ℕ) (at : ℕ) (text after : List ℕ) (next : ℕ) : Type 0 where
  pub place : next ≡ at + length text
  pub buffer : after ≡ written before at text
