-- What the code's numbers of a pair are to be: those of document 01's pairing, with their bounds.
-- Assumes nothing.
use Rattle.std.specs.Prelude.{◌≡◌, List, ℕ, ◌<◌, ◌≤◌, pos, nat_abs, get_or}
use Rattle.symbols.specs.Sizes.{most_shift}
use Rattle.symbols.specs.Rule.{symbols, number}
use Rattle.published.specs.Pairing.{Pairing}
use Rattle.pair.specs.declared.Pair.{Pair}

-- the bounds that the code relies on
pub record Held (q : ℕ) (pair : Pair) : Type 0 where
  pub partner : pair.partner < q
  pub c : nat_abs pair.c ≤ most_shift

-- the numbers of a pairing
pub record NumbersOf (q : ℕ) (pair : Pair) (P : Pairing (symbols q) q) : Type 0 where
  pub partner : pair.partner ≡ P.partner
  pub c : pair.c ≡ P.c
  pub w : pair.w ≡ number q P.w
  pub μ : pair.mu ≡ number q P.μ
  pub ν : pair.nu ≡ number q P.ν

-- pair i of the list
abbrev pub pair_at : List Pair → ℕ → Pair
pair_at pairs i = get_or pairs i (record { partner = 0; c = pos 0; w = 0; mu = 0; nu = 0 })
