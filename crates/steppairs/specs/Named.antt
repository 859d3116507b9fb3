-- What the code names for a pair, w_i and μ_i, is to be what document 01 names.
-- Assumes nothing.
use Rattle.std.specs.Prelude.{◌≡◌, ℕ}
use Rattle.symbols.specs.Rule.{symbols, number}
use Rattle.published.specs.Pairing.{Naming}
use Rattle.steppairs.specs.declared.pairs.NamedSymbol.{NamedSymbol}

-- the numbers of w_i and μ_i
pub record NamedAs (q : ℕ) (named : NamedSymbol) (N : Naming (symbols q) q) : Type 0 where
  pub w : named.w ≡ number q N.w
  pub μ : named.mu ≡ number q N.μ
