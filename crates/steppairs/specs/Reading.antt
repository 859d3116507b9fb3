-- What the code reads of a row in the work area: its degree and the symbol there.
-- Assumes nothing.
use Rattle.std.specs.Prelude.{◌≡◌, ℕ, ◌<◌, ◌≤◌}
use Rattle.symbols.specs.Rule.{symbols, number}
use Rattle.published.specs.Start.{width}
use Rattle.published.specs.Pairing.{degree}
use Rattle.steppairs.specs.declared.reading.RowLead.{RowLead}

module _ (q : ℕ) where
  open symbols q use {K, 𝟘}

  -- a row with no symbol but zero from h on, as far as rows are held
  pub record Short (h : ℕ) (row : ℕ → K) : Type 0 where
    pub zeros : (i : ℕ) → h ≤ i → i < width q → row i ≡ 𝟘

  -- the degree of a row, and the symbol there
  pub record LeadingOf (lead : RowLead) (row : ℕ → K) : Type 0 where
    pub degree-is : lead.degree ≡ degree (λ i. number q (row i)) (width q)
    pub coefficient-is : lead.coefficient ≡ number q (row lead.degree)
