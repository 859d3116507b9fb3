-- What holds of the 2q polynomials after every step: each lead stands in its place under the weight of z then in force, which
-- is written s - 1, so that s runs down to 0; the leads weigh less than the width allows; their degrees add up to q³.
use mathlib.Core.Path.{◌≡◌}
use Prim.Native.Nat.{ℕ, ◌+◌, ◌*◌, ◌≤◌, ◌<◌}
use Rattle.algebra.specs.Symbols.{Symbols}
use Rattle.algebra.specs.Weights.{weight}
use Rattle.algebra.specs.Totals.{total}
use Rattle.published.specs.Start.{Polynomials, width, f, g, coefficient}
use Rattle.published.specs.Pairing.{degree_f, degree_g}
use Rattle.published.proofs.Parts.{LeadsUpper, LeadsLower}

module _ (𝓢 : Symbols) (q : ℕ) where
  pub record InPlace (s : ℕ) (S : Polynomials 𝓢 q) : Type 0 where
    pub lead_f : (i : ℕ) → i < q → LeadsUpper 𝓢 q s i (degree_f 𝓢 q S i) (coefficient 𝓢 q S (f q i))
    pub lead_g : (j : ℕ) → j < q → LeadsLower 𝓢 q s j (degree_g 𝓢 q S j) (coefficient 𝓢 q S (g q j))
    pub fit_f : (i : ℕ) → i < q → weight q i (degree_f 𝓢 q S i) + s < q * width q
    pub fit_g : (j : ℕ) → j < q → degree_g 𝓢 q S j ≤ q * q
    pub sum : total q (degree_f 𝓢 q S) + total q (degree_g 𝓢 q S) ≡ q * q * q
