-- What the vote of a step is, and which steps vote.
-- Assumes nothing.
use mathlib.Core.Path.{◌≡◌, sym, ap, ◌∙◌}
use mathlib.Core.Bool.{true, false}
use mathlib.Core.List.{List}
use Prim.Native.Nat.{ℕ, ◌-◌, ◌*◌, ◌<◌}
use Rattle.symbols.specs.Rule.{Known, symbols, number}
use Rattle.symbols.proofs.FieldLaws.{laws-of}
use Rattle.symbols.proofs.Bytes.{number-of-below}
use Rattle.published.specs.Pairing.{Pairing, is_voted, score, best, vote}
use Rattle.published.proofs.PairSymbols.{unvoted}

-- the vote is the best symbol, and 0 in a step that does not vote
pub vote-yes : (q u s r : ℕ) → Known q → (Ps : List (Pairing (symbols q) q)) → is_voted q u s ≡ true → r < q * q
    → r ≡ best (score (symbols q) q Ps) (q * q - 1) → r ≡ number q (vote (symbols q) q u s Ps)
unfolding vote
vote-yes q u s r known Ps v h e = rw v (sym (rw (← e) (number-of-below q r known h)))

pub vote-no : (q u s : ℕ) → Known q → (Ps : List (Pairing (symbols q) q)) → is_voted q u s ≡ false → 0 ≡ number q (vote (symbols q) q u s Ps)
vote-no q u s known Ps v = sym (ap (number q) (unvoted (symbols q) q u s Ps v) ∙ (laws-of q known).number-zero)
