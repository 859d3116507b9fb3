-- When a row is read: the message that its votes make, and which messages are within reach of it.
-- Assumes nothing.
use Rattle.std.specs.Prelude.{cond, List, ℕ, ◌≤◌, get_or}
use Rattle.algebra.specs.Symbols.{Symbols, same}
use Rattle.algebra.specs.Totals.{total}
use Rattle.curve.specs.Codes.{point_count, reach}
use Rattle.curve.specs.Rows.{row_of}
use Rattle.published.specs.Start.{step_count}
use Rattle.published.specs.Steps.{after, message_of}

module _ (𝓢 : Symbols) where
  open 𝓢 use {K, 𝟘}

  -- 1 if two rows differ in place m, else 0
  unfoldable pub differs : List K → List K → ℕ → ℕ
  differs row sent m = cond (same 𝓢 (get_or row m 𝟘) (get_or sent m 𝟘)) 0 1

module _ (𝓢 : Symbols) (q u : ℕ) where
  open 𝓢 use {K}

  -- the message that the votes after all steps on a row make
  unfoldable pub voted_message : List K → List K
  voted_message row = message_of 𝓢 q u (after 𝓢 q u row (step_count q)).votes

  -- how many of the n places of a row are not as in a message's row
  unfoldable pub apart : List K → List K → ℕ
  apart message row = total (point_count q) (differs 𝓢 row (row_of 𝓢 q u message))

  -- no more of them than the reach
  unfoldable pub Within : List K → List K → Type 0
  Within message row = apart message row ≤ reach q u
