-- The lines that rowtrace prints, from the words and numbers in them. Document 01, the end of "Hand-worked table": a step's line,
-- and the last one.
-- Assumes nothing.
use Rattle.std.specs.Prelude.{Option, Some, None, List, [], ◌∷◌, ◌++◌, ℕ}
use Rattle.lines.specs.Text.{ascii, digits, spaced}
use Rattle.refusals.specs.declared.Refusal.{Refusal}
use Rattle.refusals.specs.Numbers.{refusal_number}

-- the word, and the refusal's number
unfoldable pub refuse_line : Refusal → List ℕ
refuse_line why = ascii "refuse " ++ digits (refusal_number why) ++ (10 ∷ [])

-- such as "accept 1 : 0 0 0 0": the count, and the message
unfoldable pub accept_line : ℕ → List ℕ → List ℕ
accept_line count message = ascii "accept " ++ digits count ++ ascii " :" ++ spaced message ++ (10 ∷ [])

-- a space, and the vote or the - that stands for none
unfoldable pub vote_text : Option ℕ → List ℕ
vote_text (Some vote) = spaced (vote ∷ [])
vote_text None = ascii " -"

-- s, the vote and the degrees, as one line
unfoldable pub step_text : ℕ → Option ℕ → List ℕ → List ℕ
step_text s vote degrees = digits s ++ vote_text vote ++ spaced degrees ++ (10 ∷ [])
