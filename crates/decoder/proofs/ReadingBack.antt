-- Decoding the row of a message of the code: no place differs, so that it is within reach, and the votes are the message.
-- Assumes nothing.
use mathlib.Core.Path.{◌≡◌}
use mathlib.Core.List.{List}
use Prim.Native.Nat.{ℕ}
use native.Mathlib.Omega.{arith}
use Rattle.curve.specs.Given.{Message, Received}
use Rattle.encoder.specs.Encoding.{row_numbers}
use Rattle.encoder.proofs.RowSymbols.{length-row_numbers, row-symbols}
use Rattle.judging.specs.Judging.{count_of}
use Rattle.judging.proofs.Differing.{differing-self}
use Rattle.voting.specs.Voting.{voted}
use Rattle.decoder.proofs.WithinReach.{voted-within}

module _ (q u : ℕ) (sent : List ℕ) (m : Message q u sent) where
  -- its row is a full row of symbols
  pub row-received : Received q u (row_numbers q u sent)
  row-received = record {
    known = m.known;
    code = m.code;
    whole = length-row_numbers q m.known u sent;
    all-symbols = row-symbols q m.known u sent;
  }

  -- no place differs
  pub none-differs : count_of q u sent (row_numbers q u sent) ≡ 0
  unfolding count_of
  none-differs = differing-self (row_numbers q u sent)

  -- the votes are the message
  pub voted-row : voted q u (row_numbers q u sent) ≡ sent
  voted-row = voted-within q u sent (row_numbers q u sent) m row-received (omega (arith, none-differs))
