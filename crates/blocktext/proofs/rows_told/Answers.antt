-- `blocktext::rows_told` meets its contract: either answer of the closure is the definition's.
-- Assumes nothing.
use Rattle.std.proofs.Common.{◌≡◌, ℕ, ◌/◌, Result, Ok, Err, rules}
use Rattle.std.specs.Prelude.{MatchResult}
use Rattle.refusals.specs.declared.Refusal.{Refusal}
use Rattle.answers.specs.declared.Verdict.{Verdict}
use Rattle.blocktext.specs.Report.{rows_told}
use Rattle.blocktext.proofs.rows_told.Goals as goal

told : (verdict : Result Verdict Refusal) (payload rows : ℕ) → MatchResult verdict (λ _. rows ≡ payload / 20) (λ _. rows ≡ 0)
    → rows ≡ rows_told verdict payload
unfolding rows_told
told (Ok verdict) payload rows is = is
told (Err why) payload rows is = is

pub returns : goal.returns
returns c = told c.args.verdict c.args.payload c.map_or.result (search rules)
