-- The checks of what is given under a code: that there is a code, and that these are n symbols.
-- Assumes nothing.
use mathlib.Core.Path.{◌≡◌, ap}
use mathlib.Core.Logic.{◌≢◌}
use mathlib.Core.Bool.{true, false, not}
use mathlib.Core.List.{List}
use Prim.Native.Nat.{ℕ}
use lib.ListN.{length}
use lib.Dec.{eqb}
use borrow.Author.Tests.{eq-eqb, ne_eqb, eqb-true, not-false}
use Rattle.refusals.specs.declared.Refusal.TheVariants.{WrongLength, NoSymbol}
use Rattle.refusals.proofs.Checks.{Refuses, here, later, Passes, done, clear}
use Rattle.symbols.specs.Rule.{Known, any_beyond}
use Rattle.symbols.proofs.Bytes.{known-test, test_known}
use Rattle.curve.specs.Codes.{Code, is_code}
use Rattle.curve.specs.Answers.{code_checks, symbol_checks}
use Rattle.curve.specs.Given.{Valid, Given}
use Rattle.curve.proofs.Naming.{passes-known, passes-code}

-- 1 and 2 are not due
pub code-passes : (q u : ℕ) → Known q → is_code q u ≡ true → Passes (code_checks q u)
unfolding code_checks
code-passes q u known code = clear (ap not (known-test q known)) (clear (ap not code) done)

pub valid-passes : {code : Code} → Valid code → Passes (code_checks code.q code.u)
valid-passes v = code-passes _ _ v.known v.accepted

module _ (q n : ℕ) (given : List ℕ) where
  -- 4: there are not n
  pub wrong-length : length given ≢ n → Refuses (symbol_checks q n given) WrongLength
  unfolding symbol_checks
  wrong-length ne = here (ap not (ne_eqb (length given) n ne))

  -- 5: one of them is no symbol
  pub no_symbol : length given ≡ n → any_beyond q given ≡ true → Refuses (symbol_checks q n given) NoSymbol
  unfolding symbol_checks
  no_symbol whole e = later (ap not (eq-eqb (length given) n whole)) (here e)

  -- neither is due
  pub symbols-pass : length given ≡ n → any_beyond q given ≡ false → Passes (symbol_checks q n given)
  unfolding symbol_checks
  symbols-pass whole e = clear (ap not (eq-eqb (length given) n whole)) (clear e done)

pub given-passes : {q u n : ℕ} {given : List ℕ} → Given q u n given → Passes (symbol_checks q n given)
given-passes g = symbols-pass _ _ _ g.whole g.all-symbols

-- what passes both is given under a code
pub passes-given : (q u n : ℕ) (given : List ℕ) → Passes (code_checks q u) → Passes (symbol_checks q n given) → Given q u n given
unfolding symbol_checks
passes-given q u n given coded (clear h (clear h' done)) =
    record {
      known = test_known q (passes-known q u coded);
      code = passes-code q u coded;
      whole = eqb-true (length given) n (not-false (eqb (length given) n) h);
      all-symbols = h';
    }
