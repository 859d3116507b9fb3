-- What q and u name, read off the answer: a refusal is that of the first check that holds, and a code has the numbers of q and u.
-- Assumes nothing.
use mathlib.Core.Path.{◌≡◌, sym, subst, ◌∙◌}
use mathlib.Core.Logic.{◌⊎◌, inl, inr}
use mathlib.Core.Bool.{true}
use Prim.Native.Nat.{ℕ}
use native.Mathlib.Omega.{arith}
use borrow.Author.Tests.{not-false}
use Rattle.std.specs.Prelude.{Result, Ok, Err}
use Rattle.refusals.specs.declared.Refusal.{Refusal}
use Rattle.refusals.proofs.Checks.{Refuses, Passes, clear, refused, passed, decide_checks}
use Rattle.symbols.specs.Rule.{is_known}
use Rattle.curve.specs.Codes.{Code, is_code}
use Rattle.curve.specs.Answers.{code_of, code_checks, named}

module _ (q u : ℕ) where
  -- a refusal and a code are two answers
  apart : {why : Refusal} {code : Code} → ◌≡◌ {A = Result Code Refusal} (Err why) (Ok code) → ⊥
  apart e = let z : ◌≡◌ {A = ℕ} 0 1 = cc in omega arith

  -- a refusal is that of the first check that holds
  pub named-refused : {why : Refusal} → named q u ≡ Err why → Refuses (code_checks q u) why
  unfolding named
  named-refused {why} e = go (decide_checks (code_checks q u))
    where
      go : ((other : Refusal) × Refuses (code_checks q u) other) ⊎ Passes (code_checks q u) → Refuses (code_checks q u) why
      go (inl r) =
          let given = sym (refused Err (Ok (code_of q u)) r.1) ∙ e in
          let same : r.0 ≡ why = cc in
          subst (Refuses (code_checks q u)) same r.1
      go (inr p) = absurd (apart (sym e ∙ passed Err (Ok (code_of q u)) p))

  -- a code is that of q and u, and no check holds
  pub record IsNamed (code : Code) : Type 0 where
    pub passes : Passes (code_checks q u)
    pub is : code ≡ code_of q u

  pub named-code : {code : Code} → named q u ≡ Ok code → IsNamed code
  unfolding named
  named-code {code} e = go (decide_checks (code_checks q u))
    where
      go : ((why : Refusal) × Refuses (code_checks q u) why) ⊎ Passes (code_checks q u) → IsNamed code
      go (inl r) = absurd (apart (sym (refused Err (Ok (code_of q u)) r.1) ∙ e))
      go (inr p) =
          let given = sym (passed Err (Ok (code_of q u)) p) ∙ e in
          record { passes = p; is = cc }

  -- q is known, and u is one of its codes
  pub passes-known : Passes (code_checks q u) → is_known q ≡ true
  unfolding code_checks
  passes-known (clear h p) = not-false _ h

  pub passes-code : Passes (code_checks q u) → is_code q u ≡ true
  unfolding code_checks
  passes-code (clear h (clear h' p)) = not-false _ h'
