-- Checks in their order: what a call gives when one of them is the first to hold, and when none holds.
-- Assumes nothing.
use mathlib.Core.Path.{◌≡◌, refl, ap, ◌∙◌}
use mathlib.Core.Logic.{◌⊎◌, inl, inr}
use mathlib.Core.Bool.{Bool, true, false}
use mathlib.Core.List.{List, [], ◌∷◌, ◌++◌}
use Rattle.refusals.specs.declared.Refusal.{Refusal}
use Rattle.refusals.specs.Numbers.{Check, first_of}

-- the first check that holds is the one for this refusal
pub data Refuses : List Check → Refusal → Type 0 where
  here : {c : Check} {cs : List Check} → c.holds ≡ true → Refuses (c ∷ cs) c.why
  later : {c : Check} {cs : List Check} {why : Refusal} → c.holds ≡ false → Refuses cs why → Refuses (c ∷ cs) why

-- no check holds
pub data Passes : List Check → Type 0 where
  done : Passes []
  clear : {c : Check} {cs : List Check} → c.holds ≡ false → Passes cs → Passes (c ∷ cs)

-- what is made of an answer may be made of each of its cases
pub made_of {ℓ ℓ'} : {A : Type ℓ} {B : Type ℓ'} (make : A → B) (refuse : Refusal → A) (otherwise : A) (cs : List Check)
    → make (first_of cs refuse otherwise) ≡ first_of cs (λ why. make (refuse why)) (make otherwise)
unfolding first_of
made_of make refuse otherwise [] = refl
made_of make refuse otherwise (c ∷ cs) = go c.holds (made_of make refuse otherwise cs)
  where
    go : (b : Bool) → make (first_of cs refuse otherwise) ≡ first_of cs (λ why. make (refuse why)) (make otherwise)
        → make (elim b [ true ↦ refuse c.why | false ↦ first_of cs refuse otherwise ])
        ≡ elim b [ true ↦ make (refuse c.why) | false ↦ first_of cs (λ why. make (refuse why)) (make otherwise) ]
    go true rest = refl
    go false rest = rest

module _ {ℓ} {A : Type ℓ} (refuse : Refusal → A) (otherwise : A) where
  first_holds : (c : Check) (cs : List Check) → c.holds ≡ true → first_of (c ∷ cs) refuse otherwise ≡ refuse c.why
  unfolding first_of
  first_holds c cs h = ap (λ (b : Bool). elim b [ true ↦ refuse c.why | false ↦ first_of cs refuse otherwise ]) h

  first-fails : (c : Check) (cs : List Check) → c.holds ≡ false → first_of (c ∷ cs) refuse otherwise ≡ first_of cs refuse otherwise
  unfolding first_of
  first-fails c cs h = ap (λ (b : Bool). elim b [ true ↦ refuse c.why | false ↦ first_of cs refuse otherwise ]) h

  -- then that refusal is given
  pub refused : {cs : List Check} {why : Refusal} → Refuses cs why → first_of cs refuse otherwise ≡ refuse why
  refused (here {c} {cs} h) = first_holds c cs h
  refused (later {c} {cs} h r) = first-fails c cs h ∙ refused r

  -- then the call goes on
  pub passed : {cs : List Check} → Passes cs → first_of cs refuse otherwise ≡ otherwise
  unfolding first_of
  passed done = refl
  passed (clear {c} {cs} h p) = first-fails c cs h ∙ passed p

-- checks before others: the first of them that holds is the first of all, and where none holds the others decide
pub refuses-front : {cs : List Check} (ds : List Check) {why : Refusal} → Refuses cs why → Refuses (cs ++ ds) why
refuses-front ds (here h) = here h
refuses-front ds (later h r) = later h (refuses-front ds r)

pub refuses-behind : {cs ds : List Check} {why : Refusal} → Passes cs → Refuses ds why → Refuses (cs ++ ds) why
refuses-behind done r = r
refuses-behind (clear h p) r = later h (refuses-behind p r)

pub passes-both : {cs ds : List Check} → Passes cs → Passes ds → Passes (cs ++ ds)
passes-both done ps = ps
passes-both (clear h p) ps = clear h (passes-both p ps)

pub passes-split : (cs : List Check) {ds : List Check} → Passes (cs ++ ds) → Passes cs × Passes ds
passes-split [] p = (done, p)
passes-split (c ∷ cs) (clear h p) = let rest = passes-split cs p in (clear h rest.0, rest.1)

-- some check holds first, or none holds
pub decide_checks : (cs : List Check) → ((why : Refusal) × Refuses cs why) ⊎ Passes cs
decide_checks [] = inr done
decide_checks (c ∷ cs) = go c.holds refl (decide_checks cs)
  where
    go : (b : Bool) → c.holds ≡ b → ((why : Refusal) × Refuses cs why) ⊎ Passes cs → ((why : Refusal) × Refuses (c ∷ cs) why) ⊎ Passes (c ∷ cs)
    go true h rest = inl (c.why, here h)
    go false h (inl r) = inl (r.0, later h r.1)
    go false h (inr p) = inr (clear h p)
