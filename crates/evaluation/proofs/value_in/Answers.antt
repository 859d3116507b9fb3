-- `evaluation::value_in` meets its contract: the goals that the check leaves open. Assumes nothing.
use mathlib.Core.Path.{◌≡◌, refl, sym, ap, ◌∙◌}
use mathlib.Core.List.{List, [], ◌∷◌, ◌++◌}
use Prim.Native.Nat.{ℕ, suc, ◌<◌}
use native.Mathlib.Omega.{arith}
use lib.ListN.{length, get_or, take, length-take, length-append}
use lib.Seq.{take_at, take_all, take-take, get_or-take, get_or-append_seam}
use Rattle.evaluation.proofs.Horner.{horner-none, horner-last, horner-next, horner-all}
use Rattle.evaluation.proofs.value_in.Goals as goal

-- where x is the last element of a list's front part, what is before it is a front part too
before_last : (l front others : List ℕ) (x : ℕ) → front ≡ take (length front) l → front ≡ others ++ x ∷ []
    → (others ≡ take (length others) l) × (get_or l (length others) 0 ≡ x) × (length front ≡ suc (length others)) × (length others < length l)
before_last l front others x is ends =
    let n = length others in
    let long : length front ≡ suc n = ap length ends ∙ (rw length-append (omega arith)) in (
      sym (take_at others (x ∷ []) n refl) ∙ ap (take n) (sym ends ∙ is) ∙ take-take n (length front) l (omega arith),
      sym (get_or-take (length front) l n 0 (omega arith)) ∙ ap (λ m. get_or m n 0) (sym is ∙ ends) ∙ get_or-append_seam others x [] 0,
      long,
      omega (arith, long, ap length is, length-take (length front) l),
    )

pub returns-in_default : goal.returns-in_default
returns-in_default c = horner-none _ _ _ c.in_default.ensures.cases

pub loop-coefficient-init : goal.loop-coefficient-init
loop-coefficient-init c =
    let q = c.args.q in
    let l = c.args.coefficients.now in
    let others = c.in-Some.others.now in
    let all = c.in-Some.ensures.cases.0 in
    let last = before_last l l others c.in-Some.field-0-0.now (sym (take_all (length l) l (omega arith))) all in
    let rest : c.into_iter-coefficient-iterator.result.iter.rest.now ≡ others = cc in
    rw rest (last.0, rw last.1 at (horner-last q c.args.products.now l (length others) last.2))

pub loop-coefficient-preserved : goal.loop-coefficient-preserved
loop-coefficient-preserved c =
    let q = c.args.q in
    let products = c.args.products.now in
    let l = c.args.coefficients.now in
    let front = c.loop-coefficient.coefficient-iterator.iter.rest.now in
    let others = c.next.new.self.iter.rest.now in
    let last = before_last l front others c.in-Some-2.field-0.now c.loop-coefficient.invariant.0 c.in-Some-2.ensures.steps in
    let before = c.loop-coefficient.invariant.1 in
    (last.0, rw (c.sum-value.ensures, ← last.1) (horner-next q products l (length others) c.loop-coefficient.value last.3 (rw last.2 at before)))

pub returns : goal.returns
returns c =
    let none = c.in-None.ensures.steps.0 in
    horner-all _ _ _ _ (rw none at c.loop-coefficient.invariant.1)
