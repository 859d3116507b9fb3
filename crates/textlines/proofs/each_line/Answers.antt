-- `textlines::each_line` meets its contract. Assumes nothing.
use Rattle.std.proofs.Common.{◌≡◌, refl, sym, ap, rules, Result, Ok, Err}
use Rattle.std.proofs.lemmas.Fn.{always_returns_same}
use Rattle.std.specs.Result.{IsErrAnd}
use Rattle.std.specs.Slice.Mut.{split_inclusive_mut_rest}
use Rattle.textlines.proofs.Reading.{calls-each_line}
use Rattle.textlines.proofs.each_line.Goals as goal

-- the error that is told
err-is : {T E : Type 0} (r : Result T E) (why : E) → IsErrAnd r (λ e. e ≡ why) → r ≡ Err why
err-is (Ok x) why h = absurd h
err-is (Err e) why h = ap Err h

pub returns : goal.returns
returns g c =
    let ran = c.try_for_each.ensures.ran in
    let whole : split_inclusive_mut_rest c.split_inclusive_mut.result ≡ c.args.text.now = search rules in
    rw (sym whole)
    (calls-each_line _ _ _
    (λ f line r f' called.
    (_, record { shown = line; shows = refl; left = called.met.0.1.0; called = called.met.1; leaves = refl }))
    c.split_inclusive_mut.result ran.0 ran.3.0 _ ran.1 c.args.f ran.2 c.try_for_each.result _
    (λ line last. (last.0, last.1, last.2.0, last.3, last.4, err-is _ _ last.5.1))
    (always_returns_same _ _ _ (λ a r f' called. search rules))
    ran.3.1 ran.3.2 ran.4 ran.5)
