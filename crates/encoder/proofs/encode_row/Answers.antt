-- `encoder::encode_row` meets its contract: the goals that the check leaves open. Assumes nothing.
use mathlib.Core.Path.{◌≡◌, refl, sym, subst, ◌∙◌}
use Prim.Native.Nat.{ℕ, ◌+◌, ◌*◌, ◌/◌, ◌<◌, ◌≤◌}
use native.Mathlib.Nat.{div-le_self, zero-mul}
use native.Mathlib.Omega.{arith}
use lib.ListN.{length, drop}
use mathlib.Core.List.{List, ◌++◌}
use borrow.Author.Rules.{rules}
use Rattle.lists.proofs.Put.{put-none}
use Rattle.symbols.proofs.Bytes.{known-positive, square-small}
use Rattle.curve.specs.Codes.{Code, point_count}
use Rattle.curve.specs.Given.{Message}
use Rattle.curve.proofs.Sizes.{count_small}
use Rattle.curve.proofs.CodeLaws.{code_below}
use Rattle.encoder.specs.Encoding.{row_numbers}
use Rattle.encoder.proofs.RowNumbers.{function, spread-function}
use Rattle.encoder.proofs.Written.{width_small, column-holds, next-column, all-columns}
use Rattle.encoder.proofs.encode_row.Goals as goal
use Rattle.encoder.proofs.encode_row.Goals.{At-loop-x, After-code}

-- the message is one of the code whose numbers are read
given : (c : After-code) → Message c.code.inside.q c.code.inside.u c.args.message.now
given c = subst (λ (code : Code). Message code.q code.u c.args.message.now) (sym c.code.view_is) c.requires.message

pub spread-places-requires : goal.spread-places-requires
spread-places-requires c =
    let valid = c.code.invariant in
    (valid.known, code_below _ _ valid.accepted, (given (goal.at.spread-places-requires c).After-code).whole)

pub nonzero_div-width : goal.nonzero_div-width
nonzero_div-width c = known-positive _ c.code.invariant.known

pub overflow_add-width : goal.overflow_add-width
overflow_add-width c =
    omega (
      arith,
      div-le_self c.code.inside.u c.code.inside.q,
      code_below _ _ c.code.invariant.accepted,
      count_small _ c.code.invariant.known,
    )

pub loop-x-init : goal.loop-x-init
loop-x-init c = (refl, rw zero-mul (sym (put-none _ _ _)))

pub overflow_mul-x-end : goal.overflow_mul-x-end
overflow_mul-x-end c = omega (arith, square-small _ c.code.invariant.known)

pub overflow_cast-x : goal.overflow_cast-x
overflow_cast-x c = omega (arith, square-small _ c.code.invariant.known)

pub column-values-requires : goal.column-values-requires
column-values-requires c =
    let valid = c.code.invariant in
    (omega (arith, width_small c.code.inside.q c.code.inside.u valid.known (code_below _ _ valid.accepted)), search rules)

pub fill_fibre-requires : goal.fill_fibre-requires
fill_fibre-requires c =
    let room = subst (λ (code : Code). point_count code.q ≤ length c.args.row.now) (sym c.code.view_is) c.requires.room in
    rw c.of-products.ensures (c.loop-x-test.true, search rules, omega (arith, c.loop-x.invariant.0, room))

pub loop-x-preserved : goal.loop-x-preserved
loop-x-preserved c =
    let q = c.code.inside.q in
    let u = c.code.inside.u in
    let message = c.args.message.now in
    let k = c.code.invariant.known in
    let small = code_below q u c.code.invariant.accepted in
    let f = function q u message k in
    let given = given (goal.at.loop-x-preserved c).After-code in
    let places = spread-function q u message k given.all-symbols given.whole c.spread-places.result c.spread-places.ensures in
    let values = c.column-values in
    let more : c.loop-x.x < q * q = c.loop-x-test.true in
    let held = column-holds q k f (u / q + 1) c.loop-x.x values.result ((rw c.of-products.ensures at values.ensures) f places) in (
      c.fill_fibre.auto.row ∙ c.loop-x.invariant.0,
      (rw c.of-products.ensures at c.fill_fibre.ensures) _ held ∙ (rw c.loop-x.invariant.1 (next-column q u message k small c.args.row.now c.loop-x.x more)),
    )

-- a row with room is filled, for the numbers that are read
abbrev Fills : (message row row' : List ℕ) → Code → Type 0
Fills message row row' code =
    point_count code.q ≤ length row → row' ≡ row_numbers code.q code.u message ++ drop (point_count code.q) row

pub returns : goal.returns
returns c =
    let q = c.code.inside.q in
    let message = c.args.message.now in
    let row = c.args.row.now in
    let end : c.loop-x.x ≡ q * q = omega arith in
    subst (Fills message row c.loop-x.row) c.code.view_is
    (λ room. c.loop-x.invariant.1 ∙ (rw end (all-columns q c.code.inside.u message c.code.invariant.known row room))) c.requires.room
