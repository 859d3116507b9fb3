-- `trace::rows::put_last` meets its contract: decoding a full row answers what the last line says.
-- Assumes nothing.
use mathlib.Core.Path.{◌≡◌, sym, subst}
use mathlib.Core.List.{List}
use Prim.Native.Nat.{ℕ, ◌≤◌}
use native.Mathlib.Omega.{arith}
use lib.ListN.{length, take, replicate}
use lib.Seq.{length-take-le}
use Rattle.symbols.specs.Sizes.{most_points}
use Rattle.curve.specs.Codes.{Code, point_count, dimension}
use Rattle.curve.specs.Given.{Received}
use Rattle.curve.proofs.CodeLaws.{dimension-le}
use Rattle.curve.proofs.Sizes.{count_small}
use Rattle.voting.specs.Voting.{voted}
use Rattle.decoder.specs.Decoding.{decoded}
use Rattle.trace.specs.Trace.{last_line}
use Rattle.trace.proofs.Checked.{last_line-is}
use Rattle.trace.proofs.Lengths.{length_last}
use Rattle.trace.proofs.rows.put_last.Goals as goal
use Rattle.trace.proofs.rows.put_last.Goals.{After-code}

-- k as it is read is that of the code
k-is : (c : After-code) → c.code.inside.k ≡ dimension c.args.code.q c.args.code.u
k-is c = subst (λ (code : Code). c.code.inside.k ≡ dimension code.q code.u) c.code.view_is c.code.invariant.k-is

-- what it answered and left gives the last line
last : (c : After-code)
    → let a = c.args in
    last_line c.decode_row-answered.result (take c.code.inside.k c.decode_row-answered.new.message)
    ≡ last_line (decoded a.code.q a.code.u a.row.now) (voted a.code.q a.code.u a.row.now)
last c =
    let a = c.args in
    let said = c.decode_row-answered.ensures in
    let left = c.decode_row-answered.new.message in
    last_line-is a.code.q a.code.u a.row.now (replicate most_points 0) left said.message_left (k-is c) said.value

-- a message and a row fit into their arrays
fits : {q u : ℕ} {row : List ℕ} → Received q u row → (dimension q u ≤ most_points) × (point_count q ≤ most_points)
fits {q} {u} received =
    let most = count_small q received.known in
    (omega (arith, most, dimension-le q u received.code), omega (arith, most))

-- so k places of the message are there
message-room : (c : After-code) → c.code.inside.k ≤ length c.decode_row-answered.new.message
message-room c = omega (arith, k-is c, fits c.requires.received, c.decode_row-answered.auto.message)

pub decode_row-answered-requires-clause-room : goal.decode_row-answered-requires-clause-room
decode_row-answered-requires-clause-room c =
    let fit = fits c.requires.received in
    record { for-work = c.requires.room.0; for-message = omega (arith, fit); for-corrected = omega (arith, fit) }

pub slice_bounds-message-end : goal.slice_bounds-message-end
slice_bounds-message-end c = message-room (goal.at.slice_bounds-message-end c).After-code

pub slice_bounds-put_decoded-end : goal.slice_bounds-put_decoded-end
slice_bounds-put_decoded-end c =
    let room = message-room (goal.at.slice_bounds-put_decoded-end c).After-code in
    sym (length-take-le c.code.inside.k c.decode_row-answered.new.message room)

pub put_decoded-requires : goal.put_decoded-requires
put_decoded-requires c =
    rw (last (goal.at.put_decoded-requires c).After-code)
    (omega (arith, c.requires.room.1, length_last c.args.code.q c.args.code.u c.args.row.now c.requires.received.code))

pub returns : goal.returns
returns c = rw (last (goal.at.returns c).After-code) at c.put_decoded.ensures
