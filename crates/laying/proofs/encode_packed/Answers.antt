-- `laying::encode_packed` meets its contract: unpacked, encoded, packed. Assumes nothing.
use mathlib.Core.Path.{refl, ◌∙◌}
use native.Mathlib.Omega.{arith}
use lib.ListN.{replicate}
use Rattle.laying.proofs.Encoded.{encodable, filled-length, filled-symbols, packed-filled}
use Rattle.laying.proofs.encode_packed.Goals as goal

pub encode_row-requires : goal.encode_row-requires
encode_row-requires c =
    let message = c.unpack in
    encodable _ _ message.new.symbols (replicate 64 0) c.tape_code-code.ensures message.ensures.0 message.ensures.1 refl

pub pack-requires : goal.pack-requires
pack-requires c =
    let tape = c.tape_code-code.ensures in
    let row = c.encode_row.ensures in
    let long = filled-length _ _ _ _ tape row refl in
    (omega (arith, long, c.requires.1), filled-symbols _ _ _ _ tape row refl)

pub returns : goal.returns
returns c =
    c.pack.ensures
    ∙ (rw c.requires.1
    (packed-filled _ _ _ _ c.tape_code-code.ensures c.encode_row.ensures refl c.args.original.now
    c.unpack.ensures.0))
