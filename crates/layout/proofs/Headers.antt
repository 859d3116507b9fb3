-- What a block's header says of it; and the header that is written is the header that is read, whatever stands behind it.
-- Assumes nothing.
use mathlib.Core.Path.{◌≡◌, refl}
use mathlib.Core.Bool.{true}
use mathlib.Core.List.{List, ◌++◌}
use Prim.Native.Nat.{ℕ, ◌+◌, ◌*◌, ◌≤◌}
use native.Mathlib.Omega.{arith}
use lib.ListN.{length, get_or, drop}
use borrow.Author.Tests.{eq-eqb, le-leb}
use Rattle.std.proofs.lemmas.Bool.Decides.{nat_tests}
use Rattle.layout.specs.Layout.{tape_u, two_bytes, four_bytes, in_two_bytes, in_four_bytes, row_count, block_length}
use Rattle.layout.specs.Layout.{is_header, is_block, header_of}

-- what is known of a block
pub record Sized (block : List ℕ) : Type 0 where
  pub rows : length block ≡ block_length (row_count block)
  pub some : 1 ≤ row_count block
  pub most : row_count block ≤ 1024

pub sized : (block : List ℕ) → is_block block ≡ true → Sized block
unfolding is_block is_header
sized block is =
    record {
      rows = grind (arith, nat_tests);
      some = grind (arith, nat_tests);
      most = grind (arith, nat_tests);
    }

-- the header of a block has 8 bytes
pub header-length : (R : ℕ) → length (header_of R) ≡ 8
unfolding header_of in_four_bytes in_two_bytes
header-length R = refl

module _ (R : ℕ) (rest : List ℕ) where
  abbrev block : List ℕ
  block = header_of R ++ rest

  -- behind it stands the rest
  pub behind-header : drop 8 block ≡ rest
  unfolding header_of in_four_bytes in_two_bytes
  behind-header = refl

  module _ (most : R ≤ 1024) where
    -- it says how many rows there are
    pub header-count : row_count block ≡ R
    unfolding row_count two_bytes header_of in_four_bytes in_two_bytes
    header-count = omega arith

    -- how many bytes follow its first four
    header-follows : four_bytes block 0 ≡ 4 + 32 * R
    unfolding four_bytes two_bytes header_of in_four_bytes in_two_bytes
    header-follows = omega arith

    -- the version
    header-version : get_or block 4 0 ≡ 1
    unfolding header_of in_four_bytes in_two_bytes
    header-version = refl

    -- and u
    header-code : get_or block 5 0 ≡ tape_u
    unfolding header_of in_four_bytes in_two_bytes
    header-code = refl

    -- so it is one
    pub is-header : 1 ≤ R → is_header block ≡ true
    unfolding is_header
    is-header some =
        rw (
          header-count,
          header-version,
          header-code,
          eq-eqb (four_bytes block 0) (4 + 32 * R) header-follows,
          le-leb 1 R some,
          le-leb R 1024 most,
        )
