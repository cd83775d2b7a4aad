-- Laws of a sheet's blocks.
use mathlib.Core.Path.{◌≡◌, ◌∙◌}
use mathlib.Core.List.{List}
use Prim.Native.Nat.{ℕ, ◌+◌, ◌*◌, ◌≤◌, ◌<◌}
use native.Mathlib.Omega.{arith}
use lib.ListN.{length, get_or, drop}
use lib.Seq.{get_or-take, get_or-drop}
use Rattle.sheet.specs.Block.{block_size, block_count, block_at}

-- a byte of a block is a byte of the sheet
pub block_at_byte : (sheet : List ℕ) (i j : ℕ) → j < block_size → get_or (block_at sheet i) j 0 ≡ get_or sheet (block_size * i + j) 0
unfolding block_at
block_at_byte sheet i j h = get_or-take block_size (drop (block_size * i) sheet) j 0 h ∙ get_or-drop (block_size * i) sheet j 0

-- sheets of one length have as many blocks
pub block_count_same : (sheet other : List ℕ) → length sheet ≡ length other → block_count sheet ≡ block_count other
unfolding block_count
block_count_same sheet other e = rw e

-- the whole blocks lie within the bytes
pub blocks_within : (sheet : List ℕ) → block_size * block_count sheet ≤ length sheet
unfolding block_count
blocks_within sheet = omega arith
