-- Sheets whose elements are bytes.
use Prim.Native.Nat.{ℕ, ◌*◌}
use mathlib.Core.List.{List}
use lib.ListN.{drop}
use Rattle.laws.specs.Bytes.{Bytes}
use Rattle.laws.proofs.ByteLaws.{bytes_take, bytes_drop}
use Rattle.sheet.specs.Block.{block_size, block_at}

-- a block of a sheet of bytes is one of bytes
pub block_at_bytes : (sheet : List ℕ) (i : ℕ) → Bytes sheet → Bytes (block_at sheet i)
unfolding block_at
block_at_bytes sheet i b = bytes_take block_size (drop (block_size * i) sheet) (bytes_drop (block_size * i) sheet b)
