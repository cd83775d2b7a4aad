-- When a sheet's length and a block's header are right.
use Rattle.std.specs.Prelude.{ℕ, ◌+◌, ◌-◌, ◌*◌, ◌/◌, ◌%◌, min, Bool, true, cond, ◌&&◌, List, leb, eqb}
use Rattle.sheet.specs.Block.{block_size, most_bytes, most_nodes, slots_in_block, version_now, block_count, block_at, block_number, nodes_here, version, total, total_of}

-- not "length 0, not a multiple of 512, or over 65,536"
unfoldable pub length_right : ℕ → Bool
length_right n = leb 1 n && eqb (n % block_size) 0 && leb n most_bytes

-- how many blocks t nodes need
unfoldable pub blocks_for : ℕ → ℕ
blocks_for t = (t + (slots_in_block - 1)) / slots_in_block

-- how many of t nodes block i holds ("all but the last hold 7 nodes")
unfoldable pub nodes_in : ℕ → ℕ → ℕ
nodes_in t i = min slots_in_block (t - slots_in_block * i)

-- "T is 1 to 896. There are exactly as many blocks as T needs"
unfoldable pub total_right : ℕ → ℕ → Bool
total_right t blocks = leb 1 t && leb t most_nodes && eqb (blocks_for t) blocks

-- what the header of block number i must say, of t nodes in all
unfoldable pub numbers_right : ℕ → ℕ → List ℕ → Bool
numbers_right t i block =
    eqb (block_number block) i
    && eqb (version block) version_now
    && eqb (total block) t
    && eqb (nodes_here block) (nodes_in t i)

-- block i's header is right; a wrong T "is block 0's fault"
unfoldable pub header_right : List ℕ → ℕ → Bool
header_right sheet i = numbers_right (total_of sheet) i (block_at sheet i) && cond (eqb i 0) (total_right (total_of sheet) (block_count sheet)) true
