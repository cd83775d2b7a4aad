-- A block's check ("the sum of (i+1) times byte i, over i from 0 to 509, modulo 65,521").
use Rattle.std.specs.Prelude.{ℕ, zero, suc, ◌+◌, ◌*◌, ◌%◌, cond, List, length, ◌==◌, slice_index}

-- "blocks of 512 bytes"
abbrev pub block_size : ℕ
block_size = 512

-- "510-511 check"
abbrev pub check_at : ℕ
check_at = 510

-- "modulo 65,521"
abbrev pub check_modulus : ℕ
check_modulus = 65521

-- the sum of f over the numbers below n
unfoldable pub sum_below : (ℕ → ℕ) → ℕ → ℕ
sum_below f zero = 0
sum_below f (suc n) = sum_below f n + f n

-- (i+1) times byte i
unfoldable pub weighted : List ℕ → ℕ → ℕ
weighted block i = (i + 1) * slice_index block i

-- the check that a block should have, over the bytes before the stored one
unfoldable pub check : List ℕ → ℕ
check block = sum_below (weighted block) check_at % check_modulus

-- and of any bytes: 0 where they are no block
unfoldable pub check_of : List ℕ → ℕ
check_of bytes = cond (length bytes == block_size) (check bytes) 0
