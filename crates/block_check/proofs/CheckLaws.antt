-- Laws of a block's check.
use Rattle.std.proofs.Common.{◌≡◌, ℕ, ◌+◌, ◌*◌, ◌%◌, ◌<◌, List, length, get_or, ap, arith}
use Rattle.block_check.specs.Check.{block_size, check_at, check_modulus, weighted, check, check_of}
use Rattle.block_check.proofs.SumLaws.{sum_below_same}

-- blocks that agree before their stored checks have one check
pub check_same : (block other : List ℕ) → ((i : ℕ) → i < check_at → get_or block i 0 ≡ get_or other i 0) → check block ≡ check other
unfolding check weighted
check_same block other same =
    ap (λ (n : ℕ). n % check_modulus) (sum_below_same (weighted block) (weighted other) check_at (λ i h. ap (λ (byte : ℕ). (i + 1) * byte) (same i h)))

-- a check is a number of 16 bits
pub check_lt : (block : List ℕ) → check block < check_modulus
unfolding check
check_lt block = omega arith

-- of a block it is what is computed of any bytes
pub check_of_block : (block : List ℕ) → length block ≡ block_size → check_of block ≡ check block
unfolding check_of
check_of_block block e = rw e
