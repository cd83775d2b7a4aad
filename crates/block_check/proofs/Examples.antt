-- A worked example: what the definition computes.
use Rattle.std.proofs.Common.{◌≡◌, set, replicate, refl}
use Rattle.block_check.specs.Check.{block_size, sum_below, weighted, check}

-- "Byte 509 equal to 255, all others zero, gives 64,529"
check_last_byte : check (set (replicate block_size 0) 509 255) ≡ 64529
unfolding check sum_below weighted
check_last_byte = refl
