-- Parameters a and b of a logical type as one number, a the lower byte.
use Rattle.std.specs.Prelude.{ℕ, ◌+◌, ◌*◌, ◌/◌, ◌%◌}
use Rattle.logical_type.specs.Parameters.{UNUSED}

-- what b is multiplied by
abbrev pub B_WEIGHT : ℕ
B_WEIGHT = 256

abbrev pub pair_of : ℕ → ℕ → ℕ
pair_of a b = a + B_WEIGHT * b

abbrev pub pair_a : ℕ → ℕ
pair_a pair = pair % B_WEIGHT

abbrev pub pair_b : ℕ → ℕ
pair_b pair = pair / B_WEIGHT

-- both are unused
abbrev pub NO_PAIR : ℕ
NO_PAIR = pair_of UNUSED UNUSED
