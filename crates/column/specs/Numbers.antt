-- The numbers that bytes stand for: "Numbers are little-endian of their width".
use Rattle.std.specs.Prelude.{ℕ, ◌-◌, ◌*◌, ◌^◌, List, ℤ, length}
use Rattle.laws.specs.Bytes.{little, twos_complement}

-- the weight of the first bit of so many bytes
abbrev pub sign_weight : ℕ → ℕ
sign_weight bytes = 2 ^ (8 * bytes - 1)

-- the signed number that bytes stand for
abbrev pub signed : List ℕ → ℤ
signed bs = twos_complement (sign_weight (length bs)) (little bs)
