-- What the contracts of private functions cite, and no promise to a caller: the lengths of short numbers, their signs and their words.
use Rattle.std.specs.Prelude.{ℕ, ◌+◌, ◌*◌, ◌-◌, ◌^◌, Bool, cond, ◌&&◌, List, get_or, leb, ℤ}
use Rattle.std.proofs.Math.IntN.{sub_ℕ}

-- a byte length of 1 to 16
abbrev pub is_short : ℕ → Bool
is_short n = leb 1 n && leb n 16

-- the number that is this plus 2^127
abbrev pub signed_of : ℕ → ℤ
signed_of n = sub_ℕ n (2 ^ 127)

-- the weight of the first bit of so many bytes
abbrev pub sign_weight : ℕ → ℕ
sign_weight bytes = 2 ^ (8 * bytes - 1)

-- what a set first bit takes from the number of so many bytes
abbrev pub taken : Bool → ℕ → ℕ
taken negative bytes = cond negative (256 ^ bytes) 0

-- the numbers of the four and of the eight bytes from a place on
unfoldable pub four_bytes : List ℕ → ℕ → ℕ
four_bytes bs at = ((get_or bs at 0 * 256 + get_or bs (at + 1) 0) * 256 + get_or bs (at + 2) 0) * 256 + get_or bs (at + 3) 0

unfoldable pub eight_bytes : List ℕ → ℕ → ℕ
eight_bytes bs at = four_bytes bs at * 2 ^ 32 + four_bytes bs (at + 4)
