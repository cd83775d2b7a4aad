-- Numbers in a list of bytes ("All numbers are little-endian").
use Rattle.std.specs.Prelude.{ℕ, ◌/◌, ◌%◌, ◌^◌, List, ℤ, take, drop}
use Rattle.laws.specs.Bytes.{little, twos_complement}

-- the number that `size` bytes from `at` on stand for, the first the least; past the end stand zeros
unfoldable pub number_at : List ℕ → ℕ → ℕ → ℕ
number_at bytes at size = little (take size (drop at bytes))

-- a number of 16 bits, and one of 32
abbrev pub number16 : List ℕ → ℕ → ℕ
number16 bytes at = number_at bytes at 2

abbrev pub number32 : List ℕ → ℕ → ℕ
number32 bytes at = number_at bytes at 4

-- the signed number that 32 bits stand for in two's complement
abbrev pub signed32 : ℕ → ℤ
signed32 n = twos_complement (2 ^ 31) n

-- the two bytes of a number of 16 bits
abbrev pub low_byte : ℕ → ℕ
low_byte n = n % 256

abbrev pub high_byte : ℕ → ℕ
high_byte n = n / 256
