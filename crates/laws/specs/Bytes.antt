-- Bytes, and the numbers that they stand for.
use Rattle.std.specs.Prelude.{ℕ, zero, suc, ◌+◌, ◌*◌, ◌/◌, ◌%◌, ◌<◌, cond, List, [], ◌∷◌, ltb, ℤ, get_or}
use Rattle.std.proofs.Math.IntN.{sub_ℕ}

-- every element is a byte
abbrev pub Bytes : List ℕ → Type 0
Bytes bs = (i : ℕ) → get_or bs i 0 < 256

-- the number that bytes stand for with no sign, the least significant byte first
unfoldable pub little : List ℕ → ℕ
little [] = 0
little (b ∷ bs) = b + 256 * little bs

-- a number in so many bytes, the least significant byte first
unfoldable pub bytes_of : ℕ → ℕ → List ℕ
bytes_of zero n = []
bytes_of (suc size) n = n % 256 ∷ bytes_of size (n / 256)

-- two's complement: a number whose first bit is set stands for itself less twice that bit's weight
unfoldable pub twos_complement : ℕ → ℕ → ℤ
twos_complement weight n = sub_ℕ n (cond (ltb n weight) 0 (2 * weight))
