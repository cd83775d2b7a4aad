-- The number that bytes stand for: big-endian two's complement of any length (document 01, single values).
use Rattle.std.specs.Prelude.{ℕ, ◌+◌, ◌*◌, ◌^◌, Bool, cond, List, [], ◌∷◌, leb, ℤ, length, get_or}
use Rattle.std.proofs.Math.IntN.{sub_ℕ}

-- the number that bytes stand for with no sign, the most significant byte first
abbrev pub unsigned : List ℕ → ℕ
unsigned [] = 0
unsigned (b ∷ bs) = b * 256 ^ length bs + unsigned bs

-- a number is negative where the first bit of its bytes is set
abbrev pub is_negative : List ℕ → Bool
is_negative bs = leb 128 (get_or bs 0 0)

-- the number that n bytes stand for in two's complement: the unsigned one, less 256^n where it is negative; no bytes are 0
unfoldable pub number : List ℕ → ℤ
number bs = sub_ℕ (unsigned bs) (cond (is_negative bs) (256 ^ length bs) 0)
