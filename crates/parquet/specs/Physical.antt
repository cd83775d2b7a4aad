-- Codes of the physical types ("0 physical (BOOLEAN 0, .. FIXED_LEN_BYTE_ARRAY 7, group 255)").
use Rattle.std.specs.Prelude.{ℕ}

abbrev pub BOOLEAN : ℕ
BOOLEAN = 0

abbrev pub INT32 : ℕ
INT32 = 1

abbrev pub INT64 : ℕ
INT64 = 2

abbrev pub INT96 : ℕ
INT96 = 3

abbrev pub FLOAT : ℕ
FLOAT = 4

abbrev pub DOUBLE : ℕ
DOUBLE = 5

abbrev pub BYTE_ARRAY : ℕ
BYTE_ARRAY = 6

abbrev pub FIXED_LEN_BYTE_ARRAY : ℕ
FIXED_LEN_BYTE_ARRAY = 7

-- a group, which has no physical type
abbrev pub GROUP : ℕ
GROUP = 255
