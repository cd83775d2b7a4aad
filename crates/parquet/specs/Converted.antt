-- Codes of the converted types ("2 converted (0-21, none 255)", by name under "Converted").
use Rattle.std.specs.Prelude.{ℕ}

abbrev pub UTF8 : ℕ
UTF8 = 0

abbrev pub MAP : ℕ
MAP = 1

abbrev pub MAP_KEY_VALUE : ℕ
MAP_KEY_VALUE = 2

abbrev pub LIST : ℕ
LIST = 3

abbrev pub ENUM : ℕ
ENUM = 4

abbrev pub DECIMAL : ℕ
DECIMAL = 5

abbrev pub DATE : ℕ
DATE = 6

abbrev pub TIME_MILLIS : ℕ
TIME_MILLIS = 7

abbrev pub TIME_MICROS : ℕ
TIME_MICROS = 8

abbrev pub TIMESTAMP_MILLIS : ℕ
TIMESTAMP_MILLIS = 9

abbrev pub TIMESTAMP_MICROS : ℕ
TIMESTAMP_MICROS = 10

abbrev pub UINT_8 : ℕ
UINT_8 = 11

abbrev pub UINT_16 : ℕ
UINT_16 = 12

abbrev pub UINT_32 : ℕ
UINT_32 = 13

abbrev pub UINT_64 : ℕ
UINT_64 = 14

abbrev pub INT_8 : ℕ
INT_8 = 15

abbrev pub INT_16 : ℕ
INT_16 = 16

abbrev pub INT_32 : ℕ
INT_32 = 17

abbrev pub INT_64 : ℕ
INT_64 = 18

abbrev pub JSON : ℕ
JSON = 19

abbrev pub BSON : ℕ
BSON = 20

abbrev pub INTERVAL : ℕ
INTERVAL = 21

-- no converted type stands
abbrev pub NONE : ℕ
NONE = 255
