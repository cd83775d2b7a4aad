-- Codes of the logical types ("3 logical (1-8, 10-14, none 0)", by name under "Logical").
use Rattle.std.specs.Prelude.{ℕ, Bool, ◌||◌, eqb}

abbrev pub STRING : ℕ
STRING = 1

abbrev pub MAP : ℕ
MAP = 2

abbrev pub LIST : ℕ
LIST = 3

abbrev pub ENUM : ℕ
ENUM = 4

abbrev pub DECIMAL : ℕ
DECIMAL = 5

abbrev pub DATE : ℕ
DATE = 6

abbrev pub TIME : ℕ
TIME = 7

abbrev pub TIMESTAMP : ℕ
TIMESTAMP = 8

abbrev pub INTEGER : ℕ
INTEGER = 10

abbrev pub UNKNOWN : ℕ
UNKNOWN = 11

abbrev pub JSON : ℕ
JSON = 12

abbrev pub BSON : ℕ
BSON = 13

abbrev pub UUID : ℕ
UUID = 14

-- "GEOMETRY (logical 17) and GEOGRAPHY (18) .., from edition 3" (document 02, R-11)
abbrev pub GEOMETRY : ℕ
GEOMETRY = 17

abbrev pub GEOGRAPHY : ℕ
GEOGRAPHY = 18

abbrev pub is_geospatial : ℕ → Bool
is_geospatial code = eqb code GEOMETRY || eqb code GEOGRAPHY

-- no logical type stands
abbrev pub NONE : ℕ
NONE = 0
