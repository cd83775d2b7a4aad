-- The parameters of the logical types (01, rule 10).
use Rattle.std.specs.Prelude.{ℕ, Bool, true, false, cond, ◌||◌, ◌&&◌, eqb}
use Rattle.parquet.specs.Logical as logical
-- `TimeUnit` is Millis, Micros or Nanos
use Rattle.logical_type.specs.declared.types.TimeUnit.{TimeUnit}
-- `BitWidth` is Bits8, Bits16, Bits32 or Bits64
use Rattle.logical_type.specs.declared.types.BitWidth.{BitWidth}
-- `EdgeRule` is Spherical, Vincenty, Thomas, Andoyer or Karney
use Rattle.logical_type.specs.declared.types.EdgeRule.{EdgeRule}

-- the code of a bit width: "Allowed bit width values are 8, 16, 32, 64" (000)
abbrev pub bit_width_code : BitWidth → ℕ
bit_width_code BitWidth.Bits8 = 8
bit_width_code BitWidth.Bits16 = 16
bit_width_code BitWidth.Bits32 = 32
bit_width_code BitWidth.Bits64 = 64

-- the code of a time unit: MILLIS 1, MICROS 2, NANOS 3 (01, rule 10)
abbrev pub unit_code : TimeUnit → ℕ
unit_code TimeUnit.Millis = 1
unit_code TimeUnit.Micros = 2
unit_code TimeUnit.Nanos = 3

-- the code of an edge rule: "SPHERICAL 0, VINCENTY 1, THOMAS 2, ANDOYER 3, KARNEY 4" (02, R-11)
abbrev pub edge_code : EdgeRule → ℕ
edge_code EdgeRule.Spherical = 0
edge_code EdgeRule.Vincenty = 1
edge_code EdgeRule.Thomas = 2
edge_code EdgeRule.Andoyer = 3
edge_code EdgeRule.Karney = 4

-- the code of a truth value, as b has it: "b signed 1 or 0", "b UTC 1 or 0" (01, rule 10)
abbrev pub flag_code : Bool → ℕ
flag_code true = 1
flag_code false = 0

-- a parameter that a logical type does not have: "else a = b = 0" (01, rule 10)
abbrev pub UNUSED : ℕ
UNUSED = 0

-- whether a number is the code of a bit width
abbrev pub valid_bit_width : ℕ → Bool
valid_bit_width a =
    eqb a (bit_width_code BitWidth.Bits8) || eqb a (bit_width_code BitWidth.Bits16) || eqb a (bit_width_code BitWidth.Bits32) || eqb a (bit_width_code BitWidth.Bits64)

-- whether a number is the code of a unit
abbrev pub valid_unit : ℕ → Bool
valid_unit a = eqb a (unit_code TimeUnit.Millis) || eqb a (unit_code TimeUnit.Micros) || eqb a (unit_code TimeUnit.Nanos)

-- whether a number is the code of an edge rule
abbrev pub valid_edge : ℕ → Bool
valid_edge a =
    eqb a (edge_code EdgeRule.Spherical)
    || eqb a (edge_code EdgeRule.Vincenty)
    || eqb a (edge_code EdgeRule.Thomas)
    || eqb a (edge_code EdgeRule.Andoyer)
    || eqb a (edge_code EdgeRule.Karney)

-- whether a number is the code of a truth value
abbrev pub valid_flag : ℕ → Bool
valid_flag b = eqb b (flag_code false) || eqb b (flag_code true)

-- the bit width of a valid code
unfoldable pub bit_width_of : ℕ → BitWidth
bit_width_of a =
    cond (eqb a (bit_width_code BitWidth.Bits8)) BitWidth.Bits8
    (cond (eqb a (bit_width_code BitWidth.Bits16)) BitWidth.Bits16
    (cond (eqb a (bit_width_code BitWidth.Bits32)) BitWidth.Bits32 BitWidth.Bits64))

-- the unit of a valid code
unfoldable pub unit_of : ℕ → TimeUnit
unit_of a =
    cond (eqb a (unit_code TimeUnit.Millis)) TimeUnit.Millis
    (cond (eqb a (unit_code TimeUnit.Micros)) TimeUnit.Micros TimeUnit.Nanos)

-- the edge rule of a valid code
unfoldable pub edge_of : ℕ → EdgeRule
edge_of a =
    cond (eqb a (edge_code EdgeRule.Spherical)) EdgeRule.Spherical
    (cond (eqb a (edge_code EdgeRule.Vincenty)) EdgeRule.Vincenty
    (cond (eqb a (edge_code EdgeRule.Thomas)) EdgeRule.Thomas
    (cond (eqb a (edge_code EdgeRule.Andoyer)) EdgeRule.Andoyer EdgeRule.Karney)))

-- the truth value of a valid code
abbrev pub flag_of : ℕ → Bool
flag_of b = eqb b (flag_code true)

-- "Logical parameters: INTEGER a 8, 16, 32, 64, b signed 1 or 0; TIME, TIMESTAMP a MILLIS 1, MICROS 2, NANOS 3, b UTC 1 or 0; else a = b = 0" (01, rule 10);
-- "for GEOGRAPHY the edge rule" is a (02, R-11)
unfoldable pub valid_parameters : ℕ → ℕ → ℕ → Bool
valid_parameters code a b =
    cond (eqb code logical.INTEGER) (valid_bit_width a && valid_flag b)
    (cond (eqb code logical.TIME || eqb code logical.TIMESTAMP) (valid_unit a && valid_flag b)
    (cond (eqb code logical.GEOGRAPHY) (valid_edge a && eqb b UNUSED) (eqb a UNUSED && eqb b UNUSED)))
