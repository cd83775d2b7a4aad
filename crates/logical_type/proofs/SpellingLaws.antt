-- A logical type that is spelled is read as it was.
-- Assumes nothing.
use mathlib.Core.Path.{◌≡◌, refl}
use mathlib.Core.Bool.{Bool, true, false}
use Rattle.logical_type.specs.Parameters.{unit_of, bit_width_of, edge_of, flag_of, unit_code, bit_width_code, edge_code, flag_code, valid_unit, valid_bit_width, valid_edge, valid_flag, valid_parameters}
use Rattle.logical_type.specs.Spelling.{code_of, a_of, b_of, named_of, stated_of}
use Rattle.logical_type.specs.declared.types.TimeUnit.{TimeUnit}
use Rattle.logical_type.specs.declared.types.BitWidth.{BitWidth}
use Rattle.logical_type.specs.declared.types.EdgeRule.{EdgeRule}
use Rattle.logical_type.specs.declared.types.LogicalType.{LogicalType}
use Rattle.logical_type.specs.declared.types.Annotation.{Annotation}

-- parameters that are spelled are read as they were

unit_read : (unit : TimeUnit) → unit_of (unit_code unit) ≡ unit
unfolding unit_of
unit_read TimeUnit.Millis = refl
unit_read TimeUnit.Micros = refl
unit_read TimeUnit.Nanos = refl

bit_width_read : (width : BitWidth) → bit_width_of (bit_width_code width) ≡ width
unfolding bit_width_of
bit_width_read BitWidth.Bits8 = refl
bit_width_read BitWidth.Bits16 = refl
bit_width_read BitWidth.Bits32 = refl
bit_width_read BitWidth.Bits64 = refl

edge_read : (edge : EdgeRule) → edge_of (edge_code edge) ≡ edge
unfolding edge_of
edge_read EdgeRule.Spherical = refl
edge_read EdgeRule.Vincenty = refl
edge_read EdgeRule.Thomas = refl
edge_read EdgeRule.Andoyer = refl
edge_read EdgeRule.Karney = refl

flag_read : (flag : Bool) → flag_of (flag_code flag) ≡ flag
flag_read true = refl
flag_read false = refl

-- and they are valid

unit_valid : (unit : TimeUnit) → valid_unit (unit_code unit) ≡ true
unit_valid TimeUnit.Millis = refl
unit_valid TimeUnit.Micros = refl
unit_valid TimeUnit.Nanos = refl

bit_width_valid : (width : BitWidth) → valid_bit_width (bit_width_code width) ≡ true
bit_width_valid BitWidth.Bits8 = refl
bit_width_valid BitWidth.Bits16 = refl
bit_width_valid BitWidth.Bits32 = refl
bit_width_valid BitWidth.Bits64 = refl

edge_valid : (edge : EdgeRule) → valid_edge (edge_code edge) ≡ true
edge_valid EdgeRule.Spherical = refl
edge_valid EdgeRule.Vincenty = refl
edge_valid EdgeRule.Thomas = refl
edge_valid EdgeRule.Andoyer = refl
edge_valid EdgeRule.Karney = refl

flag_valid : (flag : Bool) → valid_flag (flag_code flag) ≡ true
flag_valid true = refl
flag_valid false = refl

-- a logical type that is spelled is read as it was
pub stated_spelled : (l : LogicalType) → stated_of (code_of l) (a_of l) (b_of l) ≡ Annotation.Logical l
unfolding stated_of valid_parameters named_of
stated_spelled LogicalType.String = refl
stated_spelled LogicalType.Map = refl
stated_spelled LogicalType.List = refl
stated_spelled LogicalType.Enum = refl
stated_spelled LogicalType.Decimal = refl
stated_spelled LogicalType.Date = refl
stated_spelled (LogicalType.Time unit utc) = rw (unit_valid unit, flag_valid utc, unit_read unit, flag_read utc)
stated_spelled (LogicalType.Timestamp unit utc) = rw (unit_valid unit, flag_valid utc, unit_read unit, flag_read utc)
stated_spelled (LogicalType.Integer width signed) =
    rw (bit_width_valid width, flag_valid signed, bit_width_read width, flag_read signed)
stated_spelled LogicalType.Unknown = refl
stated_spelled LogicalType.Json = refl
stated_spelled LogicalType.Bson = refl
stated_spelled LogicalType.Uuid = refl
stated_spelled LogicalType.Geometry = refl
stated_spelled (LogicalType.Geography edge) = rw (edge_valid edge, edge_read edge)
