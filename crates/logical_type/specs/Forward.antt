-- The forward image: the converted type that a writer puts beside a logical type (01, rule 9).
use Rattle.std.specs.Prelude.{ℕ, Bool, cond}
use Rattle.parquet.specs.Converted as converted
use Rattle.logical_type.specs.declared.types.TimeUnit.{TimeUnit}
use Rattle.logical_type.specs.declared.types.BitWidth.{BitWidth}
use Rattle.logical_type.specs.declared.types.LogicalType.{LogicalType}
use Rattle.logical_type.specs.declared.types.Annotation.{Annotation}

-- "IntType isSigned bitWidth = 8 INT_8 .. !isSigned .. bitWidth = 64 UINT_64" (003); INT(64, false) is what UINT_64 means (01)
abbrev pub forward_integer : BitWidth → Bool → ℕ
forward_integer BitWidth.Bits8 signed = cond signed converted.INT_8 converted.UINT_8
forward_integer BitWidth.Bits16 signed = cond signed converted.INT_16 converted.UINT_16
forward_integer BitWidth.Bits32 signed = cond signed converted.INT_32 converted.UINT_32
forward_integer BitWidth.Bits64 signed = cond signed converted.INT_64 converted.UINT_64

-- "unit = MILLIS TIME_MILLIS, unit = MICROS TIME_MICROS, unit = NANOS -", whatever the UTC flag (003)
abbrev pub forward_time : TimeUnit → ℕ
forward_time TimeUnit.Millis = converted.TIME_MILLIS
forward_time TimeUnit.Micros = converted.TIME_MICROS
forward_time TimeUnit.Nanos = converted.NONE

-- "unit = MILLIS TIMESTAMP_MILLIS, unit = MICROS TIMESTAMP_MICROS, unit = NANOS -", whatever the UTC flag (003)
abbrev pub forward_timestamp : TimeUnit → ℕ
forward_timestamp TimeUnit.Millis = converted.TIMESTAMP_MILLIS
forward_timestamp TimeUnit.Micros = converted.TIMESTAMP_MICROS
forward_timestamp TimeUnit.Nanos = converted.NONE

-- "STRING-UTF8, same names otherwise, INTEGER by width and sign, TIME and TIMESTAMP by unit MILLIS or MICROS whatever the UTC flag. NANOS, UNKNOWN, UUID .. have no image" (01, rule 9); of GEOMETRY and GEOGRAPHY "there is no converted form" (02, R-11)
abbrev pub forward_of : LogicalType → ℕ
forward_of LogicalType.String = converted.UTF8
forward_of LogicalType.Map = converted.MAP
forward_of LogicalType.List = converted.LIST
forward_of LogicalType.Enum = converted.ENUM
forward_of LogicalType.Decimal = converted.DECIMAL
forward_of LogicalType.Date = converted.DATE
forward_of (LogicalType.Time unit utc) = forward_time unit
forward_of (LogicalType.Timestamp unit utc) = forward_timestamp unit
forward_of (LogicalType.Integer width signed) = forward_integer width signed
forward_of LogicalType.Unknown = converted.NONE
forward_of LogicalType.Json = converted.JSON
forward_of LogicalType.Bson = converted.BSON
forward_of LogicalType.Uuid = converted.NONE
forward_of LogicalType.Geometry = converted.NONE
forward_of (LogicalType.Geography edge) = converted.NONE

-- the forward image of what the numbers logical, a and b say: "invalid parameters have no image" (01, rule 9)
abbrev pub image_of : Annotation → ℕ
image_of Annotation.Plain = converted.NONE
image_of (Annotation.Logical l) = forward_of l
image_of Annotation.Interval = converted.NONE
image_of Annotation.Unreadable = converted.NONE
