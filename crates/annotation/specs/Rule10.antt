-- Rule 10: each annotation on its physical type and length, no physical type that an edition has retired, and no logical type that it does not have yet.
use Rattle.std.specs.Prelude.{ℕ, Bool, true, false, not, ◌&&◌, ◌||◌, eqb}
use Rattle.edition.specs.Editions.{int96_retired, has_geospatial}
use Rattle.parquet.specs.Physical as physical
use Rattle.parquet.specs.Logical.{is_geospatial}
use Rattle.logical_type.specs.Spelling.{code_of}
use Rattle.annotation.specs.Signed.{natural}
use Rattle.annotation.specs.Meaning.{annotation_of}
use Rattle.logical_type.specs.declared.types.TimeUnit.{TimeUnit}
use Rattle.logical_type.specs.declared.types.BitWidth.{BitWidth}
use Rattle.logical_type.specs.declared.types.LogicalType.{LogicalType}
use Rattle.logical_type.specs.declared.types.Annotation.{Annotation}
use Rattle.annotation.specs.declared.slot.Annotated.{Annotated}

-- "UUID: FIXED 16"
abbrev pub UUID_LENGTH : ℕ
UUID_LENGTH = 16

-- "INTERVAL: FIXED 12"
abbrev pub INTERVAL_LENGTH : ℕ
INTERVAL_LENGTH = 12

-- a FIXED_LEN_BYTE_ARRAY of so many bytes
abbrev pub is_fixed : ℕ → ℕ → ℕ → Bool
is_fixed bytes code length = eqb code physical.FIXED_LEN_BYTE_ARRAY && eqb length bytes

-- "INT 8, 16, 32: INT32; 64: INT64"
abbrev pub integer_physical : BitWidth → ℕ
integer_physical BitWidth.Bits8 = physical.INT32
integer_physical BitWidth.Bits16 = physical.INT32
integer_physical BitWidth.Bits32 = physical.INT32
integer_physical BitWidth.Bits64 = physical.INT64

-- "TIME MILLIS: INT32; MICROS, NANOS: INT64"
abbrev pub time_physical : TimeUnit → ℕ
time_physical TimeUnit.Millis = physical.INT32
time_physical TimeUnit.Micros = physical.INT64
time_physical TimeUnit.Nanos = physical.INT64

-- "DECIMAL: INT32, INT64, FIXED, BYTE_ARRAY"
abbrev pub decimal_on : ℕ → Bool
decimal_on code =
    eqb code physical.INT32 || eqb code physical.INT64 || eqb code physical.FIXED_LEN_BYTE_ARRAY || eqb code physical.BYTE_ARRAY

-- whether a logical type may stand on a physical type and length: "STRING, ENUM, JSON, BSON: BYTE_ARRAY .. DATE: INT32 .. TIMESTAMP: INT64. UNKNOWN: any leaf .. LIST and MAP: groups"; "GEOMETRY .. and GEOGRAPHY .. on BYTE_ARRAY" (02, R-11)
abbrev pub logical_on : LogicalType → ℕ → ℕ → Bool
logical_on LogicalType.String code length = eqb code physical.BYTE_ARRAY
logical_on LogicalType.Map code length = eqb code physical.GROUP
logical_on LogicalType.List code length = eqb code physical.GROUP
logical_on LogicalType.Enum code length = eqb code physical.BYTE_ARRAY
logical_on LogicalType.Decimal code length = decimal_on code
logical_on LogicalType.Date code length = eqb code physical.INT32
logical_on (LogicalType.Time unit utc) code length = eqb code (time_physical unit)
logical_on (LogicalType.Timestamp unit utc) code length = eqb code physical.INT64
logical_on (LogicalType.Integer width signed) code length = eqb code (integer_physical width)
logical_on LogicalType.Unknown code length = not (eqb code physical.GROUP)
logical_on LogicalType.Json code length = eqb code physical.BYTE_ARRAY
logical_on LogicalType.Bson code length = eqb code physical.BYTE_ARRAY
logical_on LogicalType.Uuid code length = is_fixed UUID_LENGTH code length
logical_on LogicalType.Geometry code length = eqb code physical.BYTE_ARRAY
logical_on (LogicalType.Geography edge) code length = eqb code physical.BYTE_ARRAY

-- whether an annotation may stand on a physical type and length; no annotation may stand on any
abbrev pub annotation_on : Annotation → ℕ → ℕ → Bool
annotation_on Annotation.Plain code length = true
annotation_on (Annotation.Logical l) code length = logical_on l code length
annotation_on Annotation.Interval code length = is_fixed INTERVAL_LENGTH code length
annotation_on Annotation.Unreadable code length = false

-- "annotation on the wrong physical type, length or parameters" is what it refuses (01, rule 10)
unfoldable pub is_placed : Annotated → Bool → Bool
is_placed n under_map_of = annotation_on (annotation_of n under_map_of) n.physical (natural n.type_length)

-- and "10 for an INT96 leaf in edition 3", whatever its annotation (02, R-10)
unfoldable pub is_retired : ℕ → ℕ → Bool
is_retired edition code = eqb code physical.INT96 && int96_retired edition

-- and GEOMETRY and GEOGRAPHY before the edition that has them: "from edition 3" (02, R-11)
abbrev pub says_geospatial : Annotation → Bool
says_geospatial Annotation.Plain = false
says_geospatial (Annotation.Logical l) = is_geospatial (code_of l)
says_geospatial Annotation.Interval = false
says_geospatial Annotation.Unreadable = false

abbrev pub is_early : ℕ → Annotation → Bool
is_early edition says = says_geospatial says && not (has_geospatial edition)

unfoldable pub rule10 : ℕ → Annotated → Bool → Bool
rule10 edition n under_map_of =
    not (is_retired edition n.physical) && (not (is_early edition (annotation_of n under_map_of)) && is_placed n under_map_of)
