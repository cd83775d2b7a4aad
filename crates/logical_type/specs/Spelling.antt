-- How three numbers of a slot (logical, a, b) spell a logical type with its parameters, and how they are read.
use Rattle.std.specs.Prelude.{ℕ, cond, List, [], ◌∷◌}
use Rattle.logical_type.specs.Table.{lookup}
use Rattle.parquet.specs.Logical as logical
use Rattle.logical_type.specs.Parameters.{UNUSED, unit_code, bit_width_code, edge_code, flag_code, unit_of, bit_width_of, edge_of, flag_of, valid_parameters}
-- `LogicalType` is Time or Timestamp, with a `TimeUnit` and whether it is adjusted to UTC; Integer, with a `BitWidth` and whether it is signed; Geography, with an `EdgeRule`; or String, Map, List, Enum, Decimal, Date, Unknown, Json, Bson, Uuid or Geometry, which hold nothing
use Rattle.logical_type.specs.declared.types.LogicalType.{LogicalType}
-- `Annotation` is Plain, no annotation; Logical, with a `LogicalType`; Interval, which no logical type is; or Unreadable, a code outside the lists or parameters that its type does not take
use Rattle.logical_type.specs.declared.types.Annotation.{Annotation}
-- `Spelling` has the numbers logical, a and b
use Rattle.logical_type.specs.declared.types.Spelling.{Spelling}

-- the spelling of a logical type without parameters: "else a = b = 0" (01, rule 10)
abbrev pub bare_spelling : ℕ → Spelling
bare_spelling code = record { logical = code; a = UNUSED; b = UNUSED }

-- the numbers that spell a logical type: its code, parameter a (a bit width, a unit or an edge rule) and parameter b (the sign or the UTC flag)
abbrev pub spelling_of : LogicalType → Spelling
spelling_of LogicalType.String = bare_spelling logical.STRING
spelling_of LogicalType.Map = bare_spelling logical.MAP
spelling_of LogicalType.List = bare_spelling logical.LIST
spelling_of LogicalType.Enum = bare_spelling logical.ENUM
spelling_of LogicalType.Decimal = bare_spelling logical.DECIMAL
spelling_of LogicalType.Date = bare_spelling logical.DATE
spelling_of (LogicalType.Time unit utc) = record { logical = logical.TIME; a = unit_code unit; b = flag_code utc }
spelling_of (LogicalType.Timestamp unit utc) = record { logical = logical.TIMESTAMP; a = unit_code unit; b = flag_code utc }
spelling_of (LogicalType.Integer width signed) = record { logical = logical.INTEGER; a = bit_width_code width; b = flag_code signed }
spelling_of LogicalType.Unknown = bare_spelling logical.UNKNOWN
spelling_of LogicalType.Json = bare_spelling logical.JSON
spelling_of LogicalType.Bson = bare_spelling logical.BSON
spelling_of LogicalType.Uuid = bare_spelling logical.UUID
spelling_of LogicalType.Geometry = bare_spelling logical.GEOMETRY
spelling_of (LogicalType.Geography edge) = record { logical = logical.GEOGRAPHY; a = edge_code edge; b = UNUSED }

-- the code of a logical type
abbrev pub code_of : LogicalType → ℕ
code_of l = (spelling_of l).logical

-- parameter a of a logical type
abbrev pub a_of : LogicalType → ℕ
a_of l = (spelling_of l).a

-- parameter b of a logical type
abbrev pub b_of : LogicalType → ℕ
b_of l = (spelling_of l).b

-- the logical type of each code, with parameters as they stand
abbrev pub logical_table : ℕ → ℕ → List (ℕ × Annotation)
logical_table a b =
    (logical.STRING, Annotation.Logical LogicalType.String)
    ∷ (logical.MAP, Annotation.Logical LogicalType.Map)
    ∷ (logical.LIST, Annotation.Logical LogicalType.List)
    ∷ (logical.ENUM, Annotation.Logical LogicalType.Enum)
    ∷ (logical.DECIMAL, Annotation.Logical LogicalType.Decimal)
    ∷ (logical.DATE, Annotation.Logical LogicalType.Date)
    ∷ (logical.TIME, Annotation.Logical (LogicalType.Time (unit_of a) (flag_of b)))
    ∷ (logical.TIMESTAMP, Annotation.Logical (LogicalType.Timestamp (unit_of a) (flag_of b)))
    ∷ (logical.INTEGER, Annotation.Logical (LogicalType.Integer (bit_width_of a) (flag_of b)))
    ∷ (logical.UNKNOWN, Annotation.Logical LogicalType.Unknown)
    ∷ (logical.JSON, Annotation.Logical LogicalType.Json)
    ∷ (logical.BSON, Annotation.Logical LogicalType.Bson)
    ∷ (logical.UUID, Annotation.Logical LogicalType.Uuid)
    ∷ (logical.GEOMETRY, Annotation.Logical LogicalType.Geometry)
    ∷ (logical.GEOGRAPHY, Annotation.Logical (LogicalType.Geography (edge_of a)))
    ∷ []

-- the logical type of a code, with parameters as they stand; a code outside the list is unreadable
unfoldable pub named_of : ℕ → ℕ → ℕ → Annotation
named_of code a b = lookup code (logical_table a b) Annotation.Unreadable

-- what a logical code says with its parameters: nothing readable where the type does not take them
unfoldable pub stated_of : ℕ → ℕ → ℕ → Annotation
stated_of code a b = cond (valid_parameters code a b) (named_of code a b) Annotation.Unreadable
