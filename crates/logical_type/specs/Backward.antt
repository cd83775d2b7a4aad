-- The backward reading: what a converted type that stands alone means (01, rule 10).
use Rattle.std.specs.Prelude.{ℕ, Bool, true, false, List, [], ◌∷◌}
use Rattle.logical_type.specs.Table.{lookup}
use Rattle.parquet.specs.Converted as converted
use Rattle.logical_type.specs.declared.types.TimeUnit.{TimeUnit}
use Rattle.logical_type.specs.declared.types.BitWidth.{BitWidth}
use Rattle.logical_type.specs.declared.types.LogicalType.{LogicalType}
use Rattle.logical_type.specs.declared.types.Annotation.{Annotation}

-- "a group annotated with MAP_KEY_VALUE that is not contained by a MAP-annotated group should be handled as a MAP-annotated group" (000); on a child of a resolved MAP "it counts as no annotation" (01, rule 10)
abbrev pub map_key_value : Bool → Annotation
map_key_value true = Annotation.Plain
map_key_value false = Annotation.Logical LogicalType.Map

-- "converted alone means the same logical type, TIME and TIMESTAMP with UTC true. INTERVAL exists only as converted" (01, rule 10)
abbrev pub backward_table : Bool → List (ℕ × Annotation)
backward_table under_map_of =
    (converted.UTF8, Annotation.Logical LogicalType.String)
    ∷ (converted.MAP, Annotation.Logical LogicalType.Map)
    ∷ (converted.MAP_KEY_VALUE, map_key_value under_map_of)
    ∷ (converted.LIST, Annotation.Logical LogicalType.List)
    ∷ (converted.ENUM, Annotation.Logical LogicalType.Enum)
    ∷ (converted.DECIMAL, Annotation.Logical LogicalType.Decimal)
    ∷ (converted.DATE, Annotation.Logical LogicalType.Date)
    ∷ (converted.TIME_MILLIS, Annotation.Logical (LogicalType.Time TimeUnit.Millis true))
    ∷ (converted.TIME_MICROS, Annotation.Logical (LogicalType.Time TimeUnit.Micros true))
    ∷ (converted.TIMESTAMP_MILLIS, Annotation.Logical (LogicalType.Timestamp TimeUnit.Millis true))
    ∷ (converted.TIMESTAMP_MICROS, Annotation.Logical (LogicalType.Timestamp TimeUnit.Micros true))
    ∷ (converted.UINT_8, Annotation.Logical (LogicalType.Integer BitWidth.Bits8 false))
    ∷ (converted.UINT_16, Annotation.Logical (LogicalType.Integer BitWidth.Bits16 false))
    ∷ (converted.UINT_32, Annotation.Logical (LogicalType.Integer BitWidth.Bits32 false))
    ∷ (converted.UINT_64, Annotation.Logical (LogicalType.Integer BitWidth.Bits64 false))
    ∷ (converted.INT_8, Annotation.Logical (LogicalType.Integer BitWidth.Bits8 true))
    ∷ (converted.INT_16, Annotation.Logical (LogicalType.Integer BitWidth.Bits16 true))
    ∷ (converted.INT_32, Annotation.Logical (LogicalType.Integer BitWidth.Bits32 true))
    ∷ (converted.INT_64, Annotation.Logical (LogicalType.Integer BitWidth.Bits64 true))
    ∷ (converted.JSON, Annotation.Logical LogicalType.Json)
    ∷ (converted.BSON, Annotation.Logical LogicalType.Bson)
    ∷ (converted.INTERVAL, Annotation.Interval)
    ∷ (converted.NONE, Annotation.Plain)
    ∷ []

-- what a converted code means alone; a code outside the list is unreadable
unfoldable pub backward_of : ℕ → Bool → Annotation
backward_of code under_map_of = lookup code (backward_table under_map_of) Annotation.Unreadable
