-- Packed annotations: one number that stands for an annotation together with the physical type that rule 10 demands of it.
use Rattle.std.specs.Prelude.{ℕ, ◌+◌, ◌*◌, ◌/◌, ◌%◌}
use Rattle.parquet.specs.Physical as physical
use Rattle.annotation.specs.Rule10.{integer_physical, time_physical}
use Rattle.annotation.specs.Rewriting.{written_as}
use Rattle.logical_type.specs.declared.types.LogicalType.{LogicalType}
use Rattle.logical_type.specs.declared.types.Annotation.{Annotation}

-- what is demanded where it is not one physical type: any will do, none will do, or a rule of the annotation's own says which
abbrev pub ANY_PHYSICAL : ℕ
ANY_PHYSICAL = 256

abbrev pub NO_PHYSICAL : ℕ
NO_PHYSICAL = 257

abbrev pub OWN_RULE : ℕ
OWN_RULE = 258

-- what a logical type demands
abbrev pub logical_demand : LogicalType → ℕ
logical_demand LogicalType.String = physical.BYTE_ARRAY
logical_demand LogicalType.Map = physical.GROUP
logical_demand LogicalType.List = physical.GROUP
logical_demand LogicalType.Enum = physical.BYTE_ARRAY
logical_demand LogicalType.Decimal = OWN_RULE
logical_demand LogicalType.Date = physical.INT32
logical_demand (LogicalType.Time unit utc) = time_physical unit
logical_demand (LogicalType.Timestamp unit utc) = physical.INT64
logical_demand (LogicalType.Integer width signed) = integer_physical width
logical_demand LogicalType.Unknown = OWN_RULE
logical_demand LogicalType.Json = physical.BYTE_ARRAY
logical_demand LogicalType.Bson = physical.BYTE_ARRAY
logical_demand LogicalType.Uuid = OWN_RULE
logical_demand LogicalType.Geometry = OWN_RULE
logical_demand (LogicalType.Geography edge) = OWN_RULE

-- what an annotation demands
abbrev pub demand_of : Annotation → ℕ
demand_of Annotation.Plain = ANY_PHYSICAL
demand_of (Annotation.Logical l) = logical_demand l
demand_of Annotation.Interval = OWN_RULE
demand_of Annotation.Unreadable = NO_PHYSICAL

-- how many numbers a byte has, and the weight of each part above the lowest
abbrev pub BYTE : ℕ
BYTE = 256

abbrev pub LOGICAL_WEIGHT : ℕ
LOGICAL_WEIGHT = 256

abbrev pub A_WEIGHT : ℕ
A_WEIGHT = 65536

abbrev pub B_WEIGHT : ℕ
B_WEIGHT = 16777216

abbrev pub DEMAND_WEIGHT : ℕ
DEMAND_WEIGHT = 4294967296

-- an annotation, packed: the four bytes that are written for it, and above them what it demands
unfoldable pub packed_of : Annotation → ℕ
packed_of says =
    (written_as says).converted
    + LOGICAL_WEIGHT * (written_as says).logical
    + A_WEIGHT * (written_as says).a
    + B_WEIGHT * (written_as says).b
    + DEMAND_WEIGHT * demand_of says

-- the parts of a packed annotation
abbrev pub converted_part : ℕ → ℕ
converted_part packed = packed % BYTE

abbrev pub logical_part : ℕ → ℕ
logical_part packed = packed / LOGICAL_WEIGHT % BYTE

abbrev pub a_part : ℕ → ℕ
a_part packed = packed / A_WEIGHT % BYTE

abbrev pub b_part : ℕ → ℕ
b_part packed = packed / B_WEIGHT % BYTE

abbrev pub demand_part : ℕ → ℕ
demand_part packed = packed / DEMAND_WEIGHT

-- what is added where the annotations of a slot disagree: it is above every packed annotation
abbrev pub DISAGREEMENT_MARK : ℕ
DISAGREEMENT_MARK = 72057594037927936
