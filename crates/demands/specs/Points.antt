-- The starred points of document 01, each a claim about a public definition, in its order. All but one hold in every edition.
use Rattle.std.specs.Prelude.{ℕ, ◌*◌, ◌-◌, ◌^◌, ◌≡◌, true, false, List, [], ◌∷◌, ℤ, pos, negsuc}
use Rattle.parquet.specs.Physical as physical
use Rattle.parquet.specs.Converted as converted
use Rattle.parquet.specs.Logical as logical
use Rattle.logical_type.specs.Parameters.{UNUSED, bit_width_code, unit_code, flag_code}
use Rattle.logical_type.specs.declared.types.BitWidth.{BitWidth}
use Rattle.logical_type.specs.declared.types.TimeUnit.{TimeUnit}
use Rattle.refusal.specs.Faults as sided
use Rattle.refusal.specs.Outcome.{given, refused, refusal}
use Rattle.std.specs.Prelude.{Ok, Err}
use Rattle.edition.specs.Editions.{FIRST, SECOND, THIRD}
use Rattle.sheet.specs.Sheet.{sheet_of}
use Rattle.schema.specs.Rows.{row_width}
use Rattle.schema.specs.Outcome as schema
use Rattle.column_type.specs.declared.types.ColumnType.{ColumnType}
use Rattle.column.specs.Outcome as reading
use Rattle.column.specs.declared.value.Value.TheVariants.{Unsigned, Bytes}
use Rattle.std.specs.Prelude.{Some}
use Rattle.std.specs.declared.cmp.Ordering.TheVariants.{Less, Equal, Greater}
use Rattle.column_order.specs.Outcome as ordering
use Rattle.timestamp.specs.Units.{unit_of}
use Rattle.timestamp.specs.Outcomes as timestamp
use Rattle.timestamp.specs.declared.fields.Fields.{Fields}
use Rattle.demands.specs.Sheets.{root_slot, leaf_sheet}

-- year, month, day, hour, minute, second, fraction
abbrev pub fields : ℤ → ℕ → ℕ → ℕ → ℕ → ℕ → ℕ → Fields
fields y m d h min s f = record { year = y; month = m; day = d; hour = h; minute = min; second = s; fraction = f }

-- the numbers of the units
abbrev pub MILLIS : ℕ
MILLIS = unit_code TimeUnit.Millis

abbrev pub MICROS : ℕ
MICROS = unit_code TimeUnit.Micros

abbrev pub NANOS : ℕ
NANOS = unit_code TimeUnit.Nanos

-- 29 February 1900, at any time of day, is refused with 18 in the unit of a number
abbrev pub NoSuchDay : ℕ → Type 0
NoSuchDay unit = (h m s f : ℕ) → timestamp.encoding (unit_of unit) (fields (pos 1900) 2 29 h m s f) ≡ refused (refusal 18 0)

-- BYTE_ARRAY decimals of a precision, and INT(8, false)
abbrev pub decimals : ℕ → ColumnType
decimals precision = record { physical = physical.BYTE_ARRAY; type_length = 0; kind = logical.DECIMAL; p1 = precision; p2 = 0 }

abbrev pub uint8 : ColumnType
uint8 = record { physical = physical.INT32; type_length = 0; kind = logical.INTEGER; p1 = bit_width_code BitWidth.Bits8; p2 = flag_code false }

-- the points in an edition
abbrev pub points : ℕ → List (Type 0)
points edition =
    -- "*172800000 ms: 1970-01-03 00:00:00"
    timestamp.Decodes (unit_of MILLIS) (pos 172800000) (given (fields (pos 1970) 1 3 0 0 0 0))
    -- "*-1 ms: 1969-12-31 23:59:59.999"
    ∷ timestamp.Decodes (unit_of MILLIS) (negsuc 0) (given (fields (pos 1969) 12 31 23 59 59 999))
    -- "*Least ns: 1677-09-21 00:12:43.145224192"
    ∷ timestamp.Decodes (unit_of NANOS) (negsuc (2 ^ 63 - 1)) (given (fields (pos 1677) 9 21 0 12 43 145224192))
    -- "*29 February 1900: 18"
    ∷ NoSuchDay MILLIS
    ∷ NoSuchDay MICROS
    ∷ NoSuchDay NANOS
    -- "BYTE_ARRAY decimals of precision 3: *FF and FFFF equal; *80 below 7F; *00FF above 7F"
    ∷ (ordering.outcome edition (decimals 3) (0xFF ∷ []) (0xFF ∷ 0xFF ∷ []) ≡ sided.given (Some Equal))
    ∷ (ordering.outcome edition (decimals 3) (0x80 ∷ []) (0x7F ∷ []) ≡ sided.given (Some Less))
    ∷ (ordering.outcome edition (decimals 3) (0x00 ∷ 0xFF ∷ []) (0x7F ∷ []) ≡ sided.given (Some Greater))
    -- "*Precision 2: 63 hex valid, 64 hex 16"
    ∷ (reading.outcome edition (decimals 2) (0x63 ∷ []) ≡ given (Bytes 0 1))
    ∷ (reading.outcome edition (decimals 2) (0x64 ∷ []) ≡ refused (refusal 16 0))
    -- "*FIXED 1 precision 3: 11"
    ∷ (schema.outcome edition (leaf_sheet physical.FIXED_LEN_BYTE_ARRAY converted.NONE logical.DECIMAL UNUSED UNUSED 1 0 3) (row_width * 2) ≡ Err (refusal 11 1))
    -- "*INT(8, false): 255 valid, 256: 16"
    ∷ (reading.outcome edition uint8 (255 ∷ 0 ∷ 0 ∷ 0 ∷ []) ≡ given (Unsigned 255))
    ∷ (reading.outcome edition uint8 (0 ∷ 1 ∷ 0 ∷ 0 ∷ []) ≡ refused (refusal 16 0))
    -- "*TIME_MILLIS with TIME(NANOS): 9"
    ∷ (schema.outcome edition (leaf_sheet physical.INT64 converted.TIME_MILLIS logical.TIME (unit_code TimeUnit.Nanos) (flag_code true) 0 0 0) (row_width * 2) ≡ Err (refusal 9 1))
    -- "*One root alone: accepted"
    ∷ (schema.outcome edition (sheet_of (root_slot 0 ∷ [])) row_width ≡ Ok 1)
    ∷ []

-- a DECIMAL on INT32 whose scale equals its precision
abbrev pub equal_sheet : List ℕ
equal_sheet = leaf_sheet physical.INT32 converted.NONE logical.DECIMAL UNUSED UNUSED 0 3 3

-- the one point of document 01 that editions decide
abbrev pub edition_points : List (Type 0)
edition_points =
    -- "*Scale = precision: 11", in edition 1
    (schema.outcome FIRST equal_sheet (row_width * 2) ≡ Err (refusal 11 1))
    -- and from edition 2 on it is accepted
    ∷ (schema.outcome SECOND equal_sheet (row_width * 2) ≡ Ok 2)
    ∷ (schema.outcome THIRD equal_sheet (row_width * 2) ≡ Ok 2)
    ∷ []

-- all claims of a list hold
abbrev pub Hold : List (Type 0) → Type 0
Hold [] = Unit {0}
Hold (P ∷ Ps) = P × Hold Ps
