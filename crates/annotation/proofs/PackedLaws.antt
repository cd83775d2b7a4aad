-- Packed annotations: their bounds, and that their parts are those of the annotation.
-- Assumes nothing.
use Prim.Native.Nat.{ℕ, ◌^◌, ◌<◌}
use mathlib.Core.Path.{◌≡◌, refl, ◌∙◌}
use mathlib.Core.Bool.{Bool, true, false}
use native.Mathlib.Omega.{arith}
use lib.Dec.{eqb}
use Rattle.parquet.specs.Physical as physical
use Rattle.logical_type.specs.Spelling.{stated_of}
use Rattle.logical_type.specs.Forward.{forward_of, image_of}
use Rattle.logical_type.specs.declared.types.TimeUnit.{TimeUnit}
use Rattle.logical_type.specs.declared.types.BitWidth.{BitWidth}
use Rattle.logical_type.specs.declared.types.LogicalType.{LogicalType}
use Rattle.logical_type.specs.declared.types.Annotation.{Annotation}
use Rattle.logical_type.proofs.ReadingLaws.{Spells, spelled_stated, spelled_bytes}
use Rattle.annotation.specs.Rewriting.{written_as}
use Rattle.annotation.specs.Packed.{DISAGREEMENT_MARK, logical_demand, demand_of, packed_of, converted_part, logical_part, a_part, b_part, demand_part}
use Rattle.annotation.specs.Steps.{marked}

-- the forward image of a logical type is a byte, and what it demands is little more
forward_bounds : (l : LogicalType) → (forward_of l < 2 ^ 8) × (logical_demand l < 2 ^ 9)
forward_bounds LogicalType.String = omega arith
forward_bounds LogicalType.Map = omega arith
forward_bounds LogicalType.List = omega arith
forward_bounds LogicalType.Enum = omega arith
forward_bounds LogicalType.Decimal = omega arith
forward_bounds LogicalType.Date = omega arith
forward_bounds (LogicalType.Time TimeUnit.Millis utc) = omega arith
forward_bounds (LogicalType.Time TimeUnit.Micros utc) = omega arith
forward_bounds (LogicalType.Time TimeUnit.Nanos utc) = omega arith
forward_bounds (LogicalType.Timestamp TimeUnit.Millis utc) = omega arith
forward_bounds (LogicalType.Timestamp TimeUnit.Micros utc) = omega arith
forward_bounds (LogicalType.Timestamp TimeUnit.Nanos utc) = omega arith
forward_bounds (LogicalType.Integer BitWidth.Bits8 true) = omega arith
forward_bounds (LogicalType.Integer BitWidth.Bits8 false) = omega arith
forward_bounds (LogicalType.Integer BitWidth.Bits16 true) = omega arith
forward_bounds (LogicalType.Integer BitWidth.Bits16 false) = omega arith
forward_bounds (LogicalType.Integer BitWidth.Bits32 true) = omega arith
forward_bounds (LogicalType.Integer BitWidth.Bits32 false) = omega arith
forward_bounds (LogicalType.Integer BitWidth.Bits64 true) = omega arith
forward_bounds (LogicalType.Integer BitWidth.Bits64 false) = omega arith
forward_bounds LogicalType.Unknown = omega arith
forward_bounds LogicalType.Json = omega arith
forward_bounds LogicalType.Bson = omega arith
forward_bounds LogicalType.Uuid = omega arith
forward_bounds LogicalType.Geometry = omega arith
forward_bounds (LogicalType.Geography edge) = omega arith

-- the bounds of the parts
record Bounded (says : Annotation) : Type 0 where
  converted : (written_as says).converted < 2 ^ 8
  logical : (written_as says).logical < 2 ^ 8
  a : (written_as says).a < 2 ^ 8
  b : (written_as says).b < 2 ^ 8
  demand : demand_of says < 2 ^ 9

bounded : (says : Annotation) → Bounded says
bounded Annotation.Plain = record { converted = omega arith; logical = omega arith; a = omega arith; b = omega arith; demand = omega arith }
bounded (Annotation.Logical l) =
    let above = forward_bounds l in
    let bytes = spelled_bytes l in
    record { converted = above.0; logical = bytes.0; a = bytes.1; b = bytes.2; demand = above.1 }
bounded Annotation.Interval = record { converted = omega arith; logical = omega arith; a = omega arith; b = omega arith; demand = omega arith }
bounded Annotation.Unreadable = record { converted = omega arith; logical = omega arith; a = omega arith; b = omega arith; demand = omega arith }

pub packed_bound : (says : Annotation) → packed_of says < DISAGREEMENT_MARK
unfolding packed_of
packed_bound says = let within = bounded says in omega arith

-- the four lower bytes are those that are written for the annotation, marked or not
pub record Bytes (packed : ℕ) (says : Annotation) : Type 0 where
  pub converted : converted_part packed ≡ (written_as says).converted
  pub logical : logical_part packed ≡ (written_as says).logical
  pub a : a_part packed ≡ (written_as says).a
  pub b : b_part packed ≡ (written_as says).b

pub bytes : (agree : Bool) (says : Annotation) → Bytes (marked agree (packed_of says)) says
unfolding packed_of
bytes true says =
    let within = bounded says in
    record { converted = omega arith; logical = omega arith; a = omega arith; b = omega arith }
bytes false says =
    let within = bounded says in
    record { converted = omega arith; logical = omega arith; a = omega arith; b = omega arith }

-- and above them stands what it demands, where it is not marked
pub demand : (says : Annotation) → demand_part (packed_of says) ≡ demand_of says
unfolding packed_of
demand says = let within = bounded says in omega arith

-- the converted type that is written for a logical type that is read is its forward image
read_image : (says : Annotation) (code a b : ℕ) → Spells says code a b → (written_as says).converted ≡ image_of says
read_image Annotation.Plain code a b s = refl
read_image (Annotation.Logical l) code a b s = refl
read_image Annotation.Interval code a b s = absurd s
read_image Annotation.Unreadable code a b s = refl

pub stated_image : (code a b : ℕ) → converted_part (packed_of (stated_of code a b)) ≡ image_of (stated_of code a b)
stated_image code a b =
    (bytes true (stated_of code a b)).converted ∙ read_image (stated_of code a b) code a b (spelled_stated code a b)

-- no annotation demands INT96
logical_not_int96 : (l : LogicalType) → eqb physical.INT96 (logical_demand l) ≡ false
logical_not_int96 LogicalType.String = refl
logical_not_int96 LogicalType.Map = refl
logical_not_int96 LogicalType.List = refl
logical_not_int96 LogicalType.Enum = refl
logical_not_int96 LogicalType.Decimal = refl
logical_not_int96 LogicalType.Date = refl
logical_not_int96 (LogicalType.Time TimeUnit.Millis utc) = refl
logical_not_int96 (LogicalType.Time TimeUnit.Micros utc) = refl
logical_not_int96 (LogicalType.Time TimeUnit.Nanos utc) = refl
logical_not_int96 (LogicalType.Timestamp unit utc) = refl
logical_not_int96 (LogicalType.Integer BitWidth.Bits8 signed) = refl
logical_not_int96 (LogicalType.Integer BitWidth.Bits16 signed) = refl
logical_not_int96 (LogicalType.Integer BitWidth.Bits32 signed) = refl
logical_not_int96 (LogicalType.Integer BitWidth.Bits64 signed) = refl
logical_not_int96 LogicalType.Unknown = refl
logical_not_int96 LogicalType.Json = refl
logical_not_int96 LogicalType.Bson = refl
logical_not_int96 LogicalType.Uuid = refl
logical_not_int96 LogicalType.Geometry = refl
logical_not_int96 (LogicalType.Geography edge) = refl

pub not_int96 : (says : Annotation) → eqb physical.INT96 (demand_of says) ≡ false
not_int96 Annotation.Plain = refl
not_int96 (Annotation.Logical l) = logical_not_int96 l
not_int96 Annotation.Interval = refl
not_int96 Annotation.Unreadable = refl
