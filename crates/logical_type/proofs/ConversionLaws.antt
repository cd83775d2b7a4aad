-- Forward and backward undo one another, as far as document 01 says.
-- Assumes nothing.
use Prim.Native.Nat.{ℕ, ◌<◌}
use native.Mathlib.Omega.{arith}
use mathlib.Core.Path.{◌≡◌, refl, sym, ap, ◌∙◌}
use mathlib.Core.Bool.{Bool, true, false, ◌||◌}
use lib.Dec.{eqb}
use borrow.Author.Tests.{eqb-true, eqb-false, ne_eqb}
use Rattle.laws.proofs.BoolLaws.{or_rest, at_each}
use Rattle.parquet.specs.Converted as converted
use Rattle.parquet.specs.Logical as logical
use Rattle.logical_type.specs.Spelling.{code_of}
use Rattle.logical_type.specs.Forward.{forward_of, image_of}
use Rattle.logical_type.specs.Backward.{backward_of}
use Rattle.logical_type.specs.declared.types.TimeUnit.{TimeUnit}
use Rattle.logical_type.specs.declared.types.BitWidth.{BitWidth}
use Rattle.logical_type.specs.declared.types.LogicalType.{LogicalType}
use Rattle.logical_type.specs.declared.types.Annotation.{Annotation}

-- a logical type with its UTC flag true, where it has one
abbrev pub adjusted : LogicalType → LogicalType
adjusted LogicalType.String = LogicalType.String
adjusted LogicalType.Map = LogicalType.Map
adjusted LogicalType.List = LogicalType.List
adjusted LogicalType.Enum = LogicalType.Enum
adjusted LogicalType.Decimal = LogicalType.Decimal
adjusted LogicalType.Date = LogicalType.Date
adjusted (LogicalType.Time unit utc) = LogicalType.Time unit true
adjusted (LogicalType.Timestamp unit utc) = LogicalType.Timestamp unit true
adjusted (LogicalType.Integer width signed) = LogicalType.Integer width signed
adjusted LogicalType.Unknown = LogicalType.Unknown
adjusted LogicalType.Json = LogicalType.Json
adjusted LogicalType.Bson = LogicalType.Bson
adjusted LogicalType.Uuid = LogicalType.Uuid
adjusted LogicalType.Geometry = LogicalType.Geometry
adjusted (LogicalType.Geography edge) = LogicalType.Geography edge

-- backward after forward is the type again, but that the UTC flag comes back true
pub backward_forward : (l : LogicalType) (under_map_of : Bool) → (forward_of l ≡ converted.NONE → ⊥) → backward_of (forward_of l) under_map_of ≡ Annotation.Logical (adjusted l)
unfolding backward_of
backward_forward LogicalType.String under_map_of h = refl
backward_forward LogicalType.Map under_map_of h = refl
backward_forward LogicalType.List under_map_of h = refl
backward_forward LogicalType.Enum under_map_of h = refl
backward_forward LogicalType.Decimal under_map_of h = refl
backward_forward LogicalType.Date under_map_of h = refl
backward_forward (LogicalType.Time TimeUnit.Millis utc) under_map_of h = refl
backward_forward (LogicalType.Time TimeUnit.Micros utc) under_map_of h = refl
backward_forward (LogicalType.Time TimeUnit.Nanos utc) under_map_of h = absurd (h refl)
backward_forward (LogicalType.Timestamp TimeUnit.Millis utc) under_map_of h = refl
backward_forward (LogicalType.Timestamp TimeUnit.Micros utc) under_map_of h = refl
backward_forward (LogicalType.Timestamp TimeUnit.Nanos utc) under_map_of h = absurd (h refl)
backward_forward (LogicalType.Integer BitWidth.Bits8 true) under_map_of h = refl
backward_forward (LogicalType.Integer BitWidth.Bits8 false) under_map_of h = refl
backward_forward (LogicalType.Integer BitWidth.Bits16 true) under_map_of h = refl
backward_forward (LogicalType.Integer BitWidth.Bits16 false) under_map_of h = refl
backward_forward (LogicalType.Integer BitWidth.Bits32 true) under_map_of h = refl
backward_forward (LogicalType.Integer BitWidth.Bits32 false) under_map_of h = refl
backward_forward (LogicalType.Integer BitWidth.Bits64 true) under_map_of h = refl
backward_forward (LogicalType.Integer BitWidth.Bits64 false) under_map_of h = refl
backward_forward LogicalType.Unknown under_map_of h = absurd (h refl)
backward_forward LogicalType.Json under_map_of h = refl
backward_forward LogicalType.Bson under_map_of h = refl
backward_forward LogicalType.Uuid under_map_of h = absurd (h refl)
backward_forward LogicalType.Geometry under_map_of h = absurd (h refl)
backward_forward (LogicalType.Geography edge) under_map_of h = absurd (h refl)

-- a converted code is MAP_KEY_VALUE, or comes back from its backward reading
comes_back : Bool → ℕ → Bool
comes_back under_map_of code = eqb code converted.MAP_KEY_VALUE || eqb (image_of (backward_of code under_map_of)) code

-- forward after backward is the converted type again, for every converted type but MAP_KEY_VALUE and INTERVAL, the last of the codes
pub forward_backward : (code : ℕ) (under_map_of : Bool) → code < converted.INTERVAL → (code ≡ converted.MAP_KEY_VALUE → ⊥) → image_of (backward_of code under_map_of) ≡ code
unfolding comes_back backward_of
forward_backward code under_map_of h ne =
    eqb-true _ _ (or_rest _ _ (ne_eqb code converted.MAP_KEY_VALUE ne) (at_each converted.INTERVAL (comes_back under_map_of) refl code h))

-- a code other than NONE is the image only of types that its backward reading gives
image_read : (code : ℕ) (l : LogicalType) (under_map_of : Bool) → eqb code converted.NONE ≡ false → forward_of l ≡ code → backward_of code under_map_of ≡ Annotation.Logical (adjusted l)
image_read code l under_map_of stands e =
    rw (← e) (backward_forward l under_map_of (λ none. eqb-false code converted.NONE stands (sym e ∙ none)))

-- "MAP_KEY_VALUE is never a forward image"
pub forward_not_map_key_value : (l : LogicalType) → forward_of l ≡ converted.MAP_KEY_VALUE → ⊥
unfolding backward_of
forward_not_map_key_value l e =
    let read = image_read converted.MAP_KEY_VALUE l true refl e in
    let z : ◌≡◌ {A = ℕ} 0 1 = cc in
    omega arith

-- "INTERVAL exists only as converted"
pub forward_not_interval : (l : LogicalType) → forward_of l ≡ converted.INTERVAL → ⊥
unfolding backward_of
forward_not_interval l e =
    let read = image_read converted.INTERVAL l true refl e in
    let z : ◌≡◌ {A = ℕ} 0 1 = cc in
    omega arith

code_adjusted : (l : LogicalType) → code_of (adjusted l) ≡ code_of l
code_adjusted LogicalType.String = refl
code_adjusted LogicalType.Map = refl
code_adjusted LogicalType.List = refl
code_adjusted LogicalType.Enum = refl
code_adjusted LogicalType.Decimal = refl
code_adjusted LogicalType.Date = refl
code_adjusted (LogicalType.Time unit utc) = refl
code_adjusted (LogicalType.Timestamp unit utc) = refl
code_adjusted (LogicalType.Integer width signed) = refl
code_adjusted LogicalType.Unknown = refl
code_adjusted LogicalType.Json = refl
code_adjusted LogicalType.Bson = refl
code_adjusted LogicalType.Uuid = refl
code_adjusted LogicalType.Geometry = refl
code_adjusted (LogicalType.Geography edge) = refl

-- only DECIMAL has the image DECIMAL
pub forward_decimal : (l : LogicalType) → forward_of l ≡ converted.DECIMAL → code_of l ≡ logical.DECIMAL
unfolding backward_of
forward_decimal l e =
    let read = image_read converted.DECIMAL l true refl e in
    let same : LogicalType.Decimal ≡ adjusted l = cc in
    sym (ap code_of same ∙ code_adjusted l)
