-- Rule 10 holds a group to LIST, MAP or no annotation, and keeps LIST and MAP off leaves.
-- Assumes nothing.
use Prim.Native.Nat.{ℕ}
use mathlib.Core.Path.{◌≡◌, refl, sym, ◌∙◌, subst}
use mathlib.Core.Bool.{Bool, true, false, true≢false, not, cond, ◌||◌}
use lib.Dec.{eqb}
use borrow.Author.Tests.{not-true}
use Rattle.laws.proofs.BoolLaws.{and_both, and_right}
use Rattle.parquet.specs.Physical as physical
use Rattle.parquet.specs.Logical as logical
use Rattle.logical_type.specs.Spelling.{code_of}
use Rattle.annotation.specs.Signed.{natural}
use Rattle.annotation.specs.Meaning.{annotation_of}
use Rattle.annotation.specs.Rule10.{logical_on, annotation_on, is_placed, is_retired, is_early, rule10}
use Rattle.annotation.specs.Kinds.{PLAIN_GROUP, kind_as, kind_of}
use Rattle.logical_type.specs.declared.types.TimeUnit.{TimeUnit}
use Rattle.logical_type.specs.declared.types.BitWidth.{BitWidth}
use Rattle.logical_type.specs.declared.types.LogicalType.{LogicalType}
use Rattle.logical_type.specs.declared.types.Annotation.{Annotation}
use Rattle.annotation.specs.declared.slot.Annotated.{Annotated}

-- the kinds of groups: plain, LIST and MAP
abbrev pub group_kind : ℕ → Bool
group_kind kind = eqb kind PLAIN_GROUP || eqb kind logical.LIST || eqb kind logical.MAP

-- a logical type that may stand on a group is LIST or MAP
logical_group : (l : LogicalType) (length : ℕ) → logical_on l physical.GROUP length ≡ true → group_kind (code_of l) ≡ true
logical_group LogicalType.String length e = e
logical_group LogicalType.Map length e = refl
logical_group LogicalType.List length e = refl
logical_group LogicalType.Enum length e = e
logical_group LogicalType.Decimal length e = e
logical_group LogicalType.Date length e = e
logical_group (LogicalType.Time TimeUnit.Millis utc) length e = e
logical_group (LogicalType.Time TimeUnit.Micros utc) length e = e
logical_group (LogicalType.Time TimeUnit.Nanos utc) length e = e
logical_group (LogicalType.Timestamp unit utc) length e = e
logical_group (LogicalType.Integer BitWidth.Bits8 signed) length e = e
logical_group (LogicalType.Integer BitWidth.Bits16 signed) length e = e
logical_group (LogicalType.Integer BitWidth.Bits32 signed) length e = e
logical_group (LogicalType.Integer BitWidth.Bits64 signed) length e = e
logical_group LogicalType.Unknown length e = e
logical_group LogicalType.Json length e = e
logical_group LogicalType.Bson length e = e
logical_group LogicalType.Uuid length e = e
logical_group LogicalType.Geometry length e = e
logical_group (LogicalType.Geography edge) length e = e

-- a logical type that may stand on a leaf is neither
logical_leaf : (l : LogicalType) (code length : ℕ) → eqb code physical.GROUP ≡ false → logical_on l code length ≡ true → group_kind (code_of l) ≡ false
logical_leaf LogicalType.String code length leaf e = refl
logical_leaf LogicalType.Map code length leaf e = absurd (true≢false (sym e ∙ leaf))
logical_leaf LogicalType.List code length leaf e = absurd (true≢false (sym e ∙ leaf))
logical_leaf LogicalType.Enum code length leaf e = refl
logical_leaf LogicalType.Decimal code length leaf e = refl
logical_leaf LogicalType.Date code length leaf e = refl
logical_leaf (LogicalType.Time unit utc) code length leaf e = refl
logical_leaf (LogicalType.Timestamp unit utc) code length leaf e = refl
logical_leaf (LogicalType.Integer width signed) code length leaf e = refl
logical_leaf LogicalType.Unknown code length leaf e = refl
logical_leaf LogicalType.Json code length leaf e = refl
logical_leaf LogicalType.Bson code length leaf e = refl
logical_leaf LogicalType.Uuid code length leaf e = refl
logical_leaf LogicalType.Geometry code length leaf e = refl
logical_leaf (LogicalType.Geography edge) code length leaf e = refl

-- the code of a logical type says that one stands, and is not the kind of a plain group
pub code_stands : (l : LogicalType) → (eqb (code_of l) logical.NONE ≡ false) × (eqb (code_of l) PLAIN_GROUP ≡ false)
code_stands LogicalType.String = (refl, refl)
code_stands LogicalType.Map = (refl, refl)
code_stands LogicalType.List = (refl, refl)
code_stands LogicalType.Enum = (refl, refl)
code_stands LogicalType.Decimal = (refl, refl)
code_stands LogicalType.Date = (refl, refl)
code_stands (LogicalType.Time unit utc) = (refl, refl)
code_stands (LogicalType.Timestamp unit utc) = (refl, refl)
code_stands (LogicalType.Integer width signed) = (refl, refl)
code_stands LogicalType.Unknown = (refl, refl)
code_stands LogicalType.Json = (refl, refl)
code_stands LogicalType.Bson = (refl, refl)
code_stands LogicalType.Uuid = (refl, refl)
code_stands LogicalType.Geometry = (refl, refl)
code_stands (LogicalType.Geography edge) = (refl, refl)

-- the kind of a logical type is its code, DECIMAL's too
pub kind_logical : (l : LogicalType) (n : Annotated) → (kind_as (Annotation.Logical l) n).kind ≡ code_of l
kind_logical LogicalType.String n = refl
kind_logical LogicalType.Map n = refl
kind_logical LogicalType.List n = refl
kind_logical LogicalType.Enum n = refl
kind_logical LogicalType.Decimal n = refl
kind_logical LogicalType.Date n = refl
kind_logical (LogicalType.Time unit utc) n = refl
kind_logical (LogicalType.Timestamp unit utc) n = refl
kind_logical (LogicalType.Integer width signed) n = refl
kind_logical LogicalType.Unknown n = refl
kind_logical LogicalType.Json n = refl
kind_logical LogicalType.Bson n = refl
kind_logical LogicalType.Uuid n = refl
kind_logical LogicalType.Geometry n = refl
kind_logical (LogicalType.Geography edge) n = refl

kind_group : (says : Annotation) (n : Annotated) (length : ℕ) → n.physical ≡ physical.GROUP → annotation_on says physical.GROUP length ≡ true → group_kind (kind_as says n).kind ≡ true
kind_group Annotation.Plain n length group e = rw group
kind_group (Annotation.Logical l) n length group e = rw (kind_logical l n) (logical_group l length e)
kind_group Annotation.Interval n length group e = e
kind_group Annotation.Unreadable n length group e = absurd (true≢false (sym e))

kind_leaf : (says : Annotation) (n : Annotated) (length : ℕ) → eqb n.physical physical.GROUP ≡ false → annotation_on says n.physical length ≡ true → group_kind (kind_as says n).kind ≡ false
kind_leaf Annotation.Plain n length leaf e = rw leaf
kind_leaf (Annotation.Logical l) n length leaf e = rw (kind_logical l n) (logical_leaf l n.physical length leaf e)
kind_leaf Annotation.Interval n length leaf e = refl
kind_leaf Annotation.Unreadable n length leaf e = absurd (true≢false (sym e))

-- an annotation that may stand can be read
pub readable : (valid : Bool) (says : Annotation) (code length : ℕ) → annotation_on (cond valid says Annotation.Unreadable) code length ≡ true → valid ≡ true
readable true says code length e = refl
readable false says code length e = absurd (true≢false (sym e))

-- what rule 10 asks behind the retired types
timely_placed : (edition : ℕ) (n : Annotated) (under_map_of : Bool) → rule10 edition n under_map_of ≡ true → (not (is_early edition (annotation_of n under_map_of)) ≡ true) × (is_placed n under_map_of ≡ true)
unfolding rule10
timely_placed edition n under_map_of e =
    and_both _ (is_placed n under_map_of) (and_right (not (is_retired edition n.physical)) _ e)

-- what it asks in every edition
pub ten_placed : (edition : ℕ) (n : Annotated) (under_map_of : Bool) → rule10 edition n under_map_of ≡ true → is_placed n under_map_of ≡ true
ten_placed edition n under_map_of e = (timely_placed edition n under_map_of e).1

-- and no GEOMETRY and GEOGRAPHY before the edition that has them
pub ten_timely : (edition : ℕ) (n : Annotated) (under_map_of : Bool) → rule10 edition n under_map_of ≡ true → is_early edition (annotation_of n under_map_of) ≡ false
ten_timely edition n under_map_of e = not-true _ (timely_placed edition n under_map_of e).0

-- a group whose annotation is placed as rule 10 asks is plain, LIST or MAP
pub group_kind_lem : (n : Annotated) (under_map_of : Bool) → is_placed n under_map_of ≡ true → n.physical ≡ physical.GROUP → group_kind (kind_of n under_map_of).kind ≡ true
unfolding is_placed kind_of
group_kind_lem n under_map_of placed group =
    let length = natural n.type_length in
    kind_group (annotation_of n under_map_of) n length group
    (subst (λ (code : ℕ). annotation_on (annotation_of n under_map_of) code length ≡ true) group placed)

-- a leaf whose annotation is so is none of these
pub leaf_kind : (n : Annotated) (under_map_of : Bool) → is_placed n under_map_of ≡ true → eqb n.physical physical.GROUP ≡ false → group_kind (kind_of n under_map_of).kind ≡ false
unfolding is_placed kind_of
leaf_kind n under_map_of placed leaf = kind_leaf (annotation_of n under_map_of) n (natural n.type_length) leaf placed
