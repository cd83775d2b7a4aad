-- Rule 10 of lawful column types: "STRING, ENUM, JSON ..: BYTE_ARRAY", "INT 8, 16, 32: INT32; 64: INT64", "TIME MILLIS: INT32; MICROS, NANOS: INT64", and a
-- unit's number.
use Prim.Native.Nat.{ℕ}
use mathlib.Core.Path.{◌≡◌, refl, sym}
use mathlib.Core.Bool.{Bool, true, false, true≢false, cond}
use mathlib.Core.Logic.{◌⊎◌, inl, inr}
use borrow.Author.Tests.{eqb-true}
use lib.Dec.{eqb}
use Rattle.laws.proofs.BoolLaws.{by_test, and_left}
use Rattle.parquet.specs.Physical.{INT32, INT64, BYTE_ARRAY}
use Rattle.parquet.specs.Logical as logical
use Rattle.annotation.specs.Meaning.{annotation_of}
use Rattle.annotation.specs.Rule10.{logical_on, annotation_on, integer_physical, time_physical, is_placed}
use Rattle.logical_type.specs.Parameters.{unit_of, bit_width_of, flag_of, valid_unit, valid_flag, valid_parameters}
use Rattle.logical_type.specs.Spelling.{named_of, stated_of}
use Rattle.logical_type.specs.declared.types.Annotation.{Annotation}
use Rattle.logical_type.specs.declared.types.BitWidth.{BitWidth}
use Rattle.logical_type.specs.declared.types.LogicalType.{LogicalType}
use Rattle.logical_type.specs.declared.types.TimeUnit.{TimeUnit}
use Rattle.column_type.specs.Lawful.{slot_of, is_lawful}
use Rattle.column_type.specs.declared.types.ColumnType.{ColumnType}
use Rattle.column_type.proofs.LawfulLaws.{placed}

-- a logical type that stands on a physical type has parameters that it takes
stands_valid : (l : LogicalType) (valid : Bool) (code length : ℕ) → annotation_on (cond valid (Annotation.Logical l) Annotation.Unreadable) code length ≡ true → (valid ≡ true) × (logical_on l code length ≡ true)
stands_valid l true code length e = (refl, e)
stands_valid l false code length e = absurd (true≢false (sym e))

width_physical : (w : BitWidth) (code : ℕ) → eqb code (integer_physical w) ≡ true → (code ≡ INT32) ⊎ (code ≡ INT64)
width_physical BitWidth.Bits8 code e = inl (eqb-true code INT32 e)
width_physical BitWidth.Bits16 code e = inl (eqb-true code INT32 e)
width_physical BitWidth.Bits32 code e = inl (eqb-true code INT32 e)
width_physical BitWidth.Bits64 code e = inr (eqb-true code INT64 e)

unit_physical : (u : TimeUnit) (code : ℕ) → eqb code (time_physical u) ≡ true → (code ≡ INT32) ⊎ (code ≡ INT64)
unit_physical TimeUnit.Millis code e = inl (eqb-true code INT32 e)
unit_physical TimeUnit.Micros code e = inr (eqb-true code INT64 e)
unit_physical TimeUnit.Nanos code e = inr (eqb-true code INT64 e)

unit_numbers : (a : ℕ) → valid_unit a ≡ true → (a ≡ 1) ⊎ ((a ≡ 2) ⊎ (a ≡ 3))
unit_numbers a e =
    by_test (eqb a 1) (λ p. inl (eqb-true a 1 p)) (λ p. by_test (eqb a 2) (λ q. inr (inl (eqb-true a 2 q))) (λ q. inr (inr (eqb-true a 3 (rw (p, q) at e)))))

module _ (edition : ℕ) (c : ColumnType) (lawful : is_lawful edition c ≡ true) where
  pub integer_whole : c.kind ≡ logical.INTEGER → (c.physical ≡ INT32) ⊎ (c.physical ≡ INT64)
  unfolding is_placed slot_of annotation_of stated_of named_of
  integer_whole k =
      width_physical (bit_width_of c.p1) c.physical
      (stands_valid (LogicalType.Integer (bit_width_of c.p1) (flag_of c.p2)) (valid_parameters logical.INTEGER c.p1 c.p2) c.physical _ (rw k at (placed edition c lawful))).1

  time_stands : c.kind ≡ logical.TIME → (valid_parameters logical.TIME c.p1 c.p2 ≡ true) × (eqb c.physical (time_physical (unit_of c.p1)) ≡ true)
  unfolding is_placed slot_of annotation_of stated_of named_of
  time_stands k =
      stands_valid (LogicalType.Time (unit_of c.p1) (flag_of c.p2)) (valid_parameters logical.TIME c.p1 c.p2) c.physical _ (rw k at (placed edition c lawful))

  pub time_whole : c.kind ≡ logical.TIME → (c.physical ≡ INT32) ⊎ (c.physical ≡ INT64)
  time_whole k = unit_physical (unit_of c.p1) c.physical (time_stands k).1

  pub time_unit : c.kind ≡ logical.TIME → (c.p1 ≡ 1) ⊎ ((c.p1 ≡ 2) ⊎ (c.p1 ≡ 3))
  unfolding valid_parameters
  time_unit k = unit_numbers c.p1 (and_left (valid_unit c.p1) (valid_flag c.p2) (time_stands k).0)

  pub string_bytes : c.kind ≡ logical.STRING → c.physical ≡ BYTE_ARRAY
  unfolding is_placed slot_of annotation_of stated_of named_of
  string_bytes k =
      eqb-true c.physical BYTE_ARRAY (stands_valid LogicalType.String (valid_parameters logical.STRING c.p1 c.p2) c.physical _ (rw k at (placed edition c lawful))).1

  pub enum_bytes : c.kind ≡ logical.ENUM → c.physical ≡ BYTE_ARRAY
  unfolding is_placed slot_of annotation_of stated_of named_of
  enum_bytes k =
      eqb-true c.physical BYTE_ARRAY (stands_valid LogicalType.Enum (valid_parameters logical.ENUM c.p1 c.p2) c.physical _ (rw k at (placed edition c lawful))).1

  pub json_bytes : c.kind ≡ logical.JSON → c.physical ≡ BYTE_ARRAY
  unfolding is_placed slot_of annotation_of stated_of named_of
  json_bytes k =
      eqb-true c.physical BYTE_ARRAY (stands_valid LogicalType.Json (valid_parameters logical.JSON c.p1 c.p2) c.physical _ (rw k at (placed edition c lawful))).1
