-- Column types that the definition calls lawful or not: the ends of each rule.
use Prim.Native.Nat.{ℕ, zero, suc, ◌+◌, ◌-◌, ◌^◌, ◌≤◌}
use mathlib.Core.Path.{◌≡◌, refl}
use mathlib.Core.Bool.{Bool, true, false}
use mathlib.Core.List.{List, [], ◌∷◌, map}
use native.Mathlib.Omega.{arith}
use Rattle.decimal_bytes.specs.Precision.{greatest_precision, greatest}
use Rattle.parquet.specs.Physical.{INT32, INT64, BYTE_ARRAY, FIXED_LEN_BYTE_ARRAY, GROUP}
use Rattle.parquet.specs.Converted as converted
use Rattle.parquet.specs.Logical as logical
use Rattle.logical_type.specs.Parameters.{bit_width_code, unit_code, flag_code, unit_of, bit_width_of, edge_of, valid_parameters}
use Rattle.logical_type.specs.Spelling.{named_of, stated_of}
use Rattle.annotation.specs.Signed.{natural}
use Rattle.logical_type.specs.Backward.{backward_of}
use Rattle.annotation.specs.Meaning.{annotation_of}
use Rattle.annotation.specs.Rule9.{rule9}
use Rattle.annotation.specs.Rule10.{is_placed, is_retired, rule10, INTERVAL_LENGTH, UUID_LENGTH}
use Rattle.annotation.specs.Rule11.{scale_allowed, ordered, physical_holds, decimal_holds, rule11}
use Rattle.annotation.specs.Kinds.{PLAIN_LEAF, PLAIN_GROUP}
use Rattle.logical_type.specs.declared.types.TimeUnit.{TimeUnit}
use Rattle.logical_type.specs.declared.types.BitWidth.{BitWidth}
use Rattle.edition.specs.Editions.{FIRST, SECOND, THIRD, is_known, scale_may_equal, int96_retired, has_geospatial}
use Rattle.edition.proofs.EditionLaws.{each_edition}
use Rattle.sheet.specs.Sound.{listed, physical_listed}
use Rattle.tree.specs.Rules.{is_nought, length_shape}
use Rattle.column_type.specs.Lawful.{slot_of, fits, is_leaf, slot_keeps, is_lawful}
use Rattle.column_type.specs.declared.types.ColumnType.{ColumnType}

-- "INT96 3"
abbrev INT96 : ℕ
INT96 = 3

-- physical, type length, kind, p1, p2
abbrev column : ℕ → ℕ → ℕ → ℕ → ℕ → ColumnType
column ph length kind p1 p2 = record { physical = ph; type_length = length; kind = kind; p1 = p1; p2 = p2 }

abbrev lawful_points : List ColumnType
lawful_points =
    -- "INT32 without annotation stays kind 0"
    column INT32 0 PLAIN_LEAF 0 0
    -- FIXED of the greatest type length that a slot holds
    ∷ column FIXED_LEN_BYTE_ARRAY (2 ^ 31 - 1) PLAIN_LEAF 0 0
    -- INT(8, false), and INT(64, true) on INT64
    ∷ column INT32 0 logical.INTEGER (bit_width_code BitWidth.Bits8) (flag_code false)
    ∷ column INT64 0 logical.INTEGER (bit_width_code BitWidth.Bits64) (flag_code true)
    -- "precision 10 on INT32" is an error, 9 is not
    ∷ column INT32 0 logical.DECIMAL 9 2
    ∷ column FIXED_LEN_BYTE_ARRAY 1 logical.DECIMAL 2 0
    -- "BYTE_ARRAY: no limit" but that of a signed number
    ∷ column BYTE_ARRAY 0 logical.DECIMAL (2 ^ 31 - 1) (2 ^ 31 - 2)
    ∷ column INT32 0 logical.TIME (unit_code TimeUnit.Millis) (flag_code true)
    ∷ column FIXED_LEN_BYTE_ARRAY INTERVAL_LENGTH converted.INTERVAL 0 0
    ∷ column FIXED_LEN_BYTE_ARRAY UUID_LENGTH logical.UUID 0 0
    -- "UNKNOWN: any leaf"
    ∷ column FIXED_LEN_BYTE_ARRAY 17 logical.UNKNOWN 0 0
    ∷ []

abbrev unlawful_points : List ColumnType
unlawful_points =
    -- no physical code, a group's, and one past a byte
    column 8 0 PLAIN_LEAF 0 0
    ∷ column GROUP 0 PLAIN_LEAF 0 0
    ∷ column (2 ^ 8) 0 PLAIN_LEAF 0 0
    -- "Type length is at least 1 for FIXED, 0 otherwise"
    ∷ column FIXED_LEN_BYTE_ARRAY 0 PLAIN_LEAF 0 0
    ∷ column INT32 4 PLAIN_LEAF 0 0
    ∷ column FIXED_LEN_BYTE_ARRAY (2 ^ 31) PLAIN_LEAF 0 0
    -- a plain leaf has no parameters
    ∷ column INT32 0 PLAIN_LEAF 1 0
    -- INT(64, false) on INT32
    ∷ column INT32 0 logical.INTEGER (bit_width_code BitWidth.Bits64) (flag_code false)
    ∷ column INT32 0 logical.INTEGER (2 ^ 8 + bit_width_code BitWidth.Bits8) (flag_code false)
    ∷ column INT32 0 logical.DECIMAL 10 2
    -- a precision of 0, even beside a scale of 0
    ∷ column INT32 0 logical.DECIMAL 0 0
    ∷ column INT32 0 logical.DECIMAL 3 4
    -- "FIXED 1 precision 3: 11"
    ∷ column FIXED_LEN_BYTE_ARRAY 1 logical.DECIMAL 3 0
    -- "n to 256"
    ∷ column FIXED_LEN_BYTE_ARRAY 257 logical.DECIMAL 1 0
    ∷ column BYTE_ARRAY 0 logical.DECIMAL (2 ^ 31) 0
    ∷ column INT64 0 logical.TIME (unit_code TimeUnit.Millis) (flag_code true)
    ∷ column FIXED_LEN_BYTE_ARRAY 11 converted.INTERVAL 0 0
    ∷ column FIXED_LEN_BYTE_ARRAY INTERVAL_LENGTH converted.INTERVAL 0 1
    ∷ column FIXED_LEN_BYTE_ARRAY 15 logical.UUID 0 0
    -- a plain group, LIST and MAP are no leaves; 9 and 22 are no codes
    ∷ column INT32 0 PLAIN_GROUP 0 0
    ∷ column BYTE_ARRAY 0 logical.LIST 0 0
    ∷ column BYTE_ARRAY 0 logical.MAP 0 0
    ∷ column INT32 0 9 0 0
    ∷ column INT32 0 22 0 0
    ∷ column INT32 0 (2 ^ 8 + logical.DATE) 0 0
    ∷ []

-- "Scale = precision": as document 02's R-4 has it, by edition
abbrev equal_points : List ColumnType
equal_points =
    column INT32 0 logical.DECIMAL 3 3
    ∷ column INT64 0 logical.DECIMAL 18 18
    ∷ column FIXED_LEN_BYTE_ARRAY 1 logical.DECIMAL 2 2
    ∷ column BYTE_ARRAY 0 logical.DECIMAL (2 ^ 31 - 1) (2 ^ 31 - 1)
    ∷ []

-- "INT96 is retired": as document 02's R-10 has it, by edition, "UNKNOWN: any leaf" too
abbrev int96_points : List ColumnType
int96_points = column INT96 0 PLAIN_LEAF 0 0 ∷ column INT96 0 logical.UNKNOWN 0 0 ∷ []

-- `is_lawful`, with all that it is made of open
opened : ℕ → ColumnType → Bool
unfolding is_lawful slot_keeps is_known scale_may_equal int96_retired has_geospatial fits is_leaf physical_listed listed length_shape is_nought slot_of rule9 is_placed is_retired rule10 rule11 decimal_holds ordered scale_allowed physical_holds greatest_precision greatest annotation_of backward_of stated_of named_of valid_parameters unit_of bit_width_of edge_of natural
opened edition = is_lawful edition

-- document 02, R-11: GEOMETRY, and GEOGRAPHY with each edge rule
pub geometry_lawful : is_lawful THIRD (column BYTE_ARRAY 0 logical.GEOMETRY 0 0) ≡ true
unfolding opened
geometry_lawful = refl

pub geography_lawful : (edge : ℕ) → edge ≤ 4 → is_lawful THIRD (column BYTE_ARRAY 0 logical.GEOGRAPHY edge 0) ≡ true
unfolding opened
geography_lawful zero h = refl
geography_lawful (suc zero) h = refl
geography_lawful (suc (suc zero)) h = refl
geography_lawful (suc (suc (suc zero))) h = refl
geography_lawful (suc (suc (suc (suc zero)))) h = refl
geography_lawful (suc (suc (suc (suc (suc edge))))) h = absurd (omega arith)

pub points_lawful : (edition : ℕ) → is_known edition ≡ true → map (is_lawful edition) lawful_points ≡ map (λ c. true) lawful_points
unfolding opened
points_lawful = each_edition _ refl refl refl

pub points_unlawful : (edition : ℕ) → is_known edition ≡ true → map (is_lawful edition) unlawful_points ≡ map (λ c. false) unlawful_points
unfolding opened
points_unlawful = each_edition _ refl refl refl

pub points_equal_first : map (is_lawful FIRST) equal_points ≡ map (λ c. false) equal_points
unfolding opened
points_equal_first = refl

pub points_equal_second : map (is_lawful SECOND) equal_points ≡ map (λ c. true) equal_points
unfolding opened
points_equal_second = refl

pub points_equal_third : map (is_lawful THIRD) equal_points ≡ map (λ c. true) equal_points
unfolding opened
points_equal_third = refl

pub points_int96_first : map (is_lawful FIRST) int96_points ≡ map (λ c. true) int96_points
unfolding opened
points_int96_first = refl

pub points_int96_second : map (is_lawful SECOND) int96_points ≡ map (λ c. true) int96_points
unfolding opened
points_int96_second = refl

pub points_int96_third : map (is_lawful THIRD) int96_points ≡ map (λ c. false) int96_points
unfolding opened
points_int96_third = refl
