-- Which values keep the annotation of their column; one that breaks it is refused with 16.
use Rattle.std.specs.Prelude.{ℕ, ◌-◌, ◌^◌, Bool, true, false, cond, not, ◌&&◌, ◌||◌, List, leb, ltb, eqb, ℤ, pos, neg_ℤ, nat_abs, length}
use Rattle.std.proofs.Math.Option.{Option, none, some}
use Rattle.std.specs.Int.Signed.{lt_z, le_z}
use Rattle.laws.specs.Bytes.{little}
use Rattle.column_type.specs.declared.types.ColumnType.{ColumnType}
use Rattle.decimal_bytes.specs.Number.{number}
use Rattle.logical_type.specs.declared.types.TimeUnit.{TimeUnit}
use Rattle.timestamp.specs.Units.{ticks_per_second_of, ticks_per_day_of, unit_of}
use Rattle.utf8.specs.Valid.{valid_up_to}
use Rattle.parquet.specs.Physical.{BOOLEAN, INT32, INT64}
use Rattle.parquet.specs.Logical.{STRING, ENUM, DECIMAL, TIME, INTEGER, UNKNOWN, JSON}
use Rattle.logical_type.specs.Parameters.{flag_code}
use Rattle.column.specs.Numbers.{signed}
use Rattle.column.specs.Lengths.{is_byte_form}

-- the physical types whose values are whole numbers
abbrev pub is_whole : ColumnType → Bool
is_whole c = eqb c.physical INT32 || eqb c.physical INT64

-- p2 of INT(n, false): "b signed 1 or 0"
abbrev pub UNSIGNED : ℕ
UNSIGNED = flag_code false

-- INT(n, false)
abbrev pub is_unsigned : ColumnType → Bool
is_unsigned c = eqb c.kind INTEGER && eqb c.p2 UNSIGNED

-- "INT stays within its width": a number without sign in n bits
abbrev pub in_bits : ℕ → ℕ → Bool
in_bits n x = ltb x (2 ^ n)

-- and one with a sign, from -2^(n-1) to 2^(n-1) - 1
unfoldable pub in_signed_bits : ℕ → ℤ → Bool
in_signed_bits n z = le_z (neg_ℤ (pos (2 ^ (n - 1)))) z && lt_z z (pos (2 ^ (n - 1)))

-- "TIME: 0 to one day less one tick (house)", in the unit that p1 names
unfoldable pub in_day : Option TimeUnit → ℤ → Bool
in_day none z = false
in_day (some unit) z = le_z (pos 0) z && lt_z z (pos (ticks_per_day_of (ticks_per_second_of unit)))

-- "DECIMAL: |unscaled| < 10^precision"
abbrev pub in_digits : ℕ → ℤ → Bool
in_digits precision z = ltb (nat_abs z) (10 ^ precision)

-- what an INT32 or INT64 is held to, read without its sign and with it; DATE, TIMESTAMP and no annotation: "Others: any"
unfoldable pub whole_keeps : ColumnType → ℕ → ℤ → Bool
whole_keeps c n z =
    cond (eqb c.kind INTEGER) (cond (eqb c.p2 UNSIGNED) (in_bits c.p1 n) (in_signed_bits c.p1 z))
    (cond (eqb c.kind TIME) (in_day (unit_of c.p1) z)
    (cond (eqb c.kind DECIMAL) (in_digits c.p1 z) true))

-- "STRING, ENUM, JSON"
abbrev pub is_text : ℕ → Bool
is_text kind = eqb kind STRING || eqb kind ENUM || eqb kind JSON

-- what a BYTE_ARRAY or FIXED is held to: a DECIMAL, big-endian, to its precision, and text to "UTF-8 (RFC 3629)"; "Others: any"
unfoldable pub bytes_keep : ColumnType → List ℕ → Bool
bytes_keep c bs =
    cond (eqb c.kind DECIMAL) (in_digits c.p1 (number bs))
    (cond (is_text c.kind) (eqb (valid_up_to bs) (length bs)) true)

-- document 02, R-6: where text stops short of its end, "the offset where whole valid sequences, read from the start, stop"
abbrev pub text_place : ℕ → List ℕ → ℕ
text_place kind bs = cond (is_text kind) (valid_up_to bs) 0

-- "the place of 16 is this offset for STRING, ENUM and JSON, and 0 otherwise". These are BYTE_ARRAY in every lawful column
unfoldable pub annotation_place : ColumnType → List ℕ → ℕ
annotation_place c bs = cond (is_byte_form c) (text_place c.kind bs) 0

-- "BOOLEAN one byte, 0 or 1 (else 16)"
abbrev pub is_truth : ℕ → Bool
is_truth n = leb n 1

-- a value keeps its annotation; "UNKNOWN: no value, so 16"
unfoldable pub keeps : ColumnType → List ℕ → Bool
keeps c bs =
    not (eqb c.kind UNKNOWN)
    && cond (eqb c.physical BOOLEAN) (is_truth (little bs))
    (cond (is_whole c) (whole_keeps c (little bs) (signed bs))
    (cond (is_byte_form c) (bytes_keep c bs) true))
