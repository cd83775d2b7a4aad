-- Reading one value: which value valid bytes are, and what reading answers for any column type and any bytes.
use Rattle.std.specs.Prelude.{ℕ, Bool, cond, List, eqb, ℤ, length, Result, Ok, Err}
use Rattle.std.specs.Float.{binary32, binary64}
use Rattle.std.specs.Float.Ieee.{of_bits}
use Rattle.laws.specs.Bytes.{little}
use Rattle.refusal.specs.Numbers.{WRONG_LENGTH, BREAKS_ANNOTATION}
use Rattle.refusal.specs.Outcome.{refusal, unplaced}
use Rattle.refusal.specs.declared.answers.Refusal.{Refusal}
use Rattle.column_type.specs.declared.types.ColumnType.{ColumnType}
use Rattle.column_type.specs.Lawful.{is_lawful, type_refusal}
use Rattle.parquet.specs.Physical.{BOOLEAN, FLOAT, DOUBLE}
use Rattle.column.specs.Numbers.{signed}
use Rattle.column.specs.Lengths.{length_right}
use Rattle.column.specs.Annotations.{is_whole, is_unsigned, annotation_place, keeps}
use Rattle.column.specs.declared.value.Value.{Value}
use Rattle.column.specs.declared.value.Value.TheVariants.{Truth, Signed, Unsigned, Float, Double, Bytes}
use Rattle.column.specs.declared.value.Both.{Both}

-- "INT(n, false) reads its bytes unsigned"; every other whole number is signed
abbrev pub whole_value : ColumnType → ℕ → ℤ → Value
whole_value c n z = cond (is_unsigned c) (Unsigned n) (Signed z)

-- "A read value is a truth value, a whole number, a FLOAT, a DOUBLE or, for INT96 and all byte forms, a stretch of bytes (start and
-- length)". A FLOAT or DOUBLE is the float of its bits; each pattern of a NaN is the NaN
unfoldable pub value_of : ColumnType → List ℕ → Value
value_of c bs =
    cond (eqb c.physical BOOLEAN) (Truth (eqb (little bs) 1))
    (cond (is_whole c) (whole_value c (little bs) (signed bs))
    (cond (eqb c.physical FLOAT) (Float (of_bits binary32 (little bs)))
    (cond (eqb c.physical DOUBLE) (Double (of_bits binary64 (little bs))) (Bytes 0 (length bs)))))

-- a value of the right length: 16, with its place, where it breaks its annotation
abbrev pub checked : Bool → ℕ → Value → Result Value Refusal
checked kept place v = cond kept (Ok v) (Err (refusal BREAKS_ANNOTATION place))

-- a value of a lawful column type: 15, then 16
abbrev pub read_lawful : ColumnType → List ℕ → Result Value Refusal
read_lawful c bs = cond (length_right c (length bs)) (checked (keeps c bs) (annotation_place c bs) (value_of c bs)) (Err (unplaced WRONG_LENGTH))

-- "One value is checked for 20, then 15, then 16", and for 21 "before all others"
unfoldable pub read_of : ℕ → ColumnType → List ℕ → Result Value Refusal
read_of edition c bs = cond (is_lawful edition c) (read_lawful c bs) (Err (type_refusal edition))

-- two values of one column, each checked so
abbrev pub both_of : ℕ → ColumnType → List ℕ → List ℕ → Both
both_of edition c a b = record { first = read_of edition c a; second = read_of edition c b }
