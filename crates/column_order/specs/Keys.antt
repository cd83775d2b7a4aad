-- What a value is ordered by (document 01, "Order"), over its bytes alone.
use Rattle.std.specs.Prelude.{ℕ, cond, List, [], ◌∷◌, ltb, eqb, ℤ, pos, Option, Some, None}
use Rattle.std.specs.declared.cmp.Ordering.{Ordering}
use Rattle.std.specs.declared.cmp.Ordering.TheVariants.{Less, Equal, Greater}
use Rattle.std.specs.Float.{binary32, binary64}
use Rattle.laws.specs.Bytes.{little}
use Rattle.column_type.specs.declared.types.ColumnType.{ColumnType}
use Rattle.decimal_bytes.specs.Number.{number}
use Rattle.parquet.specs.Physical.{BOOLEAN, FLOAT, DOUBLE}
use Rattle.column.specs.Numbers.{signed}
use Rattle.column.specs.Lengths.{is_byte_form, is_byte_decimal}
use Rattle.column.specs.Annotations.{is_whole, is_unsigned}
use Rattle.float_order.specs.Keys.{float_key, whole_order}

-- a whole number, or bytes; a NaN has no key
pub data Key : Type 0 where
  whole : ℤ → Key
  bytes : List ℕ → Key
  none : Key

-- the signed number that the bytes of a whole number or of a DECIMAL stand for, over all four physical types: big-endian in the byte
-- forms, and little-endian in INT32 and INT64
unfoldable pub number_of : ColumnType → List ℕ → ℤ
number_of c bs = cond (is_byte_form c) (number bs) (signed bs)

-- the key of a float, over its bits
abbrev pub number_key : Option ℤ → Key
number_key None = none
number_key (Some x) = whole x

-- "signed for numbers, dates, times, decimals; unsigned for INT(n, false) and BOOLEAN; unsigned byte-wise for other bytes"
unfoldable pub key_of : ColumnType → List ℕ → Key
key_of c bs =
    cond (eqb c.physical BOOLEAN) (whole (pos (little bs)))
    (cond (is_whole c) (whole (cond (is_unsigned c) (pos (little bs)) (number_of c bs)))
    (cond (eqb c.physical FLOAT) (number_key (float_key binary32 (little bs)))
    (cond (eqb c.physical DOUBLE) (number_key (float_key binary64 (little bs)))
    (cond (is_byte_decimal c) (whole (number_of c bs)) (bytes bs)))))

-- "unsigned byte-wise .., a proper prefix being less"
unfoldable pub byte_order : List ℕ → List ℕ → Ordering
byte_order [] [] = Equal
byte_order [] (y ∷ ys) = Less
byte_order (x ∷ xs) [] = Greater
byte_order (x ∷ xs) (y ∷ ys) = cond (ltb x y) Less (cond (ltb y x) Greater (byte_order xs ys))

-- the order of two keys of one column: "NaN is answered as unordered"
unfoldable pub key_order : Key → Key → Option Ordering
key_order (whole x) (whole y) = Some (whole_order x y)
key_order (whole x) (bytes b) = None
key_order (whole x) none = None
key_order (bytes a) (whole y) = None
key_order (bytes a) (bytes b) = Some (byte_order a b)
key_order (bytes a) none = None
key_order none k = None
