-- The lengths that values of a column have; any other is refused with 15.
use Rattle.std.specs.Prelude.{ℕ, Bool, true, cond, not, ◌&&◌, ◌||◌, leb, eqb}
use Rattle.std.proofs.Math.Option.{Option, none, some}
use Rattle.column_type.specs.declared.types.ColumnType.{ColumnType}
use Rattle.decimal_bytes.specs.Precision.{is_length}
use Rattle.parquet.specs.Physical.{BOOLEAN, INT32, INT64, INT96, FLOAT, DOUBLE, BYTE_ARRAY, FIXED_LEN_BYTE_ARRAY}
use Rattle.parquet.specs.Logical.{DECIMAL}

-- "value of wrong length, or over 65,536 bytes"
abbrev pub most_bytes : ℕ
most_bytes = 65536

-- how many bytes each value of a column has, where its physical type says: "Numbers are little-endian of their width; INT96 12 bytes;
-- BOOLEAN one byte", FIXED its type length
abbrev pub width_of : ColumnType → Option ℕ
width_of c =
    cond (eqb c.physical BOOLEAN) (some 1)
    (cond (eqb c.physical INT32) (some 4)
    (cond (eqb c.physical INT64) (some 8)
    (cond (eqb c.physical INT96) (some 12)
    (cond (eqb c.physical FLOAT) (some 4)
    (cond (eqb c.physical DOUBLE) (some 8)
    (cond (eqb c.physical FIXED_LEN_BYTE_ARRAY) (some c.type_length) none))))))

-- a length is this width, where there is one
abbrev pub is_width : Option ℕ → ℕ → Bool
is_width none n = true
is_width (some width) n = eqb n width

-- the byte forms
abbrev pub is_byte_form : ColumnType → Bool
is_byte_form c = eqb c.physical BYTE_ARRAY || eqb c.physical FIXED_LEN_BYTE_ARRAY

-- DECIMAL: "byte forms are big-endian two's complement, 1 to 256 bytes (else 15)"
abbrev pub is_byte_decimal : ColumnType → Bool
is_byte_decimal c = is_byte_form c && eqb c.kind DECIMAL

-- a value of the column may have so many bytes
unfoldable pub length_right : ColumnType → ℕ → Bool
length_right c n = leb n most_bytes && is_width (width_of c) n && (not (is_byte_decimal c) || is_length n)
