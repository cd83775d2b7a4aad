-- Rule 11: precision and scale of a DECIMAL, by edition.
use Rattle.std.specs.Prelude.{ℕ, Bool, true, false, not, cond, ◌&&◌, ◌||◌, eqb, leb, ℤ, pos}
use Rattle.std.specs.Int.Signed.{le_z, lt_z}
use Rattle.edition.specs.Editions.{scale_may_equal}
use Rattle.decimal_bytes.specs.Precision.{is_length, greatest_precision}
use Rattle.parquet.specs.Physical as physical
use Rattle.parquet.specs.Logical as logical
use Rattle.logical_type.specs.Spelling.{code_of}
use Rattle.annotation.specs.Signed.{natural}
use Rattle.annotation.specs.Meaning.{annotation_of}
use Rattle.logical_type.specs.declared.types.Annotation.{Annotation}
use Rattle.annotation.specs.declared.slot.Annotated.{Annotated}

-- "INT32: precision to 9"
abbrev pub INT32_DIGITS : ℕ
INT32_DIGITS = 9

-- "INT64: to 18"
abbrev pub INT64_DIGITS : ℕ
INT64_DIGITS = 18

-- "scale < precision", or equal where the edition allows it
unfoldable pub scale_allowed : ℕ → ℤ → ℤ → Bool
scale_allowed edition precision scale = cond (scale_may_equal edition) (le_z scale precision) (lt_z scale precision)

-- "1 <= precision, 0 <= scale < precision"
unfoldable pub ordered : ℕ → ℤ → ℤ → Bool
ordered edition precision scale = le_z (pos 1) precision && le_z (pos 0) scale && scale_allowed edition precision scale

-- "FIXED n: n to 256 .., and precision to the greatest d with 10^d <= 2^(8n-1) - 1"
abbrev pub fixed_holds : ℕ → ℕ → Bool
fixed_holds length precision =
    is_length length && leb precision (greatest_precision length)

-- whether a physical type of a length holds a precision: "BYTE_ARRAY: no limit"
unfoldable pub physical_holds : ℕ → ℕ → ℕ → Bool
physical_holds code length precision =
    cond (eqb code physical.INT32) (leb precision INT32_DIGITS)
    (cond (eqb code physical.INT64) (leb precision INT64_DIGITS)
    (cond (eqb code physical.FIXED_LEN_BYTE_ARRAY) (fixed_holds length precision) true))

-- whether an annotation is DECIMAL
abbrev pub is_decimal : Annotation → Bool
is_decimal Annotation.Plain = false
is_decimal (Annotation.Logical l) = eqb (code_of l) logical.DECIMAL
is_decimal Annotation.Interval = false
is_decimal Annotation.Unreadable = false

-- what rule 11 asks of a DECIMAL
unfoldable pub decimal_holds : ℕ → Annotated → Bool
decimal_holds edition n =
    ordered edition n.precision n.scale && physical_holds n.physical (natural n.type_length) (natural n.precision)

-- it asks nothing of another annotation
abbrev pub digits_allowed : ℕ → Annotation → Annotated → Bool
digits_allowed edition says n = not (is_decimal says) || decimal_holds edition n

-- "DECIMAL scale or precision" is what it refuses (01, rule 11)
unfoldable pub rule11 : ℕ → Annotated → Bool → Bool
rule11 edition n under_map_of = digits_allowed edition (annotation_of n under_map_of) n
