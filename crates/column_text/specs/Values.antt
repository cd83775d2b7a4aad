-- Values that were read, as text.
use Rattle.std.specs.Prelude.{ℕ, cond, List, ◌++◌, Float}
use Rattle.std.specs.Float.{Format, binary32, binary64}
use Rattle.std.specs.Float.Ieee.{is_nan, to_bits}
use Rattle.text.specs.Characters.{ascii}
use Rattle.text.specs.Numbers.{decimal_text, signed_text, hex_text}
use Rattle.column.specs.declared.value.Value.{Value}
use Rattle.column.specs.declared.value.Value.TheVariants as value

-- how many hexadecimal digits the bits of a float take
abbrev pub hex_digits : Format → ℕ
hex_digits binary32 = 8
hex_digits binary64 = 16

-- a float by its bits, which tell each number from every other, and each NaN as the one NaN that is read
unfoldable pub float_text : Format → Float → List ℕ
float_text f x = cond (is_nan x) (ascii "NaN") (hex_text (hex_digits f) (to_bits f x))

-- a stretch of bytes by its start and its length
unfoldable pub stretch_text : ℕ → ℕ → List ℕ
stretch_text start length = ascii "bytes " ++ decimal_text start ++ ascii " " ++ decimal_text length

-- "A read value is a truth value, a whole number, a FLOAT, a DOUBLE or .. a stretch of bytes (start and length)"
unfoldable pub value_text : Value → List ℕ
value_text (value.Truth p) = cond p (ascii "true") (ascii "false")
value_text (value.Signed z) = signed_text z
value_text (value.Unsigned n) = decimal_text n
value_text (value.Float x) = ascii "float " ++ float_text binary32 x
value_text (value.Double x) = ascii "double " ++ float_text binary64 x
value_text (value.Bytes start length) = stretch_text start length

-- the most bytes that a value takes: a stretch of two numbers of 64 bits
abbrev pub most_value_bytes : ℕ
most_value_bytes = 47
