-- What reading a value and ordering two answer.
use Rattle.std.specs.Prelude.{ℕ, suc, ◌-◌, ◌^◌, cond, List, [], ◌∷◌, Float, ℤ, pos, negsuc}
use Rattle.std.specs.Float.{Format, binary32, binary64}
use Rattle.std.specs.Float.Ieee.{is_nan, to_bits}
use Rattle.column_type.specs.declared.types.ColumnType.{ColumnType}
use Rattle.refusal.specs.Faults as sided
use Rattle.refusal.specs.Faults.{Sided}
use Rattle.refusal.specs.Outcome.{Outcome, given, refused}
use Rattle.std.specs.Prelude.{Option, Some, None}
use Rattle.std.specs.declared.cmp.Ordering.{Ordering}
use Rattle.std.specs.declared.cmp.Ordering.TheVariants.{Less, Equal, Greater}
use Rattle.column.specs.Outcome as column
use Rattle.column.specs.declared.value.Value.{Value}
use Rattle.column.specs.declared.value.Value.TheVariants as value
use Rattle.column_order.specs.Outcome as column_order
use Rattle.c_answer.specs.Answers.{packed, fault_answer, RESULT, Effect, result, within}

-- a column type of its five numbers
abbrev pub column_type : ℕ → ℕ → ℕ → ℕ → ℕ → ColumnType
column_type physical length kind p1 p2 = record { physical = physical; type_length = length; kind = kind; p1 = p1; p2 = p2 }

-- "the case (0 truth, 1 signed whole, 2 unsigned whole, 3 FLOAT, 4 DOUBLE, 5 bytes)"
abbrev pub case_of : Value → ℕ
case_of (value.Truth p) = 0
case_of (value.Signed z) = 1
case_of (value.Unsigned n) = 2
case_of (value.Float x) = 3
case_of (value.Double x) = 4
case_of (value.Bytes start length) = 5

-- "a signed number as 64-bit two's complement"
abbrev pub twos_complement64 : ℤ → ℕ
twos_complement64 (pos n) = n
twos_complement64 (negsuc n) = 2 ^ 64 - suc n

-- "a NaN as the quiet NaN with no other bit set": every bit of the exponent, and the first behind it
abbrev pub quiet_nan : Format → ℕ
quiet_nan binary32 = 0x7fc00000
quiet_nan binary64 = 0x7ff8000000000000

-- the bits of a FLOAT or a DOUBLE
unfoldable pub float_bits : Format → Float → ℕ
float_bits f x = cond (is_nan x) (quiet_nan f) (to_bits f x)

-- "writes two numbers: the value's bits and 0 .., or start and length"
abbrev pub numbers_of : Value → List ℕ
numbers_of (value.Truth p) = cond p 1 0 ∷ 0 ∷ []
numbers_of (value.Signed z) = twos_complement64 z ∷ 0 ∷ []
numbers_of (value.Unsigned n) = n ∷ 0 ∷ []
numbers_of (value.Float x) = float_bits binary32 x ∷ 0 ∷ []
numbers_of (value.Double x) = float_bits binary64 x ∷ 0 ∷ []
numbers_of (value.Bytes start length) = start ∷ length ∷ []

-- what each outcome of reading comes to
abbrev pub read_effect : Outcome Value → Effect ℕ
read_effect (given v) = result (case_of v) (numbers_of v)
read_effect (refused r) = refused r

-- what reading comes to for any column type, any bytes and any number of lent places
unfoldable pub reading : ℕ → ColumnType → List ℕ → ℕ → Effect ℕ
reading edition c bs lent = within lent (read_effect (column.outcome edition c bs))

-- "0 less, 1 equal, 2 greater, 3 unordered"
abbrev pub relation_number : Option Ordering → ℕ
relation_number (Some Less) = 0
relation_number (Some Equal) = 1
relation_number (Some Greater) = 2
relation_number None = 3

-- the answer of each outcome of ordering, which writes nothing
abbrev pub order_answer : Sided (Option Ordering) → ℕ
order_answer (sided.given r) = packed RESULT (relation_number r)
order_answer (sided.refused f) = fault_answer f

-- the answer of ordering for any column type and any two values
unfoldable pub ordering : ℕ → ColumnType → List ℕ → List ℕ → ℕ
ordering edition c a b = order_answer (column_order.outcome edition c a b)
