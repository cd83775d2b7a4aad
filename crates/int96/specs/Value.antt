-- A time as INT96 holds it, and the count of nanoseconds that it stands for (document 02, R-10).
use Rattle.std.specs.Prelude.{ℕ, ◌+◌, ◌*◌, ◌/◌, ◌%◌, ◌<◌, ◌≡◌, List, ◌++◌, ℤ, pos, nat_abs, ◌+ℤ◌, ◌-ℤ◌, ◌*ℤ◌, length, take, drop}
use Rattle.laws.specs.Bytes.{Bytes, little, bytes_of}
use Rattle.logical_type.specs.declared.types.TimeUnit.{TimeUnit}
use Rattle.timestamp.specs.Units.{ticks_per_second_of, ticks_per_day_of}

-- "8 bytes of nanoseconds in the day"
abbrev pub NANOS_BYTES : ℕ
NANOS_BYTES = 8

-- "then 4 bytes of Julian day"
abbrev pub DAY_BYTES : ℕ
DAY_BYTES = 4

abbrev pub VALUE_BYTES : ℕ
VALUE_BYTES = NANOS_BYTES + DAY_BYTES

-- "day 2,440,588 being 1 January 1970"
abbrev pub DAY_OF_1970 : ℕ
DAY_OF_1970 = 2440588

-- the nanoseconds of a day
abbrev pub NANOS_PER_DAY : ℕ
NANOS_PER_DAY = ticks_per_day_of (ticks_per_second_of TimeUnit.Nanos)

-- "both unsigned little-endian"
unfoldable pub nanos_in : List ℕ → ℕ
nanos_in value = little (take NANOS_BYTES value)

unfoldable pub day_in : List ℕ → ℕ
day_in value = little (drop NANOS_BYTES value)

-- the count of a value, over the integers: the nanoseconds from the start of 1 January 1970, of its days from there, negative before it, and
-- of its nanoseconds in the day
unfoldable pub count_of : List ℕ → ℤ
count_of value = (pos (day_in value) -ℤ pos DAY_OF_1970) *ℤ pos NANOS_PER_DAY +ℤ pos (nanos_in value)

-- a value that stands for a count
pub record ValueOf (count : ℤ) (value : List ℕ) : Type 0 where
  pub bytes : Bytes value
  pub long : length value ≡ VALUE_BYTES
  pub in_day_lem : nanos_in value < NANOS_PER_DAY
  pub counted : count_of value ≡ count

-- the nanoseconds from the start of Julian day 0 to that of a count, which lies behind it
unfoldable pub since_day0 : ℤ → ℕ
since_day0 count = nat_abs (count +ℤ pos (DAY_OF_1970 * NANOS_PER_DAY))

-- the value of a count
unfoldable pub value_of : ℤ → List ℕ
value_of count = bytes_of NANOS_BYTES (since_day0 count % NANOS_PER_DAY) ++ bytes_of DAY_BYTES (since_day0 count / NANOS_PER_DAY)
