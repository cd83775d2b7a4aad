-- INT96 values written out, and what decoding answers of them; and the values of counts.
use mathlib.Core.Path.{◌≡◌, refl}
use mathlib.Core.List.{List, [], ◌∷◌}
use Prim.Native.Nat.{ℕ}
use lib.IntN.{pos, negsuc}
use Rattle.laws.specs.Bytes.{little, bytes_of}
use Rattle.refusal.specs.Outcome.{given, refused, unplaced}
use Rattle.timestamp.specs.Outcomes.{is_signed64}
use Rattle.int96.specs.Value.{nanos_in, day_in, count_of, since_day0, value_of}
use Rattle.int96.specs.Outcomes.{decoding}

-- ---- the start of 1 January 1970, and the last nanosecond before it

-- day 2,440,588 and no nanoseconds
abbrev pub epoch : List ℕ
epoch = 0 ∷ 0 ∷ 0 ∷ 0 ∷ 0 ∷ 0 ∷ 0 ∷ 0 ∷ 140 ∷ 61 ∷ 37 ∷ 0 ∷ []

pub epoch_count : decoding epoch ≡ given (pos 0)
unfolding decoding nanos_in day_in count_of little is_signed64
epoch_count = refl

pub epoch_value : value_of (pos 0) ≡ epoch
unfolding value_of since_day0 bytes_of
epoch_value = refl

-- day 2,440,587 and 86,399,999,999,999 nanoseconds
abbrev pub before : List ℕ
before = 255 ∷ 255 ∷ 78 ∷ 145 ∷ 148 ∷ 78 ∷ 0 ∷ 0 ∷ 139 ∷ 61 ∷ 37 ∷ 0 ∷ []

pub before_count : decoding before ≡ given (negsuc 0)
unfolding decoding nanos_in day_in count_of little is_signed64
before_count = refl

pub before_value : value_of (negsuc 0) ≡ before
unfolding value_of since_day0 bytes_of
before_value = refl

-- ---- the greatest count and the least, and the nanosecond beyond each

-- day 2,547,339 and 85,636,854,775,807 nanoseconds
abbrev pub greatest : List ℕ
greatest = 255 ∷ 255 ∷ 78 ∷ 226 ∷ 226 ∷ 77 ∷ 0 ∷ 0 ∷ 139 ∷ 222 ∷ 38 ∷ 0 ∷ []

pub greatest_count : decoding greatest ≡ given (pos 9223372036854775807)
unfolding decoding nanos_in day_in count_of little is_signed64
greatest_count = refl

pub greatest_value : value_of (pos 9223372036854775807) ≡ greatest
unfolding value_of since_day0 bytes_of
greatest_value = refl

pub beyond_greatest : decoding (0 ∷ 0 ∷ 79 ∷ 226 ∷ 226 ∷ 77 ∷ 0 ∷ 0 ∷ 139 ∷ 222 ∷ 38 ∷ 0 ∷ []) ≡ refused (unplaced 19)
unfolding decoding nanos_in day_in count_of little is_signed64
beyond_greatest = refl

-- day 2,333,836 and 763,145,224,192 nanoseconds
abbrev pub least : List ℕ
least = 0 ∷ 0 ∷ 0 ∷ 175 ∷ 177 ∷ 0 ∷ 0 ∷ 0 ∷ 140 ∷ 156 ∷ 35 ∷ 0 ∷ []

pub least_count : decoding least ≡ given (negsuc 9223372036854775807)
unfolding decoding nanos_in day_in count_of little is_signed64
least_count = refl

pub least_value : value_of (negsuc 9223372036854775807) ≡ least
unfolding value_of since_day0 bytes_of
least_value = refl

pub beyond_least : decoding (255 ∷ 255 ∷ 255 ∷ 174 ∷ 177 ∷ 0 ∷ 0 ∷ 0 ∷ 140 ∷ 156 ∷ 35 ∷ 0 ∷ []) ≡ refused (unplaced 19)
unfolding decoding nanos_in day_in count_of little is_signed64
beyond_least = refl

-- ---- a full day of nanoseconds, and one less

pub full_day : decoding (0 ∷ 0 ∷ 79 ∷ 145 ∷ 148 ∷ 78 ∷ 0 ∷ 0 ∷ 140 ∷ 61 ∷ 37 ∷ 0 ∷ []) ≡ refused (unplaced 16)
unfolding decoding nanos_in day_in count_of little is_signed64
full_day = refl

pub last_of_day : decoding (255 ∷ 255 ∷ 78 ∷ 145 ∷ 148 ∷ 78 ∷ 0 ∷ 0 ∷ 140 ∷ 61 ∷ 37 ∷ 0 ∷ []) ≡ given (pos 86399999999999)
unfolding decoding nanos_in day_in count_of little is_signed64
last_of_day = refl

-- ---- day 0 and the greatest day

pub day_zero : decoding (0 ∷ 0 ∷ 0 ∷ 0 ∷ 0 ∷ 0 ∷ 0 ∷ 0 ∷ 0 ∷ 0 ∷ 0 ∷ 0 ∷ []) ≡ refused (unplaced 19)
unfolding decoding nanos_in day_in count_of little is_signed64
day_zero = refl

pub greatest_day : decoding (0 ∷ 0 ∷ 0 ∷ 0 ∷ 0 ∷ 0 ∷ 0 ∷ 0 ∷ 255 ∷ 255 ∷ 255 ∷ 255 ∷ []) ≡ refused (unplaced 19)
unfolding decoding nanos_in day_in count_of little is_signed64
greatest_day = refl

-- ---- eleven and thirteen bytes

pub eleven_bytes : decoding (0 ∷ 0 ∷ 0 ∷ 0 ∷ 0 ∷ 0 ∷ 0 ∷ 0 ∷ 0 ∷ 0 ∷ 0 ∷ []) ≡ refused (unplaced 15)
unfolding decoding nanos_in day_in count_of little is_signed64
eleven_bytes = refl

pub thirteen_bytes : decoding (0 ∷ 0 ∷ 0 ∷ 0 ∷ 0 ∷ 0 ∷ 0 ∷ 0 ∷ 0 ∷ 0 ∷ 0 ∷ 0 ∷ 0 ∷ []) ≡ refused (unplaced 15)
unfolding decoding nanos_in day_in count_of little is_signed64
thirteen_bytes = refl
