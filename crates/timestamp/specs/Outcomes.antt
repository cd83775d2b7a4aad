-- What decoding, encoding and the test of a day's tick answer: document 01's refusals by number and place, or the value.
use Rattle.std.specs.Prelude.{Result, Ok, Err, ℕ, ◌-◌, ◌^◌, ◌≡◌, Bool, cond, ◌&&◌, ltb, ℤ, pos, negsuc, ◌+ℤ◌, ◌*ℤ◌}
use Rattle.std.proofs.Math.Option.{Option, none, some}
use Rattle.std.specs.Int.Signed.{le_z}
use Rattle.refusal.specs.declared.answers.Refusal.{Refusal}
use Rattle.refusal.specs.Numbers.{NO_DATE_TIME, NOT_REPRESENTABLE, UNKNOWN_TYPE}
use Rattle.refusal.specs.Outcome.{Outcome, given, refused, unplaced}
-- a type of the code: the seven fields, as `Count` has them
use Rattle.timestamp.specs.declared.fields.Fields.{Fields}
-- why encode gives no count: `NoDateTime`, `NotRepresentable` or `UnknownUnit`
use Rattle.timestamp.specs.declared.encoding.EncodeError.{EncodeError}
use Rattle.logical_type.specs.declared.types.TimeUnit.{TimeUnit}
use Rattle.timestamp.specs.Units.{ticks_per_second_of, ticks_per_day_of}
use Rattle.timestamp.specs.Count.{is_date_time, count_of, FieldsOf}

-- fields form no date or time
abbrev pub no_date_time : {A : Type 0} → Outcome A
no_date_time = refused (unplaced NO_DATE_TIME)

-- fields not representable in a signed 64-bit count
abbrev pub not_representable : {A : Type 0} → Outcome A
not_representable = refused (unplaced NOT_REPRESENTABLE)

-- a time unit is not 1 to 3
abbrev pub unknown_unit : {A : Type 0} → Outcome A
unknown_unit = refused (unplaced UNKNOWN_TYPE)

-- what each answer of decode stands for
abbrev pub decoded : Result Fields Refusal → Outcome Fields
decoded (Ok f) = given f
decoded (Err r) = refused r

-- the refusal of each error of encode
abbrev pub refusal_of : EncodeError → Refusal
refusal_of EncodeError.NoDateTime = unplaced NO_DATE_TIME
refusal_of EncodeError.NotRepresentable = unplaced NOT_REPRESENTABLE
refusal_of EncodeError.UnknownUnit = unplaced UNKNOWN_TYPE

-- what each answer of encode stands for
abbrev pub encoded : Result ℤ EncodeError → Outcome ℤ
encoded (Ok z) = given z
encoded (Err e) = refused (refusal_of e)

-- what each answer of in_day stands for
abbrev pub day_answer : Result Bool Refusal → Outcome Bool
day_answer (Ok has) = given has
day_answer (Err r) = refused r

-- whether a day has a tick, the first being 0: 20 where no unit is named, else whether it lies below those of that unit
abbrev pub day_has : Option TimeUnit → ℕ → Outcome Bool
day_has none tick = unknown_unit
day_has (some unit) tick = given (ltb tick (ticks_per_day_of (ticks_per_second_of unit)))

-- the greatest signed 64-bit number
abbrev pub greatest : ℕ
greatest = 2 ^ 63 - 1

-- a signed 64-bit number: from -1 less the greatest to the greatest
unfoldable pub is_signed64 : ℤ → Bool
is_signed64 z = le_z (negsuc greatest) z && le_z z (pos greatest)

-- what decoding answers in a unit with so many ticks in a second: the fields that the count stands for
abbrev pub DecodesIn : ℕ → ℤ → Outcome Fields → Type 0
DecodesIn perSecond count o = (f : Fields) × (o ≡ given f) × FieldsOf perSecond count f

-- what decoding answers: 20 where no unit is named, else as in that unit
abbrev pub Decodes : Option TimeUnit → ℤ → Outcome Fields → Type 0
Decodes none count o = o ≡ unknown_unit
Decodes (some unit) count o = DecodesIn (ticks_per_second_of unit) count o

-- what is answered where there is a count: 19, else the count
abbrev pub counting : ℤ → Outcome ℤ
counting count = cond (is_signed64 count) (given count) not_representable

-- what encoding answers in a unit with so many ticks in a second: 18, then 19, else the count of the fields
unfoldable pub encoding_in : ℕ → Fields → Outcome ℤ
encoding_in perSecond f = cond (is_date_time perSecond f) (counting (count_of perSecond f)) no_date_time

-- what encoding answers: 20 where no unit is named, else as in that unit
abbrev pub encoding : Option TimeUnit → Fields → Outcome ℤ
encoding none f = unknown_unit
encoding (some unit) f = encoding_in (ticks_per_second_of unit) f

-- what joining a day and a tick of it answers in a unit with so many ticks in a day: 18 where the day has no such tick, then 19, else the
-- count
abbrev pub joining : ℕ → ℤ → ℕ → Outcome ℤ
joining perDay day tick = cond (ltb tick perDay) (counting (day *ℤ pos perDay +ℤ pos tick)) no_date_time
