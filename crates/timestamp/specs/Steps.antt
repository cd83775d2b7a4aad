-- What private functions promise each other; no public contract cites it.
use Rattle.std.specs.Prelude as code
use Rattle.std.specs.Prelude.{ℕ, ◌+◌, ◌*◌, ◌-◌, ◌/◌, ◌%◌, ◌<◌, ◌≤◌, ◌≡◌, Bool, true, false, cond, ◌&&◌, ◌∷◌, ltb, ℤ, pos, ◌+ℤ◌, ◌*ℤ◌, get_or}
use Rattle.std.proofs.Math.Option.{Option, none, some}
use Rattle.std.proofs.Math.IntN.{sub_ℕ}
use Rattle.std.specs.Int.Signed.{mag}
use Rattle.refusal.specs.Outcome.{Outcome}
-- types of the code: a month's `days`, an unsigned 32-bit number, and its `offset`, a signed 64-bit one
use Rattle.timestamp.specs.declared.calendar.Month.{Month}
-- a moment's `Second`, which holds a signed 64-bit number, `Far` or `NoDateTime`
use Rattle.timestamp.specs.declared.moment.Moment.{Moment}
use Rattle.timestamp.specs.declared.fields.Fields.{Fields}
use Rattle.timestamp.specs.Calendar.{months, is_date, day_number}
use Rattle.timestamp.specs.Clock.{hours_per_day, minutes_per_hour, seconds_per_minute, seconds_per_day}
use Rattle.timestamp.specs.Outcomes.{no_date_time, not_representable, unknown_unit, counting}
use Rattle.logical_type.specs.declared.types.TimeUnit.{TimeUnit}
use Rattle.timestamp.specs.Units.{ticks_per_second_of}

-- the day number of the day before the first of a month, in the year from 1 March of year 0 on
abbrev pub offset_of : ℕ → ℤ
offset_of month = sub_ℕ ((153 * ((month + 12 - 3) % 12) + 2) / 5) 719469

-- a month's days in a common year, 0 where there is no such month, and where there is its offset
pub record IsMonth (month : ℕ) (r : Month) : Type 0 where
  pub days_are : r.days ≡ get_or (0 ∷ months false) month 0
  pub offset_is : 1 ≤ month → month ≤ 12 → r.offset ≡ offset_of month

-- a year as far from year 0 as this has no count in any unit
abbrev pub years_reached : ℕ
years_reached = 300000000

-- a day that lies nearer to 1 January 1970 than so many has counts in every unit
abbrev pub days_reached : ℕ
days_reached = 106751

-- and so has a second of those days
abbrev pub seconds_reached : ℕ
seconds_reached = days_reached * seconds_per_day

-- an hour, a minute and a second in their ranges
abbrev pub is_clock : ℕ → ℕ → ℕ → Bool
is_clock hour minute second = ltb hour hours_per_day && ltb minute minutes_per_hour && ltb second seconds_per_minute

-- fields of a date and a time, whatever the fraction is
abbrev pub is_formed : Fields → Bool
is_formed f = is_date f.year f.month f.day && is_clock f.hour f.minute f.second

-- the seconds from the start of 1 January 1970 to theirs
abbrev pub second_of : Fields → ℤ
second_of f =
    day_number f.year f.month f.day *ℤ pos seconds_per_day +ℤ pos ((f.hour * minutes_per_hour + f.minute) * seconds_per_minute + f.second)

-- what the moment of fields tells: their second, or that no count reaches their year, or that they form no date or time
abbrev pub IsMoment : Fields → Moment → Type 0
IsMoment f (Moment.Second s) = (is_formed f ≡ true) × (s ≡ second_of f)
IsMoment f Moment.Far = (is_formed f ≡ true) × (years_reached ≤ mag f.year)
IsMoment f Moment.NoDateTime = is_formed f ≡ false

-- the second of near fields is theirs, and near; of others nothing is said
abbrev pub IsNear : Fields → code.Option ℤ → Type 0
IsNear f (code.Some s) = IsMoment f (Moment.Second s) × (mag s < seconds_reached)
IsNear f code.None = Unit {0}

-- what it answers of a moment and a fraction, in a unit with so many ticks in a second
abbrev pub encoding_at : ℕ → Moment → ℕ → Outcome ℤ
encoding_at perSecond (Moment.Second s) fraction = cond (ltb fraction perSecond) (counting (s *ℤ pos perSecond +ℤ pos fraction)) no_date_time
encoding_at perSecond Moment.Far fraction = cond (ltb fraction perSecond) not_representable no_date_time
encoding_at perSecond Moment.NoDateTime fraction = no_date_time

-- and in the unit that is named: 20 where none is
abbrev pub encoding_for : Option TimeUnit → Moment → ℕ → Outcome ℤ
encoding_for none moment fraction = unknown_unit
encoding_for (some unit) moment fraction = encoding_at (ticks_per_second_of unit) moment fraction

-- the unit that was found, if any, as definitions have it
abbrev pub unit_found : code.Option TimeUnit → Option TimeUnit
unit_found (code.Some unit) = some unit
unit_found code.None = none
