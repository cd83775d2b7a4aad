-- Points on timestamps, through the unit's number, which the definitions compute.
use Prim.Native.Nat.{ℕ, ◌-◌, ◌^◌}
use mathlib.Core.Path.{refl}
use lib.IntN.{ℤ, pos, negsuc}
use Rattle.timestamp.specs.Calendar.{is_leap, sum, days_of_month, days_before_month, days_of_year, days_before_year, day_of, epoch, day_number, is_date}
use Rattle.timestamp.specs.Clock.{is_time, tick_of_day}
use Rattle.timestamp.specs.Units.{unit_of}
use Rattle.timestamp.specs.Count.{is_date_time, count_of}
use Rattle.refusal.specs.Outcome.{given}
use Rattle.timestamp.specs.Outcomes.{Decodes, encoding_in}
use Rattle.timestamp.specs.declared.fields.Fields.{Fields}
use Rattle.demands.specs.Points.{fields, MILLIS, MICROS, NANOS, NoSuchDay}

-- what counting computes with, opened
count : ℕ → Fields → ℤ
unfolding is_date_time count_of is_date is_time tick_of_day day_number day_of epoch days_before_year days_before_month days_of_month days_of_year sum is_leap encoding_in
count = count_of

pub third_day : Decodes (unit_of MILLIS) (pos 172800000) (given (fields (pos 1970) 1 3 0 0 0 0))
unfolding count
third_day = (_, refl, record { formed = refl; counted = refl })

pub tick_before : Decodes (unit_of MILLIS) (negsuc 0) (given (fields (pos 1969) 12 31 23 59 59 999))
unfolding count
tick_before = (_, refl, record { formed = refl; counted = refl })

pub least_nanos : Decodes (unit_of NANOS) (negsuc (2 ^ 63 - 1)) (given (fields (pos 1677) 9 21 0 12 43 145224192))
unfolding count
least_nanos = (_, refl, record { formed = refl; counted = refl })

pub no_leap_millis : NoSuchDay MILLIS
unfolding count
no_leap_millis h m s f = refl

pub no_leap_micros : NoSuchDay MICROS
unfolding count
no_leap_micros h m s f = refl

pub no_leap_nanos : NoSuchDay NANOS
unfolding count
no_leap_nanos h m s f = refl
