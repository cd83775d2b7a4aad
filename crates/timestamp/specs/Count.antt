-- The fields of a date and time, and their count, over the ticks in a second, `perSecond`.
use Rattle.std.specs.Prelude.{ℕ, Bool, true, ◌&&◌, ◌≡◌, ℤ, pos, ◌+ℤ◌, ◌*ℤ◌}
-- a type of the code: `year`, a signed 64-bit number, and `month`, `day`, `hour`, `minute`, `second` and `fraction`, unsigned 32-bit numbers
use Rattle.timestamp.specs.declared.fields.Fields.{Fields}
use Rattle.timestamp.specs.Calendar.{is_date, day_number}
use Rattle.timestamp.specs.Clock.{is_time, tick_of_day}
use Rattle.timestamp.specs.Units.{ticks_per_day_of}

-- the fields form a date and time
unfoldable pub is_date_time : ℕ → Fields → Bool
is_date_time perSecond f =
    is_date f.year f.month f.day && is_time perSecond f.hour f.minute f.second f.fraction

-- the count of the fields: the ticks from the start of 1 January 1970
unfoldable pub count_of : ℕ → Fields → ℤ
count_of perSecond f =
    day_number f.year f.month f.day *ℤ pos (ticks_per_day_of perSecond) +ℤ pos (tick_of_day perSecond f.hour f.minute f.second f.fraction)

-- the fields that a count stands for: they form a date and time, and it is their count
pub record FieldsOf (perSecond : ℕ) (count : ℤ) (f : Fields) : Type 0 where
  pub formed : is_date_time perSecond f ≡ true
  pub counted : count_of perSecond f ≡ count
