-- The time of a day, over the ticks in a second, `perSecond`.
use Rattle.std.specs.Prelude.{ℕ, ◌+◌, ◌*◌, Bool, ◌&&◌, ltb}

-- hour 0 to 23
abbrev pub hours_per_day : ℕ
hours_per_day = 24

-- minute 0 to 59
abbrev pub minutes_per_hour : ℕ
minutes_per_hour = 60

-- second 0 to 59
abbrev pub seconds_per_minute : ℕ
seconds_per_minute = 60

-- 86,400 seconds a day
abbrev pub seconds_per_day : ℕ
seconds_per_day = hours_per_day * minutes_per_hour * seconds_per_minute

-- an hour, a minute and a second in their ranges, and the fraction, in ticks, below one second
unfoldable pub is_time : ℕ → ℕ → ℕ → ℕ → ℕ → Bool
is_time perSecond hour minute second fraction =
    ltb hour hours_per_day && ltb minute minutes_per_hour && ltb second seconds_per_minute && ltb fraction perSecond

-- the ticks of the day that have passed
unfoldable pub tick_of_day : ℕ → ℕ → ℕ → ℕ → ℕ → ℕ
tick_of_day perSecond hour minute second fraction =
    ((hour * minutes_per_hour + minute) * seconds_per_minute + second) * perSecond + fraction
