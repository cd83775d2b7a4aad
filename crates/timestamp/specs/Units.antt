-- The three time units, `TimeUnit`: which a number names, and the ticks of each in a second and in a day.
use Rattle.std.specs.Prelude.{ℕ, ◌*◌, cond, eqb}
use Rattle.std.proofs.Math.Option.{Option, none, some}
use Rattle.logical_type.specs.Parameters.{unit_code}
use Rattle.logical_type.specs.declared.types.TimeUnit.{TimeUnit}
use Rattle.timestamp.specs.Clock.{seconds_per_day}

-- each unit knows its ticks in a second
abbrev pub ticks_per_second_of : TimeUnit → ℕ
ticks_per_second_of TimeUnit.Millis = 1000
ticks_per_second_of TimeUnit.Micros = 1000000
ticks_per_second_of TimeUnit.Nanos = 1000000000

-- and in a day: those of a unit with so many in a second
abbrev pub ticks_per_day_of : ℕ → ℕ
ticks_per_day_of perSecond = perSecond * seconds_per_day

-- the unit that a number names: MILLIS 1, MICROS 2, NANOS 3
abbrev pub unit_of : ℕ → Option TimeUnit
unit_of number =
    cond (eqb number (unit_code TimeUnit.Millis)) (some TimeUnit.Millis)
    (cond (eqb number (unit_code TimeUnit.Micros)) (some TimeUnit.Micros)
    (cond (eqb number (unit_code TimeUnit.Nanos)) (some TimeUnit.Nanos) none))
