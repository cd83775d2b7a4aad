-- Which unit a number names, and what is answered in it.
use Prim.Native.Nat.{◌≤◌}
use native.Mathlib.Omega.{arith}
use Rattle.logical_type.specs.declared.types.TimeUnit.{TimeUnit}
use Rattle.timestamp.specs.Units.{ticks_per_second_of}

-- each unit has a thousand ticks in a second or more
pub ticks_least : (unit : TimeUnit) → 1000 ≤ ticks_per_second_of unit
ticks_least TimeUnit.Millis = omega arith
ticks_least TimeUnit.Micros = omega arith
ticks_least TimeUnit.Nanos = omega arith

-- and a thousand million at most
pub ticks_most : (unit : TimeUnit) → ticks_per_second_of unit ≤ 1000000000
ticks_most TimeUnit.Millis = omega arith
ticks_most TimeUnit.Micros = omega arith
ticks_most TimeUnit.Nanos = omega arith
