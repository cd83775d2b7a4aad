-- `timestamp::clock::time_of` meets its contract: quotients and rests tell the time.
use Prim.Native.Nat.{◌/◌, ◌%◌}
use native.Mathlib.Nat.{mod-lt}
use native.Mathlib.Omega.{arith}
use Rattle.timestamp.proofs.ClockLaws.{parts_time, seconds_below, tick_time, tick_back}
use Rattle.timestamp.proofs.clock.time_of.Goals as goal

pub overflow_cast-seconds : goal.overflow_cast-seconds
overflow_cast-seconds c = omega (arith, seconds_below c.args.ticks_per_second c.args.tick c.requires.0 c.requires.2)

pub overflow_cast-result : goal.overflow_cast-result
overflow_cast-result c = omega (arith, mod-lt c.args.tick c.requires.0, c.requires.1)

pub returns : goal.returns
returns c =
    let t = c.args.ticks_per_second in
    let tick = c.args.tick in
    (parts_time t (tick / t / 60 / 60) (tick / t / 60 % 60) (tick / t % 60) (tick % t) (tick_time t tick c.requires.0 c.requires.2), tick_back t tick)
