-- `decimal_bytes::power::scale_by_power` meets its contract. The loop's invariant: the bytes are scaled by ten to sixteen times the steps
-- that are made. Assumes nothing.
use mathlib.Core.Path.{◌≡◌}
use Prim.Native.Nat.{◌*◌, ◌^◌, ◌%◌}
use lib.ListN.{length}
use Rattle.decimal_bytes.specs.Number.{unsigned}
use Rattle.decimal_bytes.proofs.power.scale_by_power.Given as goal

abbrev pub invariant-loop-step : goal.invariant-loop-step
invariant-loop-step l =
    (length l.bytes ≡ length l.initial.bytes)
    × (unsigned l.bytes ≡ unsigned l.initial.bytes * 10 ^ (16 * l._step) % 256 ^ length l.initial.bytes)
