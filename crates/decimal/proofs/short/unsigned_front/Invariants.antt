-- `decimal::short::unsigned_front` meets its contract. The invariant: `n` is the number of the bytes so far. Assumes nothing.
use mathlib.Core.Path.{◌≡◌}
use Prim.Native.Nat.{◌^◌, ◌<◌}
use lib.ListN.{take}
use Rattle.decimal_bytes.specs.Number.{unsigned}
use Rattle.decimal.proofs.short.unsigned_front.Given as goal

abbrev pub invariant-loop-byte : goal.invariant-loop-byte
invariant-loop-byte l = (l.n ≡ unsigned (take l.byte-index l.bytes)) × (l.n < 256 ^ l.byte-index)
