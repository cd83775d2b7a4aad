-- `decimal_bytes::number::significant` meets its contract. The loop's invariant: the bytes that are needed are those that are needed
-- from the byte before `next` on. Assumes nothing.
use mathlib.Core.Path.{◌≡◌}
use Prim.Native.Nat.{◌-◌}
use lib.ListN.{drop}
use Rattle.decimal_bytes.specs.Significant.{significant}
use Rattle.decimal_bytes.proofs.number.significant.Given as goal

abbrev pub invariant-loop-next : goal.invariant-loop-next
invariant-loop-next l = significant (drop (l.next - 1) l.number) ≡ significant l.number
