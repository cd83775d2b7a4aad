-- `decimal_bytes::order::compare_alike` meets its contract. The loop's invariant: the two numbers, with their sign in front up to one
-- width, agree before `at`. Assumes nothing.
use mathlib.Core.Path.{◌≡◌}
use mathlib.Core.List.{◌++◌}
use lib.ListN.{take, replicate}
use Rattle.decimal_bytes.proofs.order.compare_alike.Given as goal

abbrev pub invariant-loop-at : goal.invariant-loop-at
invariant-loop-at l = take l.at (replicate l.before_a l.sign ++ l.a) ≡ take l.at (replicate l.before_b l.sign ++ l.b)
