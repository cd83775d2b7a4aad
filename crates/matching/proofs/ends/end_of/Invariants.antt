-- `matching::ends::end_of` meets its contract: a node's tree ends where the last of its fields does.
use Prim.Native.Nat.{◌-◌}
use Rattle.matching.proofs.EndLaws.{Ended}
use Rattle.matching.proofs.ends.end_of.Given as goal

abbrev pub invariant-loop-passed : goal.invariant-loop-passed
invariant-loop-passed l = Ended l.sheet l.node l.initial.at l._passed-end l.at (l._passed-end - l._passed)
