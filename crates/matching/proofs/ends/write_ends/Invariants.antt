-- `matching::ends::write_ends` meets its contract: the last node's end is found first.
use Prim.Native.Nat.{◌≤◌}
use Rattle.matching.specs.Steps.{EndsFrom}
use Rattle.matching.proofs.ends.write_ends.Given as goal

abbrev pub invariant-loop-node : goal.invariant-loop-node
invariant-loop-node l = (l.node ≤ l.total) × EndsFrom l.sheet l.node l.ends
