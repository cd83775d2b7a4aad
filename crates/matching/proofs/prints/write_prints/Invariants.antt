-- `matching::prints::write_prints` meets its contract.
use Prim.Native.Nat.{◌≤◌}
use Rattle.matching.specs.Steps.{Prints}
use Rattle.matching.proofs.prints.write_prints.Given as goal

abbrev pub invariant-loop-node : goal.invariant-loop-node
invariant-loop-node l = (l.node ≤ l.total) × Prints l.sheet l.node l.prints
