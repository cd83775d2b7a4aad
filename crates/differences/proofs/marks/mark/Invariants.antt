-- `differences::marks::mark` meets its contract: each node passed has what it matches marked.
use lib.ListN.{take}
use Rattle.differences.specs.Steps.{Marks}
use Rattle.differences.proofs.marks.mark.Given as goal

abbrev pub invariant-loop-matched : goal.invariant-loop-matched
invariant-loop-matched l = Marks (take l.matched-index (take l.nodes l.matches)) l.marks
