-- `differences::nodes::put_first` meets its contract: the nodes passed, and those that are left, are all.
use Rattle.differences.proofs.NodeStepLaws.{NodesPut}
use Rattle.differences.proofs.nodes.put_first.Given as goal

abbrev pub invariant-loop-node : goal.invariant-loop-node
invariant-loop-node l = NodesPut l.first l.second l.matching.matches l.initial.out l.out l.entries l.node
