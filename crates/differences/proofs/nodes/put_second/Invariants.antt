-- `differences::nodes::put_second` meets its contract: the nodes passed, and those that are left, are all.
use Rattle.differences.proofs.NodeStepLaws.{OthersPut}
use Rattle.differences.proofs.nodes.put_second.Given as goal

abbrev pub invariant-loop-node : goal.invariant-loop-node
invariant-loop-node l = OthersPut l.second l.marks l.initial.out l.entries l.out l.count l.node
