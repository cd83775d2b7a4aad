-- `differences::nodes::put_second` meets its contract: the nodes passed, and those that are left, are all.
use native.Mathlib.Omega.{arith}
use Rattle.differences.proofs.NodeStepLaws.{others_put_start, others_put_next, others_put_end}
use Rattle.differences.proofs.nodes.put_second.Goals as goal

pub loop-node-init : goal.loop-node-init
loop-node-init c = others_put_start _ _ _ _

pub bounds-marks-node : goal.bounds-marks-node
bounds-marks-node c = omega (arith, c.loop-node-test.true, c.requires.reached.most, c.requires.marks_len)

pub put_other-count-requires : goal.put_other-count-requires
put_other-count-requires c = record { node_lt_most_nodes = omega (arith, c.loop-node-test.true, c.requires.reached.most); node_value = c.requires.reached.reached _ c.loop-node-test.true; entries_bound = omega (arith, c.loop-node.invariant.few, c.loop-node-test.true, c.requires.reached.most, c.requires.entries_bound) }

pub loop-node-preserved : goal.loop-node-preserved
loop-node-preserved c = others_put_next _ _ _ _ _ _ _ c.loop-node.invariant (omega (arith, c.loop-node-test.true, c.requires.reached.total)) _ _ c.put_other-count.auto.out c.put_other-count.ensures.puts

pub shape_of-out : goal.shape_of-out
shape_of-out c = c.loop-node.invariant.long

pub returns : goal.returns
returns c = others_put_end _ _ _ _ _ _ _ c.loop-node.invariant (omega (arith, c.loop-node-test.false, c.requires.reached.total))
