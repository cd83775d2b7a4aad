-- `differences::nodes::put_first` meets its contract: the nodes passed, and those that are left, are all.
use native.Mathlib.Omega.{arith}
use Rattle.differences.proofs.NodeStepLaws.{nodes_put_start, nodes_put_next, nodes_put_end}
use Rattle.differences.proofs.nodes.put_first.Goals as goal

pub loop-node-init : goal.loop-node-init
loop-node-init c = nodes_put_start _ _ _ _

pub offset_bounds-matching-node : goal.offset_bounds-matching-node
offset_bounds-matching-node c = record { fits = omega (arith, c.loop-node-test.true, c.requires.one.most) }

pub bounds-matching-node : goal.bounds-matching-node
bounds-matching-node c = omega (arith, c.loop-node-test.true, c.requires.one.most, c.requires.long)

pub put_node-entries-requires : goal.put_node-entries-requires
put_node-entries-requires c = record { node_lt_most_nodes = omega (arith, c.loop-node-test.true, c.requires.one.most); node_value = c.requires.one.reached _ c.loop-node-test.true; names = c.requires.names _; entries_bound = omega (arith, c.loop-node.invariant.few, c.loop-node-test.true, c.requires.one.most) }

pub loop-node-preserved : goal.loop-node-preserved
loop-node-preserved c = nodes_put_next _ _ _ _ _ _ _ c.loop-node.invariant (omega (arith, c.loop-node-test.true, c.requires.one.total)) _ _ c.put_node-entries.auto.out c.put_node-entries.ensures.upper_bound c.put_node-entries.ensures.puts

pub shape_of-out : goal.shape_of-out
shape_of-out c = c.loop-node.invariant.long

pub returns : goal.returns
returns c = record { puts = nodes_put_end _ _ _ _ _ _ _ c.loop-node.invariant (omega (arith, c.loop-node-test.false, c.requires.one.total)); upper_bound = omega (arith, c.loop-node.invariant.few, c.loop-node.invariant.most, c.requires.one.total, c.requires.one.most) }
