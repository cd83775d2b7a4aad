-- `schema::rewriting::write_nodes` meets its contract: the nodes written so far, with what is written of the others, are all.
use native.Mathlib.Omega.{arith}
use Rattle.schema.proofs.RewritingSteps.{written_start, written_next, written_end}
use Rattle.schema.proofs.rewriting.write_nodes.Goals as goal

pub loop-node-init : goal.loop-node-init
loop-node-init c = written_start _ _

pub loop-node-preserved : goal.loop-node-preserved
loop-node-preserved c = written_next _ _ _ _ _ c.loop-node.invariant (omega (arith, c.requires)) _ _ c.write_node-under_map.ensures.out_after c.write_node-under_map.ensures.value c.write_node-under_map.auto.out

pub shape_of-out : goal.shape_of-out
shape_of-out c = c.loop-node.invariant.long

pub returns : goal.returns
returns c = written_end _ _ _ _ _ c.loop-node.invariant (omega (arith, c.requires))
