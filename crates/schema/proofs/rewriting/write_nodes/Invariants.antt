-- `schema::rewriting::write_nodes` meets its contract: the nodes written so far, with what is written of the others, are all.
use Rattle.schema.proofs.RewritingSteps.{Written}
use Rattle.schema.proofs.rewriting.write_nodes.Given as goal

abbrev pub invariant-loop-node : goal.invariant-loop-node
invariant-loop-node l = Written l.sheet l.initial.out l.out l.node l.under_map
