-- `matching::prints::write_prints` meets its contract.
use mathlib.Core.Path.{ap, ◌∙◌}
use native.Mathlib.Omega.{arith}
use Rattle.matching.specs.Steps.{print_of}
use Rattle.matching.proofs.PrintLaws.{prints_none, prints_more, prints_all}
use Rattle.matching.proofs.prints.write_prints.Goals as goal

pub loop-node-init : goal.loop-node-init
loop-node-init c = (omega arith, prints_none _ _ c.requires.prints_len)

pub loop-node-preserved : goal.loop-node-preserved
loop-node-preserved c = (omega (arith, c.loop-node-test.true), prints_more _ _ _ _ (omega (arith, c.loop-node-test.true, c.requires.total_le_most_nodes)) c.loop-node.invariant.1 (c.print_of.ensures ∙ ap print_of c.name_of.ensures))

pub returns : goal.returns
returns c = prints_all _ _ _ _ c.loop-node.invariant.1 c.loop-node-test.false
