-- `matching::fields::Taken::match_below` meets its contract: the nodes passed, and those that are left, are all.
use Rattle.matching.specs.Steps.{HeadsMost}
use Rattle.matching.proofs.NodesLaws.{Stepped}
use Rattle.matching.proofs.fields.Taken.match_below.Given as goal

abbrev pub invariant-loop-node : goal.invariant-loop-node
invariant-loop-node l = Stepped l.first.sheet.now l.second.sheet.now l.nodes l.initial.self.matches l.self.takers l.self.matches l.node × HeadsMost l.node l.self.heads
