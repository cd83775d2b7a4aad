use Rattle.tree.proofs.CountingLaws.{Counted}
use Rattle.tree.proofs.places.places_filled.Given as goal

abbrev pub invariant-loop-node : goal.invariant-loop-node
invariant-loop-node l = Counted l.sheet l.open l.node
