-- `utf8::ascii::octets_after` meets its contract. The loop's invariant is what is promised of the octets passed.
use Rattle.utf8.specs.Steps.{Passes}
use Rattle.utf8.proofs.ascii.octets_after.Given as goal

abbrev pub invariant-loop-at : goal.invariant-loop-at
invariant-loop-at l = Passes l.text l.from l.at
