-- `utf8::letters_after` meets its contract. The loop's invariant is what is promised of the octets passed; the measure is what is left of
-- the length.
use Prim.Native.Nat.{◌-◌}
use lib.ListN.{length}
use Rattle.utf8.specs.Steps.{Passes}
use Rattle.utf8.proofs.letters_after.Given as goal

abbrev pub invariant-loop-at : goal.invariant-loop-at
invariant-loop-at l = Passes l.text l.from l.at

abbrev pub decreases-loop-at : goal.decreases-loop-at
decreases-loop-at l = length l.text - l.at
