-- `utf8::valid_up_to` meets its contract. The loop's invariant: reading passes what stands before `at`. The measure is what is left of the
-- length.
use Prim.Native.Nat.{◌-◌}
use lib.ListN.{length}
use Rattle.utf8.specs.Steps.{Passes}
use Rattle.utf8.proofs.valid_up_to.Given as goal

abbrev pub invariant-loop-at : goal.invariant-loop-at
invariant-loop-at l = Passes l.text 0 l.at

abbrev pub decreases-loop-at : goal.decreases-loop-at
decreases-loop-at l = length l.text - l.at
