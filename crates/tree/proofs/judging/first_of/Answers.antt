-- `tree::judging::first_of` meets its contract.
use mathlib.Core.Path.{sym}
use Rattle.tree.specs.Steps.{first_of}
use Rattle.tree.proofs.JudgingLaws.{first_of_some}
use Rattle.tree.proofs.judging.first_of.Goals as goal

pub returns-then-fault-eq-NO_FAULT : goal.returns-then-fault-eq-NO_FAULT
unfolding first_of
returns-then-fault-eq-NO_FAULT c = rw c.if-fault-eq-NO_FAULT.true

pub returns : goal.returns
returns c = sym (first_of_some _ _ c.if-fault-eq-NO_FAULT.false)
