-- `tree::judgement::verdict_of` meets its contract.
use borrow.Author.Tests.{ne_eqb}
use Rattle.tree.specs.Steps.{verdict_of}
use Rattle.tree.proofs.judgement.verdict_of.Goals as goal

pub returns-then-fault-eq-NO_FAULT : goal.returns-then-fault-eq-NO_FAULT
unfolding verdict_of
returns-then-fault-eq-NO_FAULT c = rw c.if-fault-eq-NO_FAULT.true

pub returns : goal.returns
unfolding verdict_of
returns c = rw (ne_eqb _ _ c.if-fault-eq-NO_FAULT.false)
