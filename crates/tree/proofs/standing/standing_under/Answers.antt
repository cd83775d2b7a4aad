-- `tree::place::standing_under` meets its contract.
use borrow.Author.Tests.{eq-eqb, ne_eqb}
use Rattle.tree.proofs.standing.standing_under.Goals as goal

pub returns-then-logical-eq-MAP : goal.returns-then-logical-eq-MAP
returns-then-logical-eq-MAP c = rw (eq-eqb _ _ c.if-logical-eq-MAP.true)

pub returns-else-logical-eq-MAP : goal.returns-else-logical-eq-MAP
returns-else-logical-eq-MAP c = rw (ne_eqb _ _ c.if-logical-eq-MAP.false)
