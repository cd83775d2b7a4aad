-- `boxes::membership::inside_x` meets its contract.
use Rattle.boxes.specs.Membership.{inside_x}
use Rattle.boxes.proofs.CoordinateLaws.{at_most_le, is_above_lt}
use Rattle.boxes.proofs.membership.inside_x.Goals as goal

pub returns-then-b : goal.returns-then-b
unfolding inside_x
returns-then-b c = simp (is_above_lt, c.if-b.true, at_most_le)

pub returns : goal.returns
unfolding inside_x
returns c = simp (is_above_lt, c.if-b.false, c.is_between.ensures)
