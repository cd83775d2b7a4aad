-- `boxes::membership::is_between` meets its contract.
use Rattle.boxes.specs.Coordinates.{is_between}
use Rattle.boxes.proofs.CoordinateLaws.{at_most_le}
use Rattle.boxes.proofs.membership.is_between.Goals as goal

pub returns : goal.returns
unfolding is_between
returns c = simp at_most_le
