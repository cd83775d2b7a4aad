-- `boxes::points::is_beyond` meets its contract.
use Rattle.boxes.proofs.CoordinateLaws.{is_above_lt}
use Rattle.boxes.proofs.points.is_beyond.Goals as goal

pub returns : goal.returns
returns c = simp is_above_lt
