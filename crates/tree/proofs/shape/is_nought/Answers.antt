-- `tree::shape::is_nought` meets its contract.
use Rattle.tree.proofs.ShapeLaws.{is_nought_bits}
use Rattle.tree.proofs.shape.is_nought.Goals as goal

pub returns : goal.returns
returns c = is_nought_bits c.args.x c.ranges.x
