-- `annotation::slot::natural` meets its contract: the parameter's bits have its number.
-- Assumes nothing.
use mathlib.Core.Path.{◌∙◌}
use mir.Facts.{to_z-of_z}
use mir.Syntax.{w32}
use Rattle.annotation.proofs.SignedLaws.{unwrapped_natural}
use Rattle.annotation.proofs.slot.natural.Goals as goal

pub returns : goal.returns
returns c =
    let passed = rw (to_z-of_z {w = w32} c.ranges.x) at c.try_from.ensures in
    c.unwrap_or.ensures ∙ unwrapped_natural c.args.x _ c.ranges.x passed
