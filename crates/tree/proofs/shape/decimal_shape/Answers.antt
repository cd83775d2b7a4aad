-- `tree::shape::decimal_shape` meets its contract.
use mathlib.Core.Path.{sym}
use mathlib.Core.Bool.{or-true, or-false, and-false}
use mir.Facts.{to_z-of_z}
use mir.Syntax.{w32}
use Rattle.tree.specs.Rules.{decimal_shape}
use Rattle.tree.proofs.shape.decimal_shape.Goals as goal
use Rattle.tree.proofs.shape.decimal_shape.Goals.{else-is_nought-via-then-is_nought+else-is_nought-2, else-is_nought-via-else-is_nought}

pub returns-then-is_nought-2 : goal.returns-then-is_nought-2
unfolding decimal_shape
returns-then-is_nought-2 c =
    let scale = rw (to_z-of_z {w = w32} c.ranges.scale) at c.is_nought.ensures in
    let precision = rw (to_z-of_z {w = w32} c.ranges.precision) at c.is_nought-then-is_nought.ensures in
    sym (rw (rw scale at c.if-is_nought.true, rw precision at c.if-is_nought-2.true, or-true))

pub returns : goal.returns
unfolding decimal_shape
returns c =
    let scale = rw (to_z-of_z {w = w32} c.ranges.scale) at c.is_nought.ensures in
    elim c.else-is_nought.branch [
      | else-is_nought-via-then-is_nought+else-is_nought-2 w ↦
          let precision = rw (to_z-of_z {w = w32} c.ranges.precision) at w.is_nought-then-is_nought.ensures in
          sym (rw (rw precision at w.if-is_nought-2.false, and-false, or-false))
      | else-is_nought-via-else-is_nought w ↦ sym (rw (rw scale at w.if-is_nought.false, or-false))
    ]
