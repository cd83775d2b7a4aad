-- `tree::shape::length_shape` meets its contract.
use borrow.Author.Tests.{eq-eqb, ne_eqb}
use mir.Facts.{to_z-of_z}
use mir.Syntax.{w32}
use Rattle.tree.specs.Rules.{length_shape}
use Rattle.tree.proofs.shape.length_shape.Goals as goal

pub returns-then-physical-eq-FIXED_LEN_BYTE_ARRAY : goal.returns-then-physical-eq-FIXED_LEN_BYTE_ARRAY
unfolding length_shape
returns-then-physical-eq-FIXED_LEN_BYTE_ARRAY c = rw (to_z-of_z {w = w32} c.ranges.type_length, eq-eqb _ _ c.if-physical-eq-FIXED_LEN_BYTE_ARRAY.true)

pub returns-else-physical-eq-FIXED_LEN_BYTE_ARRAY : goal.returns-else-physical-eq-FIXED_LEN_BYTE_ARRAY
unfolding length_shape
returns-else-physical-eq-FIXED_LEN_BYTE_ARRAY c = rw (ne_eqb _ _ c.if-physical-eq-FIXED_LEN_BYTE_ARRAY.false) (rw (to_z-of_z {w = w32} c.ranges.type_length) at c.is_nought.ensures)
