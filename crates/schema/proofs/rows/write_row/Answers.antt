-- `schema::rows::write_row` meets its contract.
use Rattle.schema.proofs.RowNumberLaws.{eleven_stretched}
use Rattle.schema.specs.Steps.{row_numbers}
use lib.ListN.{length-set}
use native.Mathlib.Omega.{arith}
use Rattle.schema.proofs.rows.write_row.Goals as goal

pub bounds-rows-base-2 : goal.bounds-rows-base-2
bounds-rows-base-2 c = simp length-set (omega arith)

pub bounds-rows-base-3 : goal.bounds-rows-base-3
bounds-rows-base-3 c = simp length-set (omega arith)

pub bounds-rows-base-4 : goal.bounds-rows-base-4
bounds-rows-base-4 c = simp length-set (omega arith)

pub bounds-rows-base-5 : goal.bounds-rows-base-5
bounds-rows-base-5 c = simp length-set (omega arith)

pub bounds-rows-base-6 : goal.bounds-rows-base-6
bounds-rows-base-6 c = simp length-set (omega arith)

pub bounds-rows-base-7 : goal.bounds-rows-base-7
bounds-rows-base-7 c = simp length-set (omega arith)

pub bounds-rows-base-8 : goal.bounds-rows-base-8
bounds-rows-base-8 c = simp length-set (omega arith)

pub bounds-rows-base-9 : goal.bounds-rows-base-9
bounds-rows-base-9 c = simp length-set (omega arith)

pub bounds-rows-base-10 : goal.bounds-rows-base-10
bounds-rows-base-10 c = simp length-set (omega arith)

pub bounds-rows-base-11 : goal.bounds-rows-base-11
bounds-rows-base-11 c = simp length-set (omega arith)

pub shape_of-rows : goal.shape_of-rows
shape_of-rows c = simp length-set

pub returns : goal.returns
unfolding row_numbers
returns c = eleven_stretched _ _ _ _ _ _ _ _ _ _ _ _ _ c.requires
