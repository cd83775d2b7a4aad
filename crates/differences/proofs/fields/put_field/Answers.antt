-- `differences::fields::put_field` meets its contract.
use native.Mathlib.Omega.{arith}
use Rattle.differences.proofs.SameLaws.{equal_same}
use Rattle.differences.proofs.PutLaws.{puts_none, puts_as}
use Rattle.differences.proofs.FieldStepLaws.{field_alike, field_unlike}
use Rattle.differences.proofs.fields.put_field.Goals as goal

pub overflow_add-end : goal.overflow_add-end
overflow_add-end c = omega (arith, c.requires.width_bound)

pub slice_bounds-our-end : goal.slice_bounds-our-end
slice_bounds-our-end c = omega (arith, c.requires.width_bound, c.requires.whole)

pub slice_bounds-their-end : goal.slice_bounds-their-end
slice_bounds-their-end c = omega (arith, c.requires.width_bound, c.requires.whole_2)

pub returns-then-eq : goal.returns-then-eq
returns-then-eq c = puts_as (field_alike c.args.field c.args.node _ _ (equal_same _ _ c.eq.ensures c.if-eq.true)) (puts_none _ _)

pub returns : goal.returns
returns c = puts_as (field_unlike c.args.field c.args.node _ _ (equal_same _ _ c.eq.ensures c.if-eq.false)) c.put_entry.ensures
