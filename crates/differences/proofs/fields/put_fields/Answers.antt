-- `differences::fields::put_fields` meets its contract: the fields passed, and those that are left, are all.
use native.Mathlib.Omega.{arith}
use Rattle.differences.specs.Entry.{slot_fields}
use Rattle.differences.proofs.SameLaws.{equal_same}
use Rattle.differences.proofs.TableLaws.{field_is, field_within}
use Rattle.differences.proofs.PutLaws.{puts_none, puts_as}
use Rattle.differences.proofs.FieldStepLaws.{fields_same, fields_put_start, fields_put_next, fields_put_end}
use Rattle.differences.proofs.fields.put_fields.Goals as goal

pub returns-then-eq : goal.returns-then-eq
returns-then-eq c = puts_as (fields_same _ _ _ (equal_same _ _ c.eq.ensures c.if-eq.true) slot_fields) (puts_none _ _)

pub loop-field-init : goal.loop-field-init
loop-field-init c = fields_put_start _ _ _ _ _

pub put_field-count-requires : goal.put_field-count-requires
put_field-count-requires c = record { width_bound = field_within _ c.loop-field-test.true; node_lt_most_nodes = c.requires.node_lt_most_nodes; whole = c.requires.whole; whole_2 = c.requires.whole_2; entries_bound = omega (arith, c.loop-field.invariant.few, c.loop-field.invariant.most, c.requires.entries_bound) }

pub loop-field-preserved : goal.loop-field-preserved
loop-field-preserved c = fields_put_next _ _ _ _ _ _ _ _ c.loop-field.invariant c.loop-field-test.true _ (field_is _ c.loop-field-test.true) _ _ c.put_field-count.auto.out c.put_field-count.ensures

pub shape_of-out : goal.shape_of-out
shape_of-out c = c.loop-field.invariant.long

pub returns : goal.returns
returns c = fields_put_end _ _ _ _ _ _ _ _ c.loop-field.invariant c.loop-field-test.false
