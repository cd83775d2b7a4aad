-- `differences::fields::put_fields` meets its contract: the fields passed, and those that are left, are all.
use Rattle.differences.proofs.FieldStepLaws.{FieldsPut}
use Rattle.differences.proofs.fields.put_fields.Given as goal

abbrev pub invariant-loop-field : goal.invariant-loop-field
invariant-loop-field l = FieldsPut l.node l.ours l.theirs l.initial.out l.entries l.out l.count l.field-index
