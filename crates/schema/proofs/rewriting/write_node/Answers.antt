-- `schema::rewriting::write_node` meets its contract.
use mathlib.Core.Path.{ap, ◌∙◌}
use lib.Dec.{eqb}
use Rattle.parquet.specs.Logical as logical
use Rattle.sheet.specs.Slot.{with_annotation}
use Rattle.annotation.specs.Rewriting.{written_of}
use Rattle.annotation.specs.declared.slot.Annotated.{Annotated}
use Rattle.annotation.specs.declared.rewriting.Written.{Written}
use Rattle.tree.specs.Annotated.{annotated_by, annotated}
use Rattle.schema.specs.Steps.{is_written_map}
use Rattle.schema.proofs.rewriting.write_node.Goals as goal

pub returns : goal.returns
unfolding is_written_map annotated
returns c = let w = c.written_of-w.ensures ∙ ap (λ (n : Annotated). written_of n c.args.under_map) (c.annotated.ensures ∙ ap annotated_by c.slot_at-s.ensures) in record { value = ap (λ (v : Written). eqb v.logical logical.MAP) w; out_after = c.write_annotation.ensures ∙ ap (λ (v : Written). with_annotation c.args.out.now c.args.node v.converted v.logical v.a v.b) w }
