-- `annotation::slot::Annotated::annotation` meets its contract: what the annotations say goes by four of the numbers.
use mathlib.Core.Path.{◌≡◌, refl, ◌∙◌}
use mathlib.Core.Bool.{Bool}
use Rattle.annotation.specs.Meaning.{annotation_of}
use Rattle.annotation.specs.Rule9.{rule9}
use Rattle.annotation.specs.Steps.{annotated_by, reading_of}
use Rattle.annotation.specs.declared.slot.Annotated.{Annotated}
use Rattle.annotation.proofs.slot.Annotated.annotation.Goals as goal

reading_alike : (n : Annotated) (under_map_of : Bool) → reading_of (annotated_by n.converted n.logical n.a n.b) under_map_of ≡ reading_of n under_map_of
unfolding reading_of rule9 annotation_of
reading_alike n under_map_of = refl

pub returns : goal.returns
returns c = c.annotation_of.ensures ∙ reading_alike c.args.self c.args.under_map
