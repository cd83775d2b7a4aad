-- `annotation::slot::annotation_of` meets its contract: one annotation alone agrees, and beside another stands its image.
-- Assumes nothing.
use mathlib.Core.Bool.{or-true, or-false}
use borrow.Author.Tests.{ne_eqb}
use Rattle.annotation.specs.Meaning.{annotation_of}
use Rattle.annotation.specs.Rule9.{rule9}
use Rattle.annotation.specs.Steps.{reading_of}
use Rattle.annotation.proofs.PackedLaws.{packed_bound, stated_image}
use Rattle.annotation.proofs.slot.annotation_of.Goals as goal

pub returns-then-logical-eq-NONE : goal.returns-then-logical-eq-NONE
unfolding reading_of rule9 annotation_of
returns-then-logical-eq-NONE c = rw (c.if-logical-eq-NONE.true, or-true, c.converted_alone.ensures, c.paired-pair.ensures.result_value, c.paired-pair.ensures.result_value_2)

pub agreed-requires : goal.agreed-requires
agreed-requires c = rw c.stated_of.ensures (packed_bound _)

pub returns : goal.returns
unfolding reading_of rule9 annotation_of
returns c = rw (ne_eqb _ _ c.if-logical-eq-NONE.false, c.agreed.ensures, c.stated_of.ensures, c.paired-pair.ensures.result_value, c.paired-pair.ensures.result_value_2, stated_image, or-false)
