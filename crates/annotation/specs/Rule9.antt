-- Rule 9: converted and logical agree.
use Rattle.std.specs.Prelude.{Bool, ◌||◌, eqb}
use Rattle.parquet.specs.Converted as converted
use Rattle.parquet.specs.Logical as logical
use Rattle.logical_type.specs.Spelling.{stated_of}
use Rattle.logical_type.specs.Forward.{image_of}
use Rattle.annotation.specs.declared.slot.Annotated.{Annotated}

-- "If both annotations stand, converted is the forward image of logical .. One annotation alone is accepted" (01, rule 9)
unfoldable pub rule9 : Annotated → Bool
rule9 n =
    eqb n.converted converted.NONE || eqb n.logical logical.NONE || eqb (image_of (stated_of n.logical n.a n.b)) n.converted
