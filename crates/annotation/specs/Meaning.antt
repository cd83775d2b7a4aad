-- What the annotations of a slot say of its node.
use Rattle.std.specs.Prelude.{Bool, cond, eqb}
use Rattle.parquet.specs.Logical as logical
use Rattle.logical_type.specs.Parameters.{valid_parameters}
use Rattle.logical_type.specs.Spelling.{stated_of}
use Rattle.logical_type.specs.Backward.{backward_of}
use Rattle.logical_type.specs.declared.types.Annotation.{Annotation}
-- `Annotated` has the numbers of a slot that say its type: physical, converted, logical, a and b, which are naturals, and type_length, scale and precision, which are integers
use Rattle.annotation.specs.declared.slot.Annotated.{Annotated}

-- what the converted type says where no logical type stands: "a = b = 0, also when logical is absent" (01, rule 10)
abbrev pub converted_alone : Annotated → Bool → Annotation
converted_alone n under_map_of =
    cond (valid_parameters logical.NONE n.a n.b) (backward_of n.converted under_map_of) Annotation.Unreadable

-- the logical type where one stands, else what the converted type means; `under_map_of` says that the parent's resolved kind is MAP
unfoldable pub annotation_of : Annotated → Bool → Annotation
annotation_of n under_map_of =
    cond (eqb n.logical logical.NONE) (converted_alone n under_map_of) (stated_of n.logical n.a n.b)
