-- What the rewritten sheet says of a node (01, "Rows and the rewritten sheet").
use Rattle.std.specs.Prelude.{ℕ, Bool, Result, Ok, Err}
use Rattle.refusal.specs.Outcome.{Outcome, given, refused, refusal}
use Rattle.parquet.specs.Converted as converted
use Rattle.parquet.specs.Logical as logical
use Rattle.logical_type.specs.Parameters.{UNUSED}
use Rattle.logical_type.specs.Spelling.{code_of, a_of, b_of}
use Rattle.logical_type.specs.Forward.{forward_of}
use Rattle.annotation.specs.Meaning.{annotation_of}
use Rattle.logical_type.specs.declared.types.LogicalType.{LogicalType}
use Rattle.logical_type.specs.declared.types.Annotation.{Annotation}
use Rattle.annotation.specs.declared.slot.Annotated.{Annotated}
use Rattle.annotation.specs.Outcome.{number_of, resolution_of}
use Rattle.annotation.specs.declared.resolution.Kind.{Kind}
use Rattle.annotation.specs.declared.rules.Broken.{Broken}
-- `Written` has the annotation numbers of a rewritten slot: converted, logical, a and b
use Rattle.annotation.specs.declared.rewriting.Written.{Written}

-- a converted type alone, or none
abbrev pub converted_written : ℕ → Written
converted_written code = record { converted = code; logical = logical.NONE; a = UNUSED; b = UNUSED }

-- "every resolved logical annotation with its parameters and its forward image"
abbrev pub logical_written : LogicalType → Written
logical_written l =
    record { converted = forward_of l; logical = code_of l; a = a_of l; b = b_of l }

-- what is written for an annotation: "INTERVAL keeps converted alone"; what cannot be read is never written, since rule 10 refuses it
abbrev pub written_as : Annotation → Written
written_as Annotation.Plain = converted_written converted.NONE
written_as (Annotation.Logical l) = logical_written l
written_as Annotation.Interval = converted_written converted.INTERVAL
written_as Annotation.Unreadable = converted_written converted.NONE

-- what is written for the numbers of a slot; "a key_value layer has none", since MAP_KEY_VALUE counts as no annotation there
unfoldable pub written_of : Annotated → Bool → Written
written_of n under_map_of = written_as (annotation_of n under_map_of)

-- what rewriting answers: what is written, or the rule that is broken where the numbers do not resolve
abbrev pub rewriting_as : Result Kind Broken → Written → Result Written Broken
rewriting_as (Ok kind) w = Ok w
rewriting_as (Err broken) w = Err broken

-- what rewriting answers for the numbers of a slot
unfoldable pub rewriting_of : ℕ → Annotated → Bool → Result Written Broken
rewriting_of edition n under_map_of = rewriting_as (resolution_of edition n under_map_of) (written_of n under_map_of)

-- what each answer stands for at a node, which is the place of its refusal
abbrev pub outcome_of : ℕ → Result Written Broken → Outcome Written
outcome_of k (Ok w) = given w
outcome_of k (Err broken) = refused (refusal (number_of broken) k)

-- the outcome of rewriting the numbers of any slot at any node
unfoldable pub outcome : ℕ → ℕ → Annotated → Bool → Outcome Written
outcome edition k n under_map_of = outcome_of k (rewriting_of edition n under_map_of)

-- the numbers of a slot with others for its annotations: "All else .. is copied"
abbrev pub with_written : Annotated → Written → Annotated
with_written n w =
    record {
      physical = n.physical;
      type_length = n.type_length;
      converted = w.converted;
      logical = w.logical;
      a = w.a;
      b = w.b;
      scale = n.scale;
      precision = n.precision;
    }

-- the numbers of a slot as the rewritten sheet has them
unfoldable pub rewritten : Annotated → Bool → Annotated
rewritten n under_map_of = with_written n (written_of n under_map_of)
