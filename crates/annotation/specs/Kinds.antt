-- The resolved kind of a node, as its row has it (01, "Rows and the rewritten sheet").
use Rattle.std.specs.Prelude.{ℕ, Bool, cond, eqb}
use Rattle.parquet.specs.Physical as physical
use Rattle.parquet.specs.Converted as converted
use Rattle.parquet.specs.Logical as logical
use Rattle.logical_type.specs.Spelling.{code_of, a_of, b_of}
use Rattle.annotation.specs.Signed.{natural}
use Rattle.annotation.specs.Meaning.{annotation_of}
use Rattle.annotation.specs.Rule11.{is_decimal}
use Rattle.logical_type.specs.declared.types.LogicalType.{LogicalType}
use Rattle.logical_type.specs.declared.types.Annotation.{Annotation}
use Rattle.annotation.specs.declared.slot.Annotated.{Annotated}
-- `Kind` has the numbers kind, p1 and p2
use Rattle.annotation.specs.declared.resolution.Kind.{Kind}

-- "Kind: 0 plain leaf"
abbrev pub PLAIN_LEAF : ℕ
PLAIN_LEAF = 0

-- "30 plain group"
abbrev pub PLAIN_GROUP : ℕ
PLAIN_GROUP = 30

-- a kind without parameters: "else 0"
abbrev pub bare_kind : ℕ → Kind
bare_kind code = record { kind = code; p1 = 0; p2 = 0 }

-- a node without annotation
abbrev pub plain_kind : ℕ → Kind
plain_kind code = cond (eqb code physical.GROUP) (bare_kind PLAIN_GROUP) (bare_kind PLAIN_LEAF)

-- "p1, p2: precision and scale"
abbrev pub decimal_kind : Annotated → Kind
decimal_kind n = record { kind = logical.DECIMAL; p1 = natural n.precision; p2 = natural n.scale }

-- "or a and b"
abbrev pub logical_kind : LogicalType → Kind
logical_kind l = record { kind = code_of l; p1 = a_of l; p2 = b_of l }

-- "Kind: 0 plain leaf, logical code, 21 INTERVAL, 30 plain group"; what cannot be read counts as no annotation, and rule 10 refuses it
abbrev pub kind_as : Annotation → Annotated → Kind
kind_as Annotation.Plain n = plain_kind n.physical
kind_as (Annotation.Logical l) n = cond (is_decimal (Annotation.Logical l)) (decimal_kind n) (logical_kind l)
kind_as Annotation.Interval n = bare_kind converted.INTERVAL
kind_as Annotation.Unreadable n = plain_kind n.physical

-- the kind that the numbers of a slot say, whatever else is wrong with them
unfoldable pub kind_of : Annotated → Bool → Kind
kind_of n under_map_of = kind_as (annotation_of n under_map_of) n
