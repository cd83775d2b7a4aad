-- Which column types are lawful in an edition: those whose slot keeps its rules 8 to 11. `Leaf` has the sentence of refusal 20; that the two agree is proved (`LawfulLaws`).
use Rattle.std.specs.Prelude.{ℕ, ◌^◌, Bool, false, cond, not, ◌&&◌, eqb, ltb, pos}
use Rattle.edition.specs.Editions.{is_known}
use Rattle.refusal.specs.Numbers.{UNKNOWN_TYPE}
use Rattle.refusal.specs.Outcome.{unplaced, unknown_edition, no_refusal}
use Rattle.refusal.specs.declared.answers.Refusal.{Refusal}
use Rattle.refusal.specs.Outcome.{Verdict}
use Rattle.std.specs.Prelude.{Err}
use Rattle.parquet.specs.Converted as converted
use Rattle.parquet.specs.Logical as logical
use Rattle.logical_type.specs.Parameters.{UNUSED}
use Rattle.annotation.specs.Rule9.{rule9}
use Rattle.annotation.specs.Rule10.{rule10}
use Rattle.annotation.specs.Rule11.{rule11}
use Rattle.annotation.specs.declared.slot.Annotated.{Annotated}
use Rattle.sheet.specs.Sound.{physical_listed}
use Rattle.tree.specs.Rules.{is_group, length_shape}
use Rattle.column_type.specs.declared.types.ColumnType.{ColumnType}

-- a slot with the physical and the type length of a column type: its converted, logical, a, b, precision and scale
abbrev pub slot_with : ColumnType → ℕ → ℕ → ℕ → ℕ → ℕ → ℕ → Annotated
slot_with c conv log a b precision scale =
    record {
      physical = c.physical;
      type_length = pos c.type_length;
      converted = conv;
      logical = log;
      a = a;
      b = b;
      scale = pos scale;
      precision = pos precision;
    }

-- the slot that a leaf of a column type has. "Kind: 0 plain leaf, logical code, 21 INTERVAL": INTERVAL "exists only as converted"; any other kind is what stands as the logical type, and 0 is none there
-- too. "p1, p2: precision and scale, or a and b, else 0": precision and scale of a DECIMAL, a and b elsewhere, where rule 10 has them 0 unless the type takes them
unfoldable pub slot_of : ColumnType → Annotated
slot_of c =
    cond (eqb c.kind logical.DECIMAL) (slot_with c converted.NONE logical.DECIMAL UNUSED UNUSED c.p1 c.p2)
    (cond (eqb c.kind converted.INTERVAL) (slot_with c converted.INTERVAL logical.NONE c.p1 c.p2 0 0)
    (slot_with c converted.NONE c.kind c.p1 c.p2 0 0))

-- the numbers from 0 on that a byte of a slot holds are so many, and those that "type length .., scale .., precision, each signed" hold in four bytes
abbrev pub byte_numbers : ℕ
byte_numbers = 2 ^ 8

abbrev pub signed_numbers : ℕ
signed_numbers = 2 ^ 31

-- and those that p1 and p2 can be
abbrev pub parameter_numbers : ℕ → ℕ
parameter_numbers kind = cond (eqb kind logical.DECIMAL) signed_numbers byte_numbers

-- each number of a column type fits its field of that slot
unfoldable pub fits : ColumnType → Bool
fits c =
    ltb c.physical byte_numbers
    && ltb c.type_length signed_numbers
    && ltb c.kind byte_numbers
    && ltb c.p1 (parameter_numbers c.kind)
    && ltb c.p2 (parameter_numbers c.kind)

-- a leaf's physical code: one of the listed that is not a group's
unfoldable pub is_leaf : ℕ → Bool
is_leaf code = physical_listed code && not (is_group code)

-- a slot whose parent is no MAP keeps rules 9, 10 and 11
abbrev pub annotation_right : ℕ → Annotated → Bool
annotation_right edition n = rule9 n && rule10 edition n false && rule11 edition n false

-- the slot of a column type can stand in a sheet, is a leaf's, has the type length that rule 8 asks for, and keeps rules 9, 10 and 11
unfoldable pub slot_keeps : ℕ → ColumnType → Bool
slot_keeps edition c = fits c && is_leaf c.physical && length_shape c.physical (pos c.type_length) && annotation_right edition (slot_of c)

-- a column type is lawful: its slot keeps the rules of a known edition
unfoldable pub is_lawful : ℕ → ColumnType → Bool
is_lawful edition c = is_known edition && slot_keeps edition c

-- what refuses one that is not: 21 "before all others", else "20: no accepted sheet has a leaf of this column type"
unfoldable pub type_refusal : ℕ → Refusal
type_refusal edition = cond (is_known edition) (unplaced UNKNOWN_TYPE) unknown_edition

-- what judging a column type answers
unfoldable pub judgement_of : ℕ → ColumnType → Verdict
judgement_of edition c = cond (is_lawful edition c) no_refusal (Err (type_refusal edition))
