-- Laws of one node as it is rewritten: it resolves to what it did, and is rewritten to itself.
use Prim.Native.Nat.{ℕ, ◌≤◌}
use mathlib.Core.Path.{◌≡◌, refl, ◌∙◌}
use mathlib.Core.Bool.{Bool, true, false}
use lib.ListN.{length}
use borrow.Author.Tests.{not-false}
use Rattle.edition.specs.Editions.{has_geospatial}
use Rattle.sheet.specs.Slot.{child_count_at, converted, logical, parameter_a, parameter_b, numbers_of, annotated_slot}
use Rattle.sheet.specs.Sound.{listed, converted_listed, logical_listed, slot_sound}
use Rattle.sheet.proofs.AnnotatedSlotLaws.{physical_annotated, repetition_annotated, child_count_annotated, type_length_annotated, scale_annotated, precision_annotated, name_annotated, length_annotated, converted_annotated, logical_annotated, parameter_a_annotated, parameter_b_annotated, sound_annotated}
use Rattle.annotation.specs.Rule10.{is_early}
use Rattle.annotation.specs.Kinds.{kind_of}
use Rattle.annotation.specs.Outcome.{resolution_of}
use Rattle.annotation.specs.Rewriting.{written_as, written_of, rewritten as rewrittenNumbers}
use Rattle.annotation.specs.Meaning.{annotation_of}
use Rattle.logical_type.specs.Spelling.{code_of}
use Rattle.logical_type.specs.Forward.{forward_of}
use Rattle.logical_type.specs.declared.types.Annotation.{Annotation}
use Rattle.logical_type.specs.declared.types.LogicalType.{LogicalType}
use Rattle.logical_type.specs.declared.types.TimeUnit.{TimeUnit}
use Rattle.logical_type.specs.declared.types.BitWidth.{BitWidth}
use Rattle.std.specs.Prelude.{Ok}
use Rattle.annotation.specs.declared.rewriting.Written.{Written}
use Rattle.annotation.proofs.OutcomeLaws.{Keeps, resolved_of_keeps, keeps_of_resolved, kind_of_resolved}
use Rattle.annotation.proofs.PlacementLaws.{ten_timely}
use Rattle.annotation.proofs.RewritingLaws.{resolved_rewritten, written_rewritten}
use Rattle.tree.specs.Annotated.{annotated, kind, rule9, rule10, rule11}
use Rattle.tree.specs.Tree.{SlotBytes}
use Rattle.schema.specs.Demand.{Copied}
use Rattle.schema.specs.Rewriting.{rewriting}

-- a slot with what is rewritten of it
abbrev pub rewritten_as : Written → SlotBytes → SlotBytes
rewritten_as w s = annotated_slot s w.converted w.logical w.a w.b

unfoldable pub rewritten_slot : Bool → SlotBytes → SlotBytes
rewritten_slot under s = rewritten_as (rewriting under s) s

pub copied_refl : (s : SlotBytes) → Copied s s
copied_refl s =
    record { physical_is = refl; repetition_is = refl; child_count_is = refl; type_length_is = refl; scale_is = refl; precision_is = refl; name_is = refl }

pub copied_trans : (r s u : SlotBytes) → Copied r s → Copied s u → Copied r u
copied_trans r s u first second =
    record {
      physical_is = first.physical_is ∙ second.physical_is;
      repetition_is = first.repetition_is ∙ second.repetition_is;
      child_count_is = first.child_count_is ∙ second.child_count_is;
      type_length_is = first.type_length_is ∙ second.type_length_is;
      scale_is = first.scale_is ∙ second.scale_is;
      precision_is = first.precision_is ∙ second.precision_is;
      name_is = first.name_is ∙ second.name_is;
    }

pub copied_as : (r : Written) (s : SlotBytes) → Copied (rewritten_as r s) s
copied_as w s =
    record {
      physical_is = physical_annotated s w.converted w.logical w.a w.b;
      repetition_is = repetition_annotated s w.converted w.logical w.a w.b;
      child_count_is = child_count_annotated s w.converted w.logical w.a w.b;
      type_length_is = type_length_annotated s w.converted w.logical w.a w.b;
      scale_is = scale_annotated s w.converted w.logical w.a w.b;
      precision_is = precision_annotated s w.converted w.logical w.a w.b;
      name_is = name_annotated s w.converted w.logical w.a w.b;
    }

pub slot_copied : (under : Bool) (s : SlotBytes) → Copied (rewritten_slot under s) s
unfolding rewritten_slot
slot_copied under s = copied_as (rewriting under s) s

-- a slot has what is rewritten
abbrev pub Holds : Written → SlotBytes → Type 0
Holds w s =
    (converted s ≡ w.converted) × (logical s ≡ w.logical) × (parameter_a s ≡ w.a) × (parameter_b s ≡ w.b)

image_listed : (l : LogicalType) → converted_listed (forward_of l) ≡ true
unfolding converted_listed listed
image_listed LogicalType.String = refl
image_listed LogicalType.Map = refl
image_listed LogicalType.List = refl
image_listed LogicalType.Enum = refl
image_listed LogicalType.Decimal = refl
image_listed LogicalType.Date = refl
image_listed (LogicalType.Time TimeUnit.Millis utc) = refl
image_listed (LogicalType.Time TimeUnit.Micros utc) = refl
image_listed (LogicalType.Time TimeUnit.Nanos utc) = refl
image_listed (LogicalType.Timestamp TimeUnit.Millis utc) = refl
image_listed (LogicalType.Timestamp TimeUnit.Micros utc) = refl
image_listed (LogicalType.Timestamp TimeUnit.Nanos utc) = refl
image_listed (LogicalType.Integer BitWidth.Bits8 true) = refl
image_listed (LogicalType.Integer BitWidth.Bits8 false) = refl
image_listed (LogicalType.Integer BitWidth.Bits16 true) = refl
image_listed (LogicalType.Integer BitWidth.Bits16 false) = refl
image_listed (LogicalType.Integer BitWidth.Bits32 true) = refl
image_listed (LogicalType.Integer BitWidth.Bits32 false) = refl
image_listed (LogicalType.Integer BitWidth.Bits64 true) = refl
image_listed (LogicalType.Integer BitWidth.Bits64 false) = refl
image_listed LogicalType.Unknown = refl
image_listed LogicalType.Json = refl
image_listed LogicalType.Bson = refl
image_listed LogicalType.Uuid = refl
image_listed LogicalType.Geometry = refl
image_listed (LogicalType.Geography edge) = refl

-- the code of a logical type stands in the list of an edition that has it
pub code_listed : (edition : ℕ) (l : LogicalType) → is_early edition (Annotation.Logical l) ≡ false → logical_listed edition (code_of l) ≡ true
unfolding logical_listed
code_listed edition LogicalType.String e = refl
code_listed edition LogicalType.Map e = refl
code_listed edition LogicalType.List e = refl
code_listed edition LogicalType.Enum e = refl
code_listed edition LogicalType.Decimal e = refl
code_listed edition LogicalType.Date e = refl
code_listed edition (LogicalType.Time unit utc) e = refl
code_listed edition (LogicalType.Timestamp unit utc) e = refl
code_listed edition (LogicalType.Integer width signed) e = refl
code_listed edition LogicalType.Unknown e = refl
code_listed edition LogicalType.Json e = refl
code_listed edition LogicalType.Bson e = refl
code_listed edition LogicalType.Uuid e = refl
code_listed edition LogicalType.Geometry e = not-false (has_geospatial edition) e
code_listed edition (LogicalType.Geography edge) e = not-false (has_geospatial edition) e

-- every code that is written stands in the lists
written_listed : (edition : ℕ) (says : Annotation) → is_early edition says ≡ false → (converted_listed (written_as says).converted ≡ true) × (logical_listed edition (written_as says).logical ≡ true)
unfolding converted_listed logical_listed listed
written_listed edition Annotation.Plain e = (refl, refl)
written_listed edition (Annotation.Logical l) e = (image_listed l, code_listed edition l e)
written_listed edition Annotation.Interval e = (refl, refl)
written_listed edition Annotation.Unreadable e = (refl, refl)

-- a slot that is long enough to have annotations, and keeps rules 9, 10 and 11
pub record Resolves (edition : ℕ) (under : Bool) (s : SlotBytes) : Type 0 where
  pub long : child_count_at ≤ length s
  pub nine : rule9 s ≡ true
  pub ten : rule10 edition under s ≡ true
  pub eleven : rule11 edition under s ≡ true

module _ (edition : ℕ) (under : Bool) (s : SlotBytes) (h : Resolves edition under s) where
  keeps : Keeps edition (annotated s) under
  unfolding rule9 rule10 rule11
  keeps = record { nine = h.nine; ten = h.ten; eleven = h.eleven }

  resolved : resolution_of edition (annotated s) under ≡ Ok (kind_of (annotated s) under)
  resolved = resolved_of_keeps edition (annotated s) under keeps

  w : Written
  w = written_of (annotated s) under

  slot_is : rewritten_slot under s ≡ annotated_slot s w.converted w.logical w.a w.b
  unfolding rewritten_slot rewriting w
  slot_is = refl

  -- its numbers are those that the annotations' own rewriting gives
  pub annotated_rewritten : annotated (rewritten_slot under s) ≡ rewrittenNumbers (annotated s) under
  unfolding annotated numbers_of rewrittenNumbers w
  annotated_rewritten =
      rw (slot_is, physical_annotated s w.converted w.logical w.a w.b, type_length_annotated s w.converted w.logical w.a w.b, converted_annotated s w.converted w.logical w.a w.b h.long, logical_annotated s w.converted w.logical w.a w.b h.long, parameter_a_annotated s w.converted w.logical w.a w.b h.long, parameter_b_annotated s w.converted w.logical w.a w.b h.long, scale_annotated s w.converted w.logical w.a w.b, precision_annotated s w.converted w.logical w.a w.b)

  again : resolution_of edition (annotated (rewritten_slot under s)) under ≡ Ok (kind_of (annotated s) under)
  again = rw annotated_rewritten (resolved_rewritten edition (annotated s) under (kind_of (annotated s) under) resolved)

  -- it resolves to the kind that it did
  pub kind_rewritten : kind under (rewritten_slot under s) ≡ kind under s
  unfolding kind
  kind_rewritten = kind_of_resolved edition (annotated (rewritten_slot under s)) under (kind_of (annotated s) under) again

  -- it keeps rules 9, 10 and 11
  pub resolves_rewritten : Resolves edition under (rewritten_slot under s)
  unfolding rule9 rule10 rule11
  resolves_rewritten =
      let k = keeps_of_resolved edition (annotated (rewritten_slot under s)) under (kind_of (annotated s) under) again in
      record {
        long = rw (slot_is, length_annotated s w.converted w.logical w.a w.b) h.long;
        nine = k.nine;
        ten = k.ten;
        eleven = k.eleven;
      }

  -- and is rewritten to itself
  pub rewriting_rewritten : rewriting under (rewritten_slot under s) ≡ rewriting under s
  unfolding rewriting
  rewriting_rewritten = rw (annotated_rewritten, written_rewritten (annotated s) under)

  -- it is sound where it was
  pub sound_rewritten : slot_sound edition s ≡ true → slot_sound edition (rewritten_slot under s) ≡ true
  unfolding w written_of rule10
  sound_rewritten e =
      let listed = written_listed edition (annotation_of (annotated s) under) (ten_timely edition (annotated s) under h.ten) in
      rw slot_is (sound_annotated s w.converted w.logical w.a w.b h.long edition listed.0 listed.1 e)

  -- and has what is rewritten
  pub holds_rewritten : Holds (rewriting under s) (rewritten_slot under s)
  unfolding rewriting w
  holds_rewritten =
      rw slot_is (
        converted_annotated s w.converted w.logical w.a w.b h.long,
        logical_annotated s w.converted w.logical w.a w.b h.long,
        parameter_a_annotated s w.converted w.logical w.a w.b h.long,
        parameter_b_annotated s w.converted w.logical w.a w.b h.long,
      )
