-- Refusal 20: a column type is lawful exactly where some accepted sheet has a leaf of it.
use Prim.Native.Nat.{ℕ, ◌*◌}
use mathlib.Core.Path.{◌≡◌, refl, sym, ap, ◌∙◌}
use mathlib.Core.Logic.{◌↔◌}
use mathlib.Core.Bool.{Bool, true, false, true≢false, not, ◌&&◌}
use mathlib.Core.List.{List, ◌++◌}
use native.Mathlib.Omega.{arith}
use lib.IntN.{pos}
use lib.ListN.{length, drop, replicate}
use Rattle.laws.proofs.BoolLaws.{and_both}
use Rattle.annotation.specs.Signed.{natural}
use Rattle.logical_type.specs.Parameters.{valid_parameters}
use Rattle.logical_type.specs.Backward.{backward_of}
use Rattle.annotation.specs.Meaning.{annotation_of}
use Rattle.annotation.specs.Rule9.{rule9}
use Rattle.annotation.specs.Rule10.{is_placed, rule10}
use Rattle.annotation.specs.Rule11.{rule11}
use Rattle.annotation.specs.Kinds.{kind_of}
use Rattle.annotation.specs.declared.slot.Annotated.{Annotated}
use Rattle.annotation.proofs.PlacementLaws.{ten_placed}
use Rattle.sheet.specs.Block.{total_of}
use Rattle.sheet.specs.Slot as slot
use Rattle.sheet.specs.Sound.{physical_listed}
use Rattle.tree.specs.Annotated.{annotated, kind}
use Rattle.tree.specs.Rules.{is_group, length_shape}
use Rattle.schema.specs.Rows.{row_width, role, row, parent_by, parent_of, rows_from, rows}
use Rattle.edition.specs.Editions.{is_known}
use Rattle.column_type.proofs.RefusalLaws.{lawful_known}
use Rattle.schema.specs.Outcome.{outcome}
use Rattle.schema.specs.Demand.{EnoughOutput, Sound, Accepted}
use Rattle.schema.proofs.DemandLaws.{accepted_exactly, rows_are}
use Rattle.column_type.specs.Lawful.{slot_of, fits, is_leaf, annotation_right, slot_keeps, is_lawful}
use Rattle.column_type.specs.Leaf.{column_of, column_at, IsLeafOf, HasLeaf}
use Rattle.column_type.specs.declared.types.ColumnType.{ColumnType}
use Rattle.column_type.proofs.FitsLaws.{fits_parts, is_leaf_not_group}
use Rattle.column_type.proofs.SlotLaws.{slot_of_physical, slot_of_length}
use Rattle.column_type.proofs.KeptLaws.{column_with}
use Rattle.column_type.proofs.LeafLaws.{has_leaf_lawful}
use Rattle.column_type.proofs.LeafSheet.{root_slot, leaf_slot, leaf_sheet, LeafSlot, leaf_sheet_total, leaf_sheet_sound, leaf_sheet_bytes, leaf_slot_annotated}
use Rattle.column_type.proofs.LeafTree.{leaf_tree, LeafKept, leaf_tree_of}
use Rattle.column_type.proofs.SpeltLaws.{Spelt, slot_of_spelt}

-- the column type in the leaf's row
leaf_column : (n : Annotated) (rest : List ℕ) → column_of (drop (row_width * 1) (rows (leaf_tree n) ++ rest)) ≡ column_with (annotated (leaf_slot n)) (kind false (leaf_slot n))
unfolding column_of column_with leaf_tree rows rows_from row parent_of parent_by role kind kind_of annotated annotation_of backward_of valid_parameters slot.numbers_of slot.physical slot.repetition slot.converted slot.logical slot.parameter_a slot.parameter_b root_slot
leaf_column n rest = refl

module _ (edition : ℕ) (c : ColumnType) (lawful : is_lawful edition c ≡ true) where
  -- the parts of a lawful column type

  right : (((fits c && is_leaf c.physical) && length_shape c.physical (pos c.type_length)) ≡ true) × (annotation_right edition (slot_of c) ≡ true)
  unfolding is_lawful slot_keeps
  right = and_both _ (annotation_right edition (slot_of c)) (and_both (is_known edition) (slot_keeps edition c) lawful).1

  pub shaped : ((fits c && is_leaf c.physical) ≡ true) × (length_shape c.physical (pos c.type_length) ≡ true)
  shaped = and_both (fits c && is_leaf c.physical) (length_shape c.physical (pos c.type_length)) right.0

  fitting : (fits c ≡ true) × (is_leaf c.physical ≡ true)
  fitting = and_both (fits c) (is_leaf c.physical) shaped.0

  eleven : ((rule9 (slot_of c) && rule10 edition (slot_of c) false) ≡ true) × (rule11 edition (slot_of c) false ≡ true)
  eleven = and_both (rule9 (slot_of c) && rule10 edition (slot_of c) false) (rule11 edition (slot_of c) false) right.1

  pub ten : (rule9 (slot_of c) ≡ true) × (rule10 edition (slot_of c) false ≡ true)
  ten = and_both (rule9 (slot_of c)) (rule10 edition (slot_of c) false) eleven.0

  pub placed : is_placed (slot_of c) false ≡ true
  placed = ten_placed edition (slot_of c) false ten.1

  leaf : is_group c.physical ≡ false
  leaf = is_leaf_not_group c.physical fitting.1

  pub spelt : Spelt edition c (slot_of c)
  spelt = slot_of_spelt edition c (fits_parts c fitting.0) leaf ten.1

  leaf_slot_lem : LeafSlot edition (slot_of c)
  unfolding is_leaf
  leaf_slot_lem =
      record {
        listed =
            record {
              physical = rw (slot_of_physical c) (and_both (physical_listed c.physical) (not (is_group c.physical)) fitting.1).0;
              converted = spelt.converted;
              logical = spelt.logical;
            };
        holds = spelt.holds;
      }

  kept : LeafKept edition (slot_of c)
  kept =
      record {
        slot = leaf_slot_lem;
        leaf = rw (slot_of_physical c) leaf;
        length = rw (slot_of_physical c, slot_of_length c) shaped.1;
        digits = spelt.digits;
        nine = ten.0;
        ten = ten.1;
        eleven = eleven.1;
      }

  -- its sheet is a root and a leaf with its slot

  sheet : List ℕ
  sheet = leaf_sheet (slot_of c)

  lent : List ℕ
  lent = replicate (row_width * 2) 0

  sound : Sound edition sheet
  unfolding sheet
  sound = leaf_sheet_sound edition (slot_of c) leaf_slot_lem (lawful_known edition c lawful)

  total : total_of sheet ≡ 2
  unfolding sheet
  total = leaf_sheet_total edition (slot_of c) leaf_slot_lem

  enough : EnoughOutput sheet (length lent)
  unfolding EnoughOutput lent
  enough = omega (arith, total)

  accepted : Accepted (outcome edition sheet (length lent))
  unfolding sheet
  accepted = (accepted_exactly edition sheet (length lent) sound enough).1 (leaf_tree (slot_of c), leaf_tree_of edition (slot_of c) kept)

  -- and its row has the column type
  column_slot : column_with (annotated (leaf_slot (slot_of c))) (kind false (leaf_slot (slot_of c))) ≡ c
  unfolding column_with kind natural
  column_slot = rw (leaf_slot_annotated (slot_of c) spelt.holds, spelt.kind, slot_of_physical c, slot_of_length c)

  column : column_at edition sheet lent 1 ≡ c
  unfolding column_at sheet
  column =
      ap (λ (numbers : List ℕ). column_of (drop (row_width * 1) numbers)) (rows_are edition sheet lent (leaf_tree (slot_of c)) sound enough (leaf_tree_of edition (slot_of c) kept))
      ∙ leaf_column (slot_of c) (drop (row_width * total_of sheet) lent)
      ∙ column_slot

  lawful_leaf : IsLeafOf edition c sheet lent 1
  unfolding sheet
  lawful_leaf =
      record {
        bytes = leaf_sheet_bytes edition (slot_of c) leaf_slot_lem;
        accepted = accepted;
        below = omega (arith, total);
        leaf = leaf;
        column = column;
      }

lawful_has_leaf : (edition : ℕ) (c : ColumnType) → is_lawful edition c ≡ true → HasLeaf edition c
unfolding HasLeaf
lawful_has_leaf edition c e = (sheet edition c e, lent edition c e, 1, lawful_leaf edition c e)

-- a column type is lawful exactly where an accepted sheet has a leaf of it
pub lawful_exactly : (edition : ℕ) (c : ColumnType) → (is_lawful edition c ≡ true) ↔ HasLeaf edition c
lawful_exactly edition c = (lawful_has_leaf edition c, has_leaf_lawful edition c)

-- "no accepted sheet has a leaf of this column type" exactly where it is not lawful
pub unlawful_exactly : (edition : ℕ) (c : ColumnType) → (is_lawful edition c ≡ false) ↔ (HasLeaf edition c → ⊥)
unlawful_exactly edition c = (
  (λ e l. true≢false (sym (has_leaf_lawful edition c l) ∙ e)),
  (λ none. cases none (is_lawful edition c) refl),
)
  where
    cases : (HasLeaf edition c → ⊥) → (b : Bool) → is_lawful edition c ≡ b → is_lawful edition c ≡ false
    cases none true e = absurd (none (lawful_has_leaf edition c e))
    cases none false e = e
