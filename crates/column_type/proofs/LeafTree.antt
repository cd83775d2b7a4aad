-- The tree of a sheet of a root and one leaf: it keeps every rule where the leaf's slot does.
use Prim.Native.Nat.{ℕ, zero, suc, ◌≤◌}
use mathlib.Core.Path.{◌≡◌, refl, sym, subst}
use mathlib.Core.Bool.{Bool, true, false, true≢false, ◌||◌}
use mathlib.Core.List.{[], ◌∷◌}
use native.Mathlib.Omega.{arith}
use lib.Dec.{eqb}
use lib.ListN.{get_or}
use Rattle.laws.specs.Bytes.{little, bytes_of, twos_complement}
use Rattle.parquet.specs.Logical as logical
use Rattle.logical_type.specs.Parameters.{valid_parameters}
use Rattle.annotation.specs.Signed.{natural}
use Rattle.logical_type.specs.Backward.{backward_of}
use Rattle.annotation.specs.Meaning.{annotation_of}
use Rattle.annotation.specs.Rule9 as nine
use Rattle.annotation.specs.Rule10 as ten
use Rattle.annotation.specs.Rule11 as eleven
use Rattle.annotation.specs.Kinds.{PLAIN_GROUP, kind_of}
use Rattle.annotation.specs.declared.slot.Annotated.{Annotated}
use Rattle.annotation.proofs.PlacementLaws.{ten_placed, leaf_kind}
use Rattle.sheet.specs.Number.{number_at}
use Rattle.sheet.specs.Slot as slot
use Rattle.sheet.specs.Slot.{numbers_of}
use Rattle.tree.specs.Annotated.{annotated, kind, rule9, rule10, rule11}
use Rattle.tree.specs.Tree.{Tree, Fields, node, empty, field, listing, count, depths, AtMostDeep, Claims, most_depth}
use Rattle.tree.specs.Rules.{is_group, is_nought, length_shape, decimal_shape, standing_below, shape, rule8, is_list, is_map, rule12, rule13, KeepsAt, Keeps}
use Rattle.schema.specs.Demand.{IsTreeOf}
use Rattle.tree.specs.declared.standing.Standing.TheVariants.{Root, Field}
use Rattle.column_type.proofs.LeafSheet.{root_slot, leaf_slot, leaf_sheet, leaf_sheet_slots, LeafSlot, leaf_slot_annotated}

-- a root and one leaf
unfoldable pub leaf_tree : Annotated → Tree
leaf_tree n = node root_slot (field (node (leaf_slot n) empty) empty)

tree_deep : (n : Annotated) → AtMostDeep most_depth (leaf_tree n)
unfolding leaf_tree AtMostDeep depths
tree_deep n k = by k
  where
    by : (k : ℕ) → get_or (0 ∷ 1 ∷ []) k 0 ≤ most_depth
    by zero = omega arith
    by (suc zero) = omega arith
    by (suc (suc k)) = omega arith

tree_claims : (n : Annotated) → Claims (leaf_tree n)
unfolding leaf_tree Claims count root_slot leaf_slot slot.child_count number_at little bytes_of
tree_claims n = (refl, ((refl, tt), tt))

root_keeps : (edition : ℕ) (fs : Fields) → KeepsAt edition Root root_slot fs
unfolding rule8 shape length_shape decimal_shape is_nought rule9 rule10 rule11 rule12 rule13 is_list is_map kind kind_of annotated annotation_of backward_of valid_parameters natural nine.rule9 ten.is_placed ten.is_retired ten.rule10 eleven.rule11 numbers_of slot.physical slot.repetition slot.converted slot.logical slot.parameter_a slot.parameter_b slot.type_length_of slot.scale slot.precision number_at little bytes_of twos_complement root_slot
root_keeps edition fs = record { shape = refl; agreement = refl; placement = refl; decimals = refl; lists = refl; maps = refl }

root_place : standing_below Root root_slot ≡ Field
unfolding standing_below kind kind_of annotated annotation_of backward_of valid_parameters numbers_of slot.physical slot.converted slot.logical slot.parameter_a slot.parameter_b root_slot
root_place = refl

-- the slot of a leaf keeps rules 8 to 11
pub record LeafKept (edition : ℕ) (n : Annotated) : Type 0 where
  pub slot : LeafSlot edition n
  pub leaf : is_group n.physical ≡ false
  pub length : length_shape n.physical n.type_length ≡ true
  pub digits : decimal_shape n.converted n.logical n.scale n.precision ≡ true
  pub nine : nine.rule9 n ≡ true
  pub ten : ten.rule10 edition n false ≡ true
  pub eleven : eleven.rule11 edition n false ≡ true

module _ (edition : ℕ) (n : Annotated) (k : LeafKept edition n) where
  -- a fact of the leaf's numbers is one of its slot's
  at_slot : (P : Annotated → Type 0) → P n → P (annotated (leaf_slot n))
  at_slot P h = subst P (sym (leaf_slot_annotated n k.slot.holds)) h

  leaf_shape : rule8 Field (leaf_slot n) empty ≡ true
  unfolding rule8 shape annotated numbers_of count slot.physical slot.repetition leaf_slot
  leaf_shape =
      rw (k.leaf, at_slot (λ m. length_shape m.physical m.type_length ≡ true) k.length, at_slot (λ m. decimal_shape m.converted m.logical m.scale m.precision ≡ true) k.digits)

  leaf_is : (eqb (kind false (leaf_slot n)).kind logical.LIST ≡ false) × (eqb (kind false (leaf_slot n)).kind logical.MAP ≡ false)
  unfolding kind
  leaf_is =
      at_slot (λ m. (eqb (kind_of m false).kind logical.LIST ≡ false) × (eqb (kind_of m false).kind logical.MAP ≡ false))
      (none_of (eqb (kind_of n false).kind PLAIN_GROUP) _ _ (leaf_kind n false (ten_placed edition n false k.ten) k.leaf))
    where
      none_of : (a b c : Bool) → a || b || c ≡ false → (b ≡ false) × (c ≡ false)
      none_of false false false e = (refl, refl)
      none_of false false true e = absurd (true≢false e)
      none_of false true c e = absurd (true≢false e)
      none_of true b c e = absurd (true≢false e)

  leaf_keeps : KeepsAt edition Field (leaf_slot n) empty
  unfolding rule9 rule10 rule11 rule12 rule13 is_list is_map
  leaf_keeps =
      record {
        shape = leaf_shape;
        agreement = at_slot (λ m. nine.rule9 m ≡ true) k.nine;
        placement = at_slot (λ m. ten.rule10 edition m false ≡ true) k.ten;
        decimals = at_slot (λ m. eleven.rule11 edition m false ≡ true) k.eleven;
        lists = rw leaf_is.0;
        maps = rw leaf_is.1;
      }

  tree_keeps : Keeps edition Root (leaf_tree n)
  unfolding Keeps leaf_tree
  tree_keeps = (root_keeps edition (field (node (leaf_slot n) empty) empty), rw root_place ((leaf_keeps, tt), tt))

  tree_lists : listing (leaf_tree n) ≡ slot.slots (leaf_sheet n)
  unfolding leaf_tree listing
  tree_lists = sym (leaf_sheet_slots edition n k.slot)

  pub leaf_tree_of : IsTreeOf edition (leaf_sheet n) (leaf_tree n)
  leaf_tree_of = record { deep = tree_deep n; keeps = tree_keeps; claims = tree_claims n; lists = tree_lists }
