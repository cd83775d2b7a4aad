-- The role of a LIST's child, by its numbers and what rule 12 says of it.
use Prim.Native.Nat.{ℕ, suc}
use mathlib.Core.Path.{◌≡◌}
use mathlib.Core.Bool.{true, false, cond, or-true, or-false}
use mathlib.Core.List.{List}
use lib.Dec.{eqb}
use Rattle.sheet.specs.Slot.{repetition, slot_at}
use Rattle.sheet.specs.declared.slots.Slot.{Slot as Numbers}
use Rattle.parquet.specs.Physical as physical
use Rattle.parquet.specs.Repetition.{REPEATED}
use Rattle.tree.specs.Tree.{SlotBytes, Fields, node, empty, field}
use Rattle.tree.specs.Rules.{named_element, is_repeated, is_element_group}
use Rattle.tree.specs.Layer.{layer_of, is_element_by}
use Rattle.schema.specs.Rows.{list_role}
use Rattle.tree.specs.Steps.{Visited, fields_at}
use Rattle.tree.proofs.StructureLaws.{leaf, group, element_at}

pub element_repeated : (list layer s : SlotBytes) (fs : Fields) → eqb (repetition s) REPEATED ≡ true → is_element_group list layer (field (node s fs) empty) ≡ true
unfolding is_element_group is_repeated
element_repeated list layer s fs r = rw (r, or-true)

pub element_named : (list layer s : SlotBytes) (fs : Fields) → eqb (repetition s) REPEATED ≡ false → is_element_group list layer (field (node s fs) empty) ≡ named_element list layer
unfolding is_element_group is_repeated
element_named list layer s fs r = rw r (or-false (named_element list layer))

module _ (b : List ℕ) (at : ℕ) (s : Numbers) (v : Visited b at s) (list : SlotBytes) where
  pub role_leaf : (s.physical ≡ physical.GROUP → ⊥) → 2 ≡ list_role list (slot_at b at) (fields_at b at)
  unfolding list_role
  role_leaf n = rw (leaf b at s v n)

  pub role_by : s.physical ≡ physical.GROUP → list_role list (slot_at b at) (fields_at b at) ≡ cond (is_element_by (layer_of s.children (repetition (slot_at b (suc at)))) (named_element list (slot_at b at))) 3 1
  unfolding list_role
  role_by g = rw (group b at s v g, element_at b at s v list)
