-- The roles in terms of the tree: what document 01 asks of a node, and of what stands above it, for each of its numbers. `Rows.role` gives a node its
-- number; that each number is given exactly where its sentence here holds is promised with demand 3.
use Rattle.std.specs.Prelude.{ℕ, suc, ◌<◌, ◌≡◌, Bool, false, List, [], ◌∷◌, ◌++◌, ◌⊎◌, eqb, get_or}
use Rattle.parquet.specs.Repetition.{REPEATED}
use Rattle.parquet.specs.Physical.{GROUP}
use Rattle.parquet.specs.Logical as logical
use Rattle.sheet.specs.Slot.{physical, repetition, name}
use Rattle.tree.specs.Annotated.{kind}
use Rattle.tree.specs.Tree.{SlotBytes, Tree, Fields, node, empty, field, slot_of, run_of}
use Rattle.tree.specs.Rules.{array_name, tuple_suffix}

-- a step of the way from a node up to the root: a node's index among its siblings, from 0, and the node with its run
pub record Step : Type 0 where
  pub index : ℕ
  pub tree : Tree

-- the way from a node up to the root: the node itself first, then its parent, and so on
abbrev pub Ascent : Type 0
Ascent = List Step

-- of each node of a tree, in listing order
unfoldable mutual
  pub ascents : ℕ → Ascent → Tree → List Ascent
  ascents index above (node s fs) =
      (record { index = index; tree = node s fs } ∷ above) ∷ run_ascents 0 (record { index = index; tree = node s fs } ∷ above) fs

  pub run_ascents : ℕ → Ascent → Fields → List Ascent
  run_ascents index above empty = []
  run_ascents index above (field t fs) = ascents index above t ++ run_ascents (suc index) above fs

-- from node k of a tree
unfoldable pub ascent : Tree → ℕ → Ascent
ascent t k = get_or (ascents 0 [] t) k []

-- a node is a resolved MAP; its own parent decides what MAP_KEY_VALUE alone means on it
unfoldable pub is_resolved_map : Ascent → Bool
is_resolved_map [] = false
is_resolved_map (n ∷ above) = eqb (kind (is_resolved_map above) (slot_of n.tree)).kind logical.MAP

-- a node's parent is one
abbrev pub is_under_map : Ascent → Bool
is_under_map [] = false
is_under_map (n ∷ above) = is_resolved_map above

-- the resolved kind of a node is this one; above the root there is no node
unfoldable pub HasKind : ℕ → Ascent → Type 0
HasKind code [] = ⊥
HasKind code (n ∷ above) = (kind (is_resolved_map above) (slot_of n.tree)).kind ≡ code

abbrev pub IsGroup : Step → Type 0
IsGroup n = physical (slot_of n.tree) ≡ GROUP

abbrev pub IsRepeated : Step → Type 0
IsRepeated n = repetition (slot_of n.tree) ≡ REPEATED

-- a LIST's group child is itself the element: (2) "with several fields"; (3) "with one field, named `array` or the list's name plus `_tuple`"; or, of
-- document 02's R-2, its single field is repeated
pub data IsElementGroup (list layer : SlotBytes) : Fields → Type 0 where
  several : (t u : Tree) (fs : Fields) → IsElementGroup list layer (field t (field u fs))
  array : (t : Tree) → name layer ≡ array_name → IsElementGroup list layer (field t empty)
  tuple : (t : Tree) → name layer ≡ name list ++ tuple_suffix → IsElementGroup list layer (field t empty)
  single : (t : Tree) → repetition (slot_of t) ≡ REPEATED → IsElementGroup list layer (field t empty)

-- "1 list layer": a LIST's group child that is not the element
unfoldable pub IsListLayer : Ascent → Type 0
IsListLayer [] = ⊥
IsListLayer (n ∷ []) = ⊥
IsListLayer (n ∷ (list ∷ above)) =
    HasKind logical.LIST (list ∷ above) × IsGroup n × (IsElementGroup (slot_of list.tree) (slot_of n.tree) (run_of n.tree) → ⊥)

-- "2 element (a rule 1 leaf too)": a LIST's leaf child, or what a list layer holds
unfoldable pub IsElement : Ascent → Type 0
IsElement [] = ⊥
IsElement (n ∷ above) = (HasKind logical.LIST above × (IsGroup n → ⊥)) ⊎ IsListLayer above

-- "3 group layer that is the element"
unfoldable pub IsElementLayer : Ascent → Type 0
IsElementLayer [] = ⊥
IsElementLayer (n ∷ []) = ⊥
IsElementLayer (n ∷ (list ∷ above)) =
    HasKind logical.LIST (list ∷ above) × IsGroup n × IsElementGroup (slot_of list.tree) (slot_of n.tree) (run_of n.tree)

-- "4 key_value layer": a MAP's child
unfoldable pub IsKeyValueLayer : Ascent → Type 0
IsKeyValueLayer [] = ⊥
IsKeyValueLayer (n ∷ above) = HasKind logical.MAP above

-- "5 key": its first field
unfoldable pub IsKey : Ascent → Type 0
IsKey [] = ⊥
IsKey (n ∷ above) = IsKeyValueLayer above × (n.index ≡ 0)

-- "6 value": a later one, of which rule 13 allows one
unfoldable pub IsValue : Ascent → Type 0
IsValue [] = ⊥
IsValue (n ∷ above) = IsKeyValueLayer above × (0 < n.index)

-- "Rules 12 and 13 give 1 to 6"
pub data HasLayerRole (a : Ascent) : Type 0 where
  list_layer : IsListLayer a → HasLayerRole a
  element : IsElement a → HasLayerRole a
  element_layer : IsElementLayer a → HasLayerRole a
  key_value_layer : IsKeyValueLayer a → HasLayerRole a
  key : IsKey a → HasLayerRole a
  value : IsValue a → HasLayerRole a

-- "any other repeated node has 7"
unfoldable pub IsBareRepeated : Ascent → Type 0
IsBareRepeated [] = ⊥
IsBareRepeated (n ∷ above) = IsRepeated n × (HasLayerRole (n ∷ above) → ⊥)

-- "the rest 0"
unfoldable pub IsField : Ascent → Type 0
IsField [] = ⊥
IsField (n ∷ above) = (IsRepeated n → ⊥) × (HasLayerRole (n ∷ above) → ⊥)
