-- The listed rules 8 to 13, kept at every node and judged on the tree alone. Of them an edition decides rules 10 and 11.
use Rattle.std.specs.Prelude.{ℕ, ◌≡◌, Bool, true, false, cond, not, ◌&&◌, ◌||◌, List, [], ◌∷◌, ◌++◌, leb, eqb, ℤ, pos, negsuc}
use Rattle.std.specs.Int.Signed.{le_z}
use Rattle.sheet.specs.Slot.{physical as physicalOf, repetition, name, numbers_of}
use Rattle.sheet.specs.declared.slots.Slot.{Slot as Numbers}
use Rattle.sheet.specs.Name.{same_bytes}
use Rattle.annotation.specs.declared.resolution.Kind.{Kind}
use Rattle.parquet.specs.Repetition.{REQUIRED, OPTIONAL, REPEATED}
use Rattle.parquet.specs.Repetition as repetition
use Rattle.parquet.specs.Physical as physical
use Rattle.parquet.specs.Converted as converted
use Rattle.parquet.specs.Logical as logical
use Rattle.tree.specs.Annotated.{kind, rule9, rule10, rule11}
use Rattle.tree.specs.Tree.{SlotBytes, Tree, Fields, node, empty, field, count}
use Rattle.tree.specs.declared.standing.Standing.{Standing}
use Rattle.tree.specs.declared.standing.Standing.TheVariants.{Root, Field, MapField}

-- "A node is a group where its physical is 255, else a leaf"
abbrev pub is_group : ℕ → Bool
is_group code = eqb code physical.GROUP

-- "required or optional"
abbrev pub is_required_or_optional : ℕ → Bool
is_required_or_optional code = eqb code REQUIRED || eqb code OPTIONAL

-- where a node stands, as far as the rules look above it (`Standing`): it is the `Root`, a `Field` of a node that is no resolved MAP, or a `MapField`,
-- a field of one. Whether its parent is a resolved MAP:
abbrev pub under_map_of : Standing → Bool
under_map_of Root = false
under_map_of Field = false
under_map_of MapField = true

-- a node's resolved kind is LIST; is MAP
unfoldable pub is_list : Standing → SlotBytes → Bool
is_list p s = eqb (kind (under_map_of p) s).kind logical.LIST

unfoldable pub is_map : Standing → SlotBytes → Bool
is_map p s = eqb (kind (under_map_of p) s).kind logical.MAP

-- the place of the fields of a node of some kind
abbrev pub standing_under : ℕ → Standing
standing_under code = cond (eqb code logical.MAP) MapField Field

unfoldable pub standing_below : Standing → SlotBytes → Standing
standing_below p s = standing_under (kind (under_map_of p) s).kind

-- the resolved kind that the rules take each node of a tree for, in listing order
unfoldable mutual
  pub judged_kinds : Standing → Tree → List Kind
  judged_kinds p (node s fs) = kind (under_map_of p) s ∷ run_kinds (standing_below p s) fs

  pub run_kinds : Standing → Fields → List Kind
  run_kinds p empty = []
  run_kinds p (field t fs) = judged_kinds p t ++ run_kinds p fs

-- rule 8 -----------------------------------------------------------------------------------------------------------------

-- "The root is a group without repetition or annotation, and may have no children", of its physical, repetition, converted and logical
abbrev pub root_shape : ℕ → ℕ → ℕ → ℕ → Bool
root_shape ph rep conv log = is_group ph && eqb rep repetition.NONE && eqb conv converted.NONE && eqb log logical.NONE

-- "Every other node has a repetition. A leaf has no children; any group but the root has at least one", of its physical, repetition and children
abbrev pub field_shape : ℕ → ℕ → ℕ → Bool
field_shape ph rep children = not (eqb rep repetition.NONE) && cond (is_group ph) (leb 1 children) (eqb children 0)

-- of a node's numbers and how many fields it has
abbrev pub standing_shape : Standing → Numbers → ℕ → Bool
standing_shape Root n children = root_shape n.physical n.repetition n.converted n.logical
standing_shape Field n children = field_shape n.physical n.repetition children
standing_shape MapField n children = field_shape n.physical n.repetition children

-- an integer is 0
unfoldable pub is_nought : ℤ → Bool
is_nought (pos n) = eqb n 0
is_nought (negsuc n) = false

-- "Type length is at least 1 for FIXED, 0 otherwise", of its physical and type length
unfoldable pub length_shape : ℕ → ℤ → Bool
length_shape ph length = cond (eqb ph physical.FIXED_LEN_BYTE_ARRAY) (le_z (pos 1) length) (is_nought length)

-- "Scale and precision are 0 unless either annotation is DECIMAL", of its converted, logical, scale and precision
unfoldable pub decimal_shape : ℕ → ℕ → ℤ → ℤ → Bool
decimal_shape conv log sc pr = (eqb conv converted.DECIMAL || eqb log logical.DECIMAL) || (is_nought sc && is_nought pr)

unfoldable pub shape : Standing → Numbers → ℕ → Bool
shape p n children =
    standing_shape p n children && length_shape n.physical n.type_length && decimal_shape n.converted n.logical n.scale n.precision

-- rule 8
unfoldable pub rule8 : Standing → SlotBytes → Fields → Bool
rule8 p s fs = shape p (numbers_of s) (count fs)

-- rule 12 ----------------------------------------------------------------------------------------------------------------

-- `array` and `_tuple`
abbrev pub array_name : List ℕ
array_name = 97 ∷ 114 ∷ 114 ∷ 97 ∷ 121 ∷ []

abbrev pub tuple_suffix : List ℕ
tuple_suffix = 95 ∷ 116 ∷ 117 ∷ 112 ∷ 108 ∷ 101 ∷ []

-- a LIST's repeated group is "named `array` or the list's name plus `_tuple`"
unfoldable pub named_element : SlotBytes → SlotBytes → Bool
named_element list layer = same_bytes (name layer) array_name || same_bytes (name layer) (name list ++ tuple_suffix)

-- a node is repeated
unfoldable pub is_repeated : Tree → Bool
is_repeated (node s fs) = eqb (repetition s) REPEATED

-- the repeated group of a LIST is itself the element: (2) of several fields, (3) so named, or, of document 02's R-2, its one field is repeated
unfoldable pub is_element_group : SlotBytes → SlotBytes → Fields → Bool
is_element_group list layer empty = false
is_element_group list layer (field t empty) = named_element list layer || is_repeated t
is_element_group list layer (field t (field u fs)) = true

-- (4): its one field is the element, required or optional
unfoldable pub holds_element : Fields → Bool
holds_element empty = false
holds_element (field (node s gs) empty) = is_required_or_optional (repetition s)
holds_element (field (node s gs) (field u fs)) = false

-- a LIST's child is repeated: (1) a leaf, or a group that is the element or holds it
unfoldable pub list_child : SlotBytes → Tree → Bool
list_child list (node s fs) =
    eqb (repetition s) REPEATED && (not (is_group (physicalOf s)) || (is_element_group list s fs || holds_element fs))

-- "with one child"
unfoldable pub list_run : SlotBytes → Fields → Bool
list_run list empty = false
list_run list (field t empty) = list_child list t
list_run list (field t (field u fs)) = false

-- "A LIST is required or optional"
unfoldable pub list_kept : SlotBytes → Fields → Bool
list_kept s fs = is_required_or_optional (repetition s) && list_run s fs

-- rule 12
unfoldable pub rule12 : Standing → SlotBytes → Fields → Bool
rule12 p s fs = not (is_list p s) || list_kept s fs

-- rule 13 ----------------------------------------------------------------------------------------------------------------

-- "one or two fields: key first, required; then value, required or optional"
unfoldable pub key_value : Fields → Bool
key_value empty = false
key_value (field (node k ks) empty) = eqb (repetition k) REQUIRED
key_value (field (node k ks) (field (node v vs) empty)) = eqb (repetition k) REQUIRED && is_required_or_optional (repetition v)
key_value (field (node k ks) (field (node v vs) (field u fs))) = false

-- "with one child, a repeated group"
unfoldable pub map_run : Fields → Bool
map_run empty = false
map_run (field (node s fs) empty) = eqb (repetition s) REPEATED && (is_group (physicalOf s) && key_value fs)
map_run (field (node s fs) (field u gs)) = false

-- "A MAP is required or optional"
unfoldable pub map_kept : SlotBytes → Fields → Bool
map_kept s fs = is_required_or_optional (repetition s) && map_run fs

-- rule 13
unfoldable pub rule13 : Standing → SlotBytes → Fields → Bool
rule13 p s fs = not (is_map p s) || map_kept s fs

-- every rule -------------------------------------------------------------------------------------------------------------

-- a node keeps every rule of an edition
pub record KeepsAt (edition : ℕ) (p : Standing) (s : SlotBytes) (fs : Fields) : Type 0 where
  pub shape : rule8 p s fs ≡ true
  pub agreement : rule9 s ≡ true
  pub placement : rule10 edition (under_map_of p) s ≡ true
  pub decimals : rule11 edition (under_map_of p) s ≡ true
  pub lists : rule12 p s fs ≡ true
  pub maps : rule13 p s fs ≡ true

-- a tree keeps every rule of it at every node
unfoldable mutual
  pub Keeps : ℕ → Standing → Tree → Type 0
  Keeps edition p (node s fs) = KeepsAt edition p s fs × KeepsAll edition (standing_below p s) fs

  pub KeepsAll : ℕ → Standing → Fields → Type 0
  KeepsAll edition p empty = Unit {0}
  KeepsAll edition p (field t fs) = Keeps edition p t × KeepsAll edition p fs
