-- The rows of a tree: eleven numbers for each node, in listing order.
use Rattle.std.specs.Prelude.{ℕ, zero, suc, ◌+◌, ◌*◌, Bool, true, false, cond, List, [], ◌∷◌, ◌++◌, eqb, get_or, drop}
use Rattle.parquet.specs.Repetition.{REPEATED}
use Rattle.parquet.specs.Logical as logical
use Rattle.annotation.specs.Signed.{natural}
use Rattle.annotation.specs.declared.resolution.Kind.{Kind}
use Rattle.sheet.specs.Slot.{physical, repetition, type_length_of}
use Rattle.tree.specs.Annotated.{kind}
use Rattle.tree.specs.Tree.{SlotBytes, Tree, Fields, node, empty, field, size}
use Rattle.tree.specs.Rules.{is_group, is_element_group}
use Rattle.schema.specs.Levels.{definition_level_of, repetition_level_of}
use Rattle.schema.specs.declared.roles.Parent.{Parent}
use Rattle.schema.specs.declared.roles.Parent.TheVariants as parent

-- what a node's parent is to it (`Parent`): a `List` or a `Map`, by its resolved kind; a `ListLayer` that holds a LIST's element; the key_value layer of
-- a MAP, of which the node is the first field (`KeyValue`) or a later one (`KeyValueRest`); or any `Other`. Whether it is a resolved MAP:
abbrev pub is_map_parent : Parent → Bool
is_map_parent parent.Other = false
is_map_parent parent.List = false
is_map_parent parent.ListLayer = false
is_map_parent parent.Map = true
is_map_parent parent.KeyValue = false
is_map_parent parent.KeyValueRest = false

-- "Role: 0 field, 1 list layer, 2 element (a rule 1 leaf too), 3 group layer that is the element, 4 key_value layer, 5 key, 6 value, 7 bare repeated"
abbrev pub FIELD : ℕ
FIELD = 0

abbrev pub LIST_LAYER : ℕ
LIST_LAYER = 1

abbrev pub ELEMENT : ℕ
ELEMENT = 2

abbrev pub ELEMENT_LAYER : ℕ
ELEMENT_LAYER = 3

abbrev pub KEY_VALUE_LAYER : ℕ
KEY_VALUE_LAYER = 4

abbrev pub KEY : ℕ
KEY = 5

abbrev pub VALUE : ℕ
VALUE = 6

abbrev pub BARE_REPEATED : ℕ
BARE_REPEATED = 7

-- the role of a LIST's child: a leaf, a group that is the element, or a group that holds it
unfoldable pub list_role : SlotBytes → SlotBytes → Fields → ℕ
list_role list s fs = cond (is_group (physical s)) (cond (is_element_group list s fs) ELEMENT_LAYER LIST_LAYER) ELEMENT

-- "any other repeated node has 7, the rest 0"
abbrev pub own_role : ℕ → ℕ
own_role rep = cond (eqb rep REPEATED) BARE_REPEATED FIELD

-- the role of a node, by what its parent is to it
unfoldable pub role : Parent → SlotBytes → SlotBytes → Fields → ℕ
role parent.Other above s fs = own_role (repetition s)
role parent.List above s fs = list_role above s fs
role parent.ListLayer above s fs = ELEMENT
role parent.Map above s fs = KEY_VALUE_LAYER
role parent.KeyValue above s fs = KEY
role parent.KeyValueRest above s fs = VALUE

-- what a node is to its fields: by its resolved kind, or by its own role
unfoldable pub parent_by : ℕ → ℕ → Parent
parent_by kind role =
    cond (eqb kind logical.LIST) parent.List
    (cond (eqb kind logical.MAP) parent.Map
    (cond (eqb role LIST_LAYER) parent.ListLayer
    (cond (eqb role KEY_VALUE_LAYER) parent.KeyValue parent.Other)))

-- what it is to the fields after the first: "key first; then value"
abbrev pub after_first : Parent → Parent
after_first parent.Other = parent.Other
after_first parent.List = parent.List
after_first parent.ListLayer = parent.ListLayer
after_first parent.Map = parent.Map
after_first parent.KeyValue = parent.KeyValueRest
after_first parent.KeyValueRest = parent.KeyValueRest

-- one row: physical, type length, repetition, kind, p1, p2, parent, end, role and, of document 02's R-8, the two levels
unfoldable pub row : ℕ → ℕ → Parent → SlotBytes → List Tree → SlotBytes → Fields → List ℕ
row at up p above path s fs =
    physical s
    ∷ natural (type_length_of s)
    ∷ repetition s
    ∷ (kind (is_map_parent p) s).kind
    ∷ (kind (is_map_parent p) s).p1
    ∷ (kind (is_map_parent p) s).p2
    ∷ up
    ∷ (at + size (node s fs))
    ∷ role p above s fs
    ∷ definition_level_of (node s fs ∷ path)
    ∷ repetition_level_of (node s fs ∷ path)
    ∷ []

-- what a node is to its fields
unfoldable pub parent_of : Parent → SlotBytes → SlotBytes → Fields → Parent
parent_of p above s fs = parent_by (kind (is_map_parent p) s).kind (role p above s fs)

-- the rows of a tree whose root has the number `at`, under the node `above` of number `up`, which is p to it; the path leads from the root to `above`
unfoldable mutual
  pub rows_from : ℕ → ℕ → Parent → SlotBytes → List Tree → Tree → List ℕ
  rows_from at up p above path (node s fs) = row at up p above path s fs ++ run_rows_from (suc at) at (parent_of p above s fs) s (node s fs ∷ path) fs

  pub run_rows_from : ℕ → ℕ → Parent → SlotBytes → List Tree → Fields → List ℕ
  run_rows_from at up p above path empty = []
  run_rows_from at up p above path (field t fs) = rows_from at up p above path t ++ run_rows_from (at + size t) up (after_first p) above path fs

-- a tree's rows, its nodes numbered from 0: the root's parent is 0, and no path leads further up
unfoldable pub rows : Tree → List ℕ
rows t = rows_from 0 0 parent.Other [] [] t

-- how many numbers a row has
abbrev pub row_width : ℕ
row_width = 11

-- the kind, p1 and p2 that stand in each of n rows
unfoldable pub kinds_in : List ℕ → ℕ → List Kind
kinds_in numbers zero = []
kinds_in numbers (suc n) = record { kind = get_or numbers 3 0; p1 = get_or numbers 4 0; p2 = get_or numbers 5 0 } ∷ kinds_in (drop row_width numbers) n

-- number j, from 0, of the row of node k
unfoldable pub number_in : List ℕ → ℕ → ℕ → ℕ
number_in numbers k j = get_or (drop (row_width * k) numbers) j 0
