-- The trees that a list of slots stands for.
use Rattle.std.specs.Prelude.{ℕ, zero, suc, List, [], ◌∷◌}
use Rattle.sheet.specs.Slot.{child_count}
use Rattle.tree.specs.Tree.{SlotBytes, Tree, Fields, node, empty, field}

-- the first n fields of a run, or all where it has fewer
unfoldable pub take_fields : ℕ → Fields → Fields
take_fields zero fs = empty
take_fields (suc n) empty = empty
take_fields (suc n) (field t fs) = field t (take_fields n fs)

-- a run without its first n fields
unfoldable pub drop_fields : ℕ → Fields → Fields
drop_fields zero fs = fs
drop_fields (suc n) empty = empty
drop_fields (suc n) (field t fs) = drop_fields n fs

-- the trees that stand one after the other in a list of slots: a slot's tree has as many of the trees that follow it as it claims, the others follow it
unfoldable pub trees : List SlotBytes → Fields
trees [] = empty
trees (s ∷ ss) = field (node s (take_fields (child_count s) (trees ss))) (drop_fields (child_count s) (trees ss))

-- the first tree of a run, and a node of no bytes where it has none
unfoldable pub first_tree : Fields → Tree
first_tree empty = node [] empty
first_tree (field t fs) = t

-- the tree of a list of slots: that of its first slot
unfoldable pub tree_of : List SlotBytes → Tree
tree_of ss = first_tree (trees ss)
