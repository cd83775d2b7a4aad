-- The paths of a tree's nodes: the names from the root down.
use Rattle.std.specs.Prelude.{ℕ, List, [], ◌∷◌, ◌++◌}
use Rattle.sheet.specs.Slot.{name}
use Rattle.tree.specs.Tree.{Tree, Fields, node, empty, field}

-- the path of each node of a tree, in listing order, and of each node of a run, below a node with this path
unfoldable mutual
  pub paths_below : List (List ℕ) → Tree → List (List (List ℕ))
  paths_below path (node s fs) = (path ++ (name s ∷ [])) ∷ run_paths_below (path ++ (name s ∷ [])) fs

  pub run_paths_below : List (List ℕ) → Fields → List (List (List ℕ))
  run_paths_below path empty = []
  run_paths_below path (field t fs) = paths_below path t ++ run_paths_below path fs

-- those of a whole tree
abbrev pub paths : Tree → List (List (List ℕ))
paths t = paths_below [] t
