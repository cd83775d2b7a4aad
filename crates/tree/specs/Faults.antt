-- The rule of 8 to 13 that each node of a tree breaks in an edition: "at one node in number order".
use Rattle.std.specs.Prelude.{ℕ, cond, List, [], ◌∷◌, ◌++◌}
use Rattle.tree.specs.Annotated.{rule9, rule10, rule11}
use Rattle.tree.specs.Tree.{SlotBytes, Tree, Fields, node, empty, field}
use Rattle.tree.specs.Rules.{under_map_of, standing_below, rule8, rule12, rule13}
use Rattle.tree.specs.declared.standing.Standing.{Standing}

-- the least number of a rule that a node breaks, and 0 where it keeps them all
unfoldable pub broken : ℕ → Standing → SlotBytes → Fields → ℕ
broken edition p s fs =
    cond (rule8 p s fs)
    (cond (rule9 s)
    (cond (rule10 edition (under_map_of p) s)
    (cond (rule11 edition (under_map_of p) s)
    (cond (rule12 p s fs)
    (cond (rule13 p s fs) 0 13) 12) 11) 10) 9) 8

-- what each node breaks, in listing order
unfoldable mutual
  pub faults : ℕ → Standing → Tree → List ℕ
  faults edition p (node s fs) = broken edition p s fs ∷ run_faults edition (standing_below p s) fs

  pub run_faults : ℕ → Standing → Fields → List ℕ
  run_faults edition p empty = []
  run_faults edition p (field t fs) = faults edition p t ++ run_faults edition p fs
