-- Document 02, R-8. The levels of a node: "how many nodes on the path from the root to this node are optional or repeated, and how many are repeated".
use Rattle.std.specs.Prelude.{ℕ, ◌+◌, Bool, cond, ◌||◌, List, [], ◌∷◌, eqb}
use Rattle.parquet.specs.Repetition.{OPTIONAL, REPEATED}
use Rattle.sheet.specs.Slot.{repetition}
use Rattle.tree.specs.Tree.{Tree, node}

-- the repetitions that count in the one level and in the other
abbrev pub is_optional_or_repeated : ℕ → Bool
is_optional_or_repeated code = eqb code OPTIONAL || eqb code REPEATED

abbrev pub is_repeated_code : ℕ → Bool
is_repeated_code code = eqb code REPEATED

-- 1 where a node of this repetition counts
abbrev pub counted : (ℕ → Bool) → ℕ → ℕ
counted counts code = cond (counts code) 1 0

-- a path is some nodes with what stands below them: first the one that it leads to, then the parent of each, the root last. How many of them count:
unfoldable pub how_many : (ℕ → Bool) → List Tree → ℕ
how_many counts [] = 0
how_many counts (node s fs ∷ above) = how_many counts above + counted counts (repetition s)

-- the levels of the node that a path leads to
abbrev pub definition_level_of : List Tree → ℕ
definition_level_of path = how_many is_optional_or_repeated path

abbrev pub repetition_level_of : List Tree → ℕ
repetition_level_of path = how_many is_repeated_code path
