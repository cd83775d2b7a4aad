-- What the steps of writing rows and of rewriting answer, which the contracts of private functions cite. Nothing here is a promise to a caller.
use Rattle.std.specs.Prelude.{ℕ, ◌≤◌, ◌≡◌, List, [], ◌∷◌, get_or, Bool, eqb}
use Rattle.parquet.specs.Logical as logical
use Rattle.annotation.specs.Rewriting.{written_of}
use Rattle.annotation.specs.declared.rewriting.Written.{Written}
use Rattle.tree.specs.Annotated.{annotated}
use Rattle.tree.specs.Tree.{SlotBytes, Tree, most_depth}
use Rattle.tree.specs.Judgement.{judgement_of}
use Rattle.std.specs.Prelude.{Ok}
use Rattle.schema.specs.Levels.{definition_level_of, repetition_level_of}
use Rattle.schema.specs.Rows.{FIELD, LIST_LAYER, ELEMENT, ELEMENT_LAYER, KEY_VALUE_LAYER, KEY, VALUE, BARE_REPEATED}
use Rattle.schema.specs.declared.roles.Role.{Role}
use Rattle.schema.specs.declared.roles.Role.TheVariants as role
use Rattle.schema.specs.declared.rows.Row.{Row}

-- the number of a role in a row
unfoldable pub role_number : Role → ℕ
role_number role.Field = FIELD
role_number role.ListLayer = LIST_LAYER
role_number role.Element = ELEMENT
role_number role.ElementLayer = ELEMENT_LAYER
role_number role.KeyValueLayer = KEY_VALUE_LAYER
role_number role.Key = KEY
role_number role.Value = VALUE
role_number role.BareRepeated = BARE_REPEATED

-- a row's numbers in their order
unfoldable pub row_numbers : Row → List ℕ
row_numbers r =
    r.physical ∷ r.type_length ∷ r.repetition ∷ r.kind ∷ r.p1 ∷ r.p2 ∷ r.parent ∷ r.end ∷ r.role ∷ r.definition_level ∷ r.repetition_level ∷ []

-- a path has these levels
pub record HasLevels (path : List Tree) (definition repetition : ℕ) : Type 0 where
  pub definition_is : definition ≡ definition_level_of path
  pub repetition_is : repetition ≡ repetition_level_of path

-- levels that so many nodes at the most make
pub record LevelsAtMost (n definition repetition : ℕ) : Type 0 where
  pub definition_most : definition ≤ n
  pub repetition_most : repetition ≤ n

-- of nodes that stand at such depths none is too deep
unfoldable pub NoneTooDeep : List ℕ → Type 0
NoneTooDeep depths = (k : ℕ) → get_or depths k 0 ≤ most_depth

-- a sheet that some edition accepts, and how many nodes it has
abbrev pub AcceptedOf : List ℕ → ℕ → Type 0
AcceptedOf bytes total = (edition : ℕ) × (judgement_of edition bytes ≡ Ok total)

-- whether a node, its parent a resolved MAP or not, is written as a MAP
unfoldable pub is_written_map : Bool → SlotBytes → Bool
is_written_map under s = eqb (written_of (annotated s) under).logical logical.MAP

-- what is written of nodes one after the other, where the parent of the first is a resolved MAP or not, and that of each other is one where the node before it is
unfoldable pub written_in_order : Bool → List SlotBytes → List Written
written_in_order under [] = []
written_in_order under (s ∷ ss) = written_of (annotated s) under ∷ written_in_order (is_written_map under s) ss
