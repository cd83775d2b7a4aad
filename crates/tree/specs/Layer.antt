-- A LIST's repeated group by how many fields it has and the repetition of the first: it is the element, its name decides that, or it is empty.
-- `proofs/StructureLaws`' `element_at` and `held_at` say this in rule 12's own words (`Rules.is_element_group`, `Rules.holds_element`).
use Rattle.std.specs.Prelude.{ℕ, Bool, true, false, cond, eqb}
use Rattle.parquet.specs.Repetition.{REPEATED}
use Rattle.tree.specs.Rules.{is_required_or_optional}
use Rattle.tree.specs.declared.layer.Layer.{Layer}
use Rattle.tree.specs.declared.layer.Layer.TheVariants.{Element, ByName, Empty}

unfoldable pub layer_of : ℕ → ℕ → Layer
layer_of children first = cond (eqb children 0) Empty (cond (eqb children 1) (cond (eqb first REPEATED) Element ByName) Element)

-- whether it is the element, being named so or not
unfoldable pub is_element_by : Layer → Bool → Bool
is_element_by Element named = true
is_element_by ByName named = named
is_element_by Empty named = false

-- whether its one field is the element, having this repetition
unfoldable pub holds_by : Layer → ℕ → Bool
holds_by Element first = false
holds_by ByName first = is_required_or_optional first
holds_by Empty first = false
